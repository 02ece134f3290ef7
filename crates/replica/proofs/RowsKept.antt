-- What every replica keeps of its rows: their parts, under a timestamp that grows and when one of them is changed.
use Rattle.std.proofs.Common.{◌≡◌, ℕ, ◌<◌, ◌≤◌, true, List, set as update, ap, ◌∙◌, arith}
use Rattle.std.specs.List.{list_all}
use Rattle.std.proofs.lemmas.List.{length-set, get_or-set_same, drop-set-lt}
use Rattle.gossip.specs.Messages.{wide_timestamp}
use Rattle.gossip.specs.Timestamps.{under, zero_from}
use Rattle.gossip.specs.declared.timestamp.Timestamp.{Timestamp}
use Rattle.gossip.proofs.Loops.{every-at}
use Rattle.gossip.specs.UnderLemmas.{under_trans, under_refl}
use Rattle.checkpoint.specs.Checkpoints.{zero, row}
use Rattle.checkpoint.proofs.Rows.{RowsParts}
use Rattle.replica.proofs.EveryKept.{every_weaker, every_set}

-- rows under a timestamp are under a later one
pub rows_wider : (n : ℕ) (s t : Timestamp) (rows : List Timestamp) → under s.parts t.parts ≡ true → RowsParts n s rows → RowsParts n t rows
rows_wider n s t rows u p = record {
  long = p.long;
  wide = p.wide;
  zeros = p.zeros;
  beneath = every_weaker (λ r. under r.parts s.parts) (λ r. under r.parts t.parts) rows (λ r h. under_trans r.parts s.parts t.parts h u) p.beneath;
}

module _ (n : ℕ) (t : Timestamp) (rows : List Timestamp) (p : RowsParts n t rows) where
  -- a row of the group in which another timestamp stands
  pub rows_update : (i : ℕ) (r : Timestamp) → i < n → wide_timestamp r ≡ true → under r.parts t.parts ≡ true → RowsParts n t (update rows i r)
  rows_update i r l w u = record {
    long = length-set rows i r ∙ p.long;
    wide = every_set wide_timestamp rows i r p.wide w;
    zeros = ap (list_all (λ r. zero_from 0 r.parts)) (drop-set-lt n rows i r l) ∙ p.zeros;
    beneath = every_set (λ r. under r.parts t.parts) rows i r p.beneath u;
  }

  pub row_wide : (i : ℕ) → i < 7 → wide_timestamp (row rows i) ≡ true
  row_wide i l = every-at wide_timestamp rows i zero (omega (arith, p.long)) p.wide

  pub row_covered : (i : ℕ) → i < 7 → under (row rows i).parts t.parts ≡ true
  row_covered i l = every-at (λ r. under r.parts t.parts) rows i zero (omega (arith, p.long)) p.beneath

  -- the timestamp written to the own row
  pub rows_own : (own : ℕ) → own < n → n ≤ 7 → wide_timestamp t ≡ true → RowsParts n t (update rows own t) × (under t.parts (row (update rows own t) own).parts ≡ true)
  rows_own own l m w =
      let e : row (update rows own t) own ≡ t = get_or-set_same rows own t zero (omega (arith, p.long)) in
      (rows_update own t l w (under_refl t.parts), ap (λ (r : Timestamp). under t.parts r.parts) e ∙ under_refl t.parts)
