-- Rows as values: what sound rows say, part by part.
use Rattle.std.proofs.Common.{◌≡◌, ℕ, ◌<◌, true, eqb, List, [], ◌∷◌, length, drop, replicate, sym, refl, ap, ◌∙◌, arith}
use Rattle.std.specs.List.{list_all}
use Rattle.std.proofs.lemmas.Bool.{and_parts, and_from, eqb-true, eq-eqb}
use Rattle.gossip.specs.UnderLemmas.{under_antisym}
use Rattle.gossip.specs.Messages.{sound, wide_timestamp}
use Rattle.gossip.specs.Timestamps.{under, zero_from}
use Rattle.gossip.specs.declared.timestamp.Timestamp.{Timestamp}
use Rattle.gossip.proofs.Loops.{every-at}
use Rattle.gossip.proofs.Sound.{HeadParts, parts, head_to_parts}
use Rattle.gossip.proofs.TimestampBytes.{padded-take}
use Rattle.checkpoint.specs.Checkpoints.{Saved, sound_saved, sound_rows, rows_all_hold, row, zero}
use Rattle.checkpoint.specs.FormatLaws.{OwnRow}

-- a timestamp has seven parts
pub wide_long : (t : Timestamp) → wide_timestamp t ≡ true → length t.parts ≡ 7
wide_long t w = eqb-true _ 7 (and_parts (eqb (length t.parts) 7) _ w).0

-- one whose parts are all 0 is zero
zero_is : (t : Timestamp) → wide_timestamp t ≡ true → zero_from 0 t.parts ≡ true → t ≡ zero
zero_is t w z = ap (λ x. record { parts = x }) (sym (padded-take 0 t.parts (omega arith) (wide_long t w) z))

pub zeros_are : (rows : List Timestamp) → list_all wide_timestamp rows ≡ true → list_all (λ r. zero_from 0 r.parts) rows ≡ true → rows ≡ replicate (length rows) zero
zeros_are [] w z = refl
zeros_are (r ∷ rows) w z =
    let a = and_parts (wide_timestamp r) _ w in
    let b = and_parts (zero_from 0 r.parts) _ z in
    λ i. zero_is r a.0 b.0 i ∷ zeros_are rows a.1 b.1 i

-- the parts of sound rows, but for what is told of the own row
pub record RowsParts (n : ℕ) (t : Timestamp) (rows : List Timestamp) : Type 0 where
  pub long : length rows ≡ 7
  pub wide : list_all wide_timestamp rows ≡ true
  pub zeros : list_all (λ r. zero_from 0 r.parts) (drop n rows) ≡ true
  pub beneath : list_all (λ r. under r.parts t.parts) rows ≡ true

module _ (n own : ℕ) (t : Timestamp) (rows : List Timestamp) where
  pub rows_parts : sound_rows n own t rows ≡ true → RowsParts n t rows × (under t.parts (row rows own).parts ≡ true)
  rows_parts s =
      let a = and_parts (eqb (length rows) 7) _ s in
      let b = and_parts (list_all wide_timestamp rows) _ a.1 in
      let c = and_parts (list_all (λ r. zero_from 0 r.parts) (drop n rows)) _ b.1 in
      let d = and_parts (list_all (λ r. under r.parts t.parts) rows) _ c.1 in
      (record { long = eqb-true _ 7 a.0; wide = b.0; zeros = c.0; beneath = d.0 }, d.1)

  pub rows_sound : RowsParts n t rows → under t.parts (row rows own).parts ≡ true → sound_rows n own t rows ≡ true
  rows_sound p o = and_from _ _ (eq-eqb _ 7 p.long) (and_from _ _ p.wide (and_from _ _ p.zeros (and_from _ _ p.beneath o)))

  -- seven wide rows, zero from the n-th on, are sound where they hold
  pub rows_whole : length rows ≡ 7 → list_all wide_timestamp rows ≡ true → list_all (λ r. zero_from 0 r.parts) (drop n rows) ≡ true → sound_rows n own t rows ≡ rows_all_hold own t rows
  rows_whole l w z = rw (eq-eqb (length rows) 7 l, w, z)

-- a sound checkpoint in its parts
pub record SavedParts (c : Saved) : Type 0 where
  pub message : sound c.message ≡ true
  pub head : HeadParts c.message.head
  pub rows : RowsParts c.message.head.n c.message.head.timestamp c.rows
  pub above : under c.message.head.timestamp.parts (row c.rows c.message.head.sender).parts ≡ true

pub saved_parts : (c : Saved) → sound_saved c ≡ true → SavedParts c
saved_parts c s =
    let a = and_parts (sound c.message) _ s in
    let b = rows_parts _ _ _ c.rows a.1 in
    record { message = a.0; head = head_to_parts _ (parts c.message a.0).head; rows = b.0; above = b.1 }

pub own_row : OwnRow
own_row c s =
    let p = saved_parts c s in
    let i = c.message.head.sender in
    let t = c.message.head.timestamp in
    let rows = p.rows in
    let within : c.message.head.sender < length c.rows = omega (arith, p.head.member, p.head.most, p.rows.long) in
    let u = every-at (λ r. under r.parts t.parts) c.rows i zero within rows.beneath in
    let w = every-at wide_timestamp c.rows i zero within rows.wide in
    let l = wide_long (row c.rows i) w ∙ sym (wide_long t p.head.wide) in
    ap (λ x. record { parts = x }) (under_antisym (row c.rows i).parts t.parts l u p.above)
