-- The order of timestamps, as Rust's `partial_cmp` answers it.
--
-- ordered a b     the order of two timestamps of which the first is at or under the second where a holds, and the second at or under the first where b does
-- compared s t    the order of s and t: timestamps of as many parts are compared by at-or-under, others not at all
use Rattle.std.specs.Prelude.{◌≡◌, ℕ, Bool, true, false, cond, List, length, Some, None, Option, ◌==◌, refl, nat_eq}
use Rattle.std.specs.declared.cmp.Ordering.{Ordering}
use Rattle.std.specs.declared.cmp.Ordering.TheVariants.{Less, Equal, Greater}
use Rattle.std.specs.Cmp.{IsPartialOrder, both_ways}
use Rattle.std.specs.Cmp.Lexicographic.{pointwise}
use Rattle.std.specs.Option.{option_map}
use Rattle.std.specs.Ordering.{on, ordering_reverse}
use Rattle.std.proofs.Common.{sym, ap, ◌∙◌, true≢false}
use Rattle.std.proofs.lemmas.Bool.{eqb-true, eq-eqb}
use Rattle.std.proofs.lemmas.Slice.Eq.{bytes_eq-Decides}
use Rattle.gossip.specs.Timestamps.{under}
use Rattle.gossip.specs.UnderLemmas.{under_refl, under_trans, under_antisym}
use Rattle.gossip.specs.declared.timestamp.Timestamp.{Timestamp}

abbrev pub ordered : Bool → Bool → Option Ordering
ordered true true = Some Equal
ordered true false = Some Less
ordered false true = Some Greater
ordered false false = None

abbrev pub compared : Timestamp → Timestamp → Option Ordering
compared s t = cond (length s.parts == length t.parts) (ordered (under s.parts t.parts) (under t.parts s.parts)) None

flipped : (l m a b : Bool) → l ≡ m → cond l (ordered a b) None ≡ option_map ordering_reverse (cond m (ordered b a) None)
flipped true true true true e = refl
flipped true true true false e = refl
flipped true true false true e = refl
flipped true true false false e = refl
flipped true false a b e = cc
flipped false true a b e = cc
flipped false false a b e = refl

eqb_comm : (m n : ℕ) → (m == n) ≡ (n == m)
eqb_comm m n = both_ways _ _ (λ e. eq-eqb n m (sym (eqb-true m n e))) (λ e. eq-eqb m n (sym (eqb-true n m e)))

less_parts : (l a b : Bool) → cond l (ordered a b) None ≡ Some Less → (l ≡ true) × (a ≡ true) × (b ≡ false)
less_parts true true true e = cc
less_parts true true false e = (refl, refl, refl)
less_parts true false true e = cc
less_parts true false false e = cc
less_parts false a b e = cc

equal_parts : (l a b : Bool) → cond l (ordered a b) None ≡ Some Equal → (l ≡ true) × (a ≡ true) × (b ≡ true)
equal_parts true true true e = (refl, refl, refl)
equal_parts true true false e = cc
equal_parts true false true e = cc
equal_parts true false false e = cc
equal_parts false a b e = cc

never : (b : Bool) → (b ≡ true → ⊥) → b ≡ false
never true f = absurd (f refl)
never false f = refl

trans : (s t u : Timestamp) → compared s t ≡ Some Less → compared t u ≡ Some Less → compared s u ≡ Some Less
trans s t u e f =
    let p = less_parts _ _ _ e in
    let q = less_parts _ _ _ f in
    let l : length s.parts ≡ length u.parts = eqb-true _ _ p.0 ∙ eqb-true _ _ q.0 in
    let back : under u.parts s.parts ≡ true → ⊥ = λ h. true≢false (sym (under_trans u.parts s.parts t.parts h p.1) ∙ q.2) in
    rw (eq-eqb _ _ l, under_trans s.parts t.parts u.parts p.1 q.1, never _ back)

alike : (s t : Timestamp) → s.parts ≡ t.parts → compared s t ≡ Some Equal
alike s t e =
    let l : length s.parts ≡ length t.parts = ap length e in
    let u : under s.parts t.parts ≡ true = ap (under s.parts) (sym e) ∙ under_refl s.parts in
    let v : under t.parts s.parts ≡ true = ap (under t.parts) e ∙ under_refl t.parts in
    rw (eq-eqb _ _ l, u, v)

same : (s t : Timestamp) → compared s t ≡ Some Equal → s.parts ≡ t.parts
same s t e = let p = equal_parts _ _ _ e in under_antisym s.parts t.parts (eqb-true _ _ p.0) p.1 p.2

pub compared_lawful : IsPartialOrder (on (λ s. s.parts) (pointwise nat_eq)) compared
compared_lawful = record {
  antisymm = λ s t. flipped _ _ _ _ (eqb_comm (length s.parts) (length t.parts));
  trans = trans;
  matches_eq = λ s t. (λ h. alike s t ((bytes_eq-Decides s.parts t.parts).0 h), λ e. (bytes_eq-Decides s.parts t.parts).1 (same s t e));
  congr = λ s t u h. ap (λ (xs : List ℕ). compared (record { parts = xs }) u) ((bytes_eq-Decides s.parts t.parts).0 h);
}
