-- Bumped and merged timestamps stay in bounds: seven parts of 32 bits, 0 from the n-th on; and what was covered stays covered.
use Rattle.std.proofs.Common.{◌≡◌, ℕ, zero, suc, ◌+◌, ◌^◌, ◌<◌, max, true, eqb, ltb, List, [], ◌∷◌, length, set, refl, ◌∙◌, arith, length-set}
use Rattle.std.specs.List.{list_all}
use Rattle.std.proofs.lemmas.Bool.{and_parts, and_from, eqb-true, eq-eqb, le-leb, ltb-true, lt-ltb}
use Rattle.gossip.specs.Messages.{wide_timestamp}
use Rattle.gossip.specs.Timestamps.{part, under, merged, bumped, zero_from}
use Rattle.gossip.specs.declared.timestamp.Timestamp.{Timestamp}
use Rattle.gossip.specs.UnderLemmas.{under_refl}
use Rattle.gossip.proofs.TimestampLaws.{length_merged}
use Rattle.replica.proofs.EveryKept.{every_set}

pub under-bumped : (s : List ℕ) (i : ℕ) → under s (bumped s i) ≡ true
under-bumped [] i = refl
under-bumped (x ∷ s) zero = and_from _ _ (le-leb x (x + 1) (omega arith)) (under_refl s)
under-bumped (x ∷ s) (suc i) = and_from _ _ (le-leb x x (omega arith)) (under-bumped s i)

-- only parts before the n-th change
pub zero_from-set : (n : ℕ) (s : List ℕ) (i x : ℕ) → i < n → zero_from n s ≡ true → zero_from n (set s i x) ≡ true
zero_from-set n [] i x l z = refl
zero_from-set zero (y ∷ s) i x l z = absurd (omega arith)
zero_from-set (suc n) (y ∷ s) zero x l z = z
zero_from-set (suc n) (y ∷ s) (suc i) x l z = zero_from-set n s i x (omega arith) z

pub zero_from-merged : (n : ℕ) (s t : List ℕ) → zero_from n s ≡ true → zero_from n t ≡ true → zero_from n (merged s t) ≡ true
zero_from-merged n [] t y z = z
zero_from-merged n (a ∷ s) [] y z = y
zero_from-merged zero (a ∷ s) (b ∷ t) y z =
    let v = and_parts (eqb a 0) (zero_from 0 s) y in
    let w = and_parts (eqb b 0) (zero_from 0 t) z in
    let d = eqb-true a 0 v.0 in
    let e = eqb-true b 0 w.0 in
    and_from _ _ (eq-eqb (max a b) 0 (omega arith)) (zero_from-merged zero s t v.1 w.1)
zero_from-merged (suc n) (a ∷ s) (b ∷ t) y z = zero_from-merged n s t y z

pub narrow_merged : (w : ℕ) (s t : List ℕ) → list_all (λ x. ltb x w) s ≡ true → list_all (λ x. ltb x w) t ≡ true → list_all (λ x. ltb x w) (merged s t) ≡ true
narrow_merged w [] t y z = z
narrow_merged w (a ∷ s) [] y z = y
narrow_merged w (a ∷ s) (b ∷ t) y z =
    let u = and_parts (ltb a w) (list_all (λ x. ltb x w) s) y in
    let v = and_parts (ltb b w) (list_all (λ x. ltb x w) t) z in
    let d = ltb-true a w u.0 in
    let e = ltb-true b w v.0 in
    and_from _ _ (lt-ltb (max a b) w (omega arith)) (narrow_merged w s t u.1 v.1)

-- the parts of a wide timestamp
pub record WideParts (t : Timestamp) : Type 0 where
  pub seven : length t.parts ≡ 7
  pub narrow : list_all (λ x. ltb x (2 ^ 32)) t.parts ≡ true

pub wide_parts : (t : Timestamp) → wide_timestamp t ≡ true → WideParts t
wide_parts t w = let a = and_parts (eqb (length t.parts) 7) _ w in record { seven = eqb-true _ 7 a.0; narrow = a.1 }

pub wide_whole : (t : Timestamp) → WideParts t → wide_timestamp t ≡ true
wide_whole t w = and_from _ _ (eq-eqb _ 7 w.seven) w.narrow

pub wide_bumped : (t : Timestamp) (i : ℕ) → wide_timestamp t ≡ true → ltb (part t.parts i) 4294967295 ≡ true → wide_timestamp record { parts = bumped t.parts i } ≡ true
wide_bumped t i w l =
    let a = wide_parts t w in
    let h = ltb-true (part t.parts i) 4294967295 l in
    wide_whole record { parts = bumped t.parts i } record {
      seven = length-set t.parts i _ ∙ a.seven;
      narrow = every_set (λ x. ltb x (2 ^ 32)) t.parts i _ a.narrow (lt-ltb (part t.parts i + 1) (2 ^ 32) (omega arith));
    }

pub wide_merged : (s t : Timestamp) → wide_timestamp s ≡ true → wide_timestamp t ≡ true → wide_timestamp record { parts = merged s.parts t.parts } ≡ true
wide_merged s t v w =
    let a = wide_parts s v in
    let b = wide_parts t w in
    let l = length_merged s.parts t.parts in
    wide_whole record { parts = merged s.parts t.parts }
    record { seven = omega (arith, l, a.seven, b.seven); narrow = narrow_merged (2 ^ 32) s.parts t.parts a.narrow b.narrow }
