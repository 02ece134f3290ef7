-- At-or-under is a partial order, and the merge is its least upper bound. Assumes nothing.
use Rattle.std.proofs.Common.{◌≡◌, ℕ, zero, suc, ◌≤◌, max, true, ◌&&◌, eqb, leb, ◌⊎◌, List, [], ◌∷◌, length, take, sym, refl, ap, arith}
use Rattle.std.proofs.lemmas.Bool.{and_parts, and_from, le-leb, eqb-true}
use Rattle.gossip.specs.Timestamps.{under, merged, part, zero_from}
use Rattle.gossip.specs.UnderLemmas.{under-part, part-under, under_refl, under_trans, under_antisym}
use Rattle.gossip.specs.TimestampLaws.{Order, Join}

pub part-merged : (s t : List ℕ) (p : ℕ) → part (merged s t) p ≡ max (part s p) (part t p)
part-merged [] t p = omega arith
part-merged (x ∷ s) [] zero = omega arith
part-merged (x ∷ s) [] (suc p) = omega arith
part-merged (x ∷ s) (y ∷ t) zero = refl
part-merged (x ∷ s) (y ∷ t) (suc p) = part-merged s t p

-- a merge covers what either covers
pub covers_merged : (k : ℕ) (s t : List ℕ) (p : ℕ) → k ≤ part (merged s t) p → (k ≤ part s p) ⊎ (k ≤ part t p)
covers_merged k s t p h = let e = part-merged s t p in grind arith

pub merged_covers : (k : ℕ) (s t : List ℕ) (p : ℕ) → (k ≤ part s p) ⊎ (k ≤ part t p) → k ≤ part (merged s t) p
merged_covers k s t p h = let e = part-merged s t p in grind arith

pub under-merged-left : (s t : List ℕ) → under s (merged s t) ≡ true
under-merged-left s t = part-under s (merged s t) (λ p. omega (arith, part-merged s t p))

pub under-merged_right : (s t : List ℕ) → under t (merged s t) ≡ true
under-merged_right s t = part-under t (merged s t) (λ p. omega (arith, part-merged s t p))

pub merged_least : (s t u : List ℕ) → under s u ≡ true → under t u ≡ true → under (merged s t) u ≡ true
merged_least s t u h k = part-under (merged s t) u (λ p. omega (arith, part-merged s t p, under-part s u h p, under-part t u k p))

pub merged_commutes : (s t : List ℕ) → merged s t ≡ merged t s
merged_commutes [] [] = refl
merged_commutes [] (y ∷ t) = refl
merged_commutes (x ∷ s) [] = refl
merged_commutes (x ∷ s) (y ∷ t) = let e : max x y ≡ max y x = omega arith in let f = merged_commutes s t in cc

pub merged_associates : (s t u : List ℕ) → merged (merged s t) u ≡ merged s (merged t u)
merged_associates [] t u = refl
merged_associates (x ∷ s) [] u = refl
merged_associates (x ∷ s) (y ∷ t) [] = refl
merged_associates (x ∷ s) (y ∷ t) (z ∷ u) = let e : max (max x y) z ≡ max x (max y z) = omega arith in let f = merged_associates s t u in cc

pub merged_repeats : (s : List ℕ) → merged s s ≡ s
merged_repeats [] = refl
merged_repeats (x ∷ s) = let e : max x x ≡ x = omega arith in let f = merged_repeats s in cc

pub length_merged : (s t : List ℕ) → length (merged s t) ≡ max (length s) (length t)
length_merged [] t = omega arith
length_merged (x ∷ s) [] = omega arith
length_merged (x ∷ s) (y ∷ t) = let e = length_merged s t in omega arith

zeros_under : (s t : List ℕ) → zero_from 0 s ≡ true → under s t ≡ true
zeros_under [] t z = refl
zeros_under (x ∷ s) [] z =
    let p = and_parts (eqb x 0) (zero_from 0 s) z in
    let e = eqb-true x 0 p.0 in
    and_from (leb x 0) (under s []) (le-leb x 0 (omega arith)) (zeros_under s [] p.1)
zeros_under (x ∷ s) (y ∷ t) z =
    let p = and_parts (eqb x 0) (zero_from 0 s) z in
    let e = eqb-true x 0 p.0 in
    and_from (leb x y) (under s t) (le-leb x y (omega arith)) (zeros_under s t p.1)

pub under_prefix : (n : ℕ) (s t : List ℕ) → zero_from n s ≡ true → under (take n s) (take n t) ≡ under s t
under_prefix zero [] t z = refl
under_prefix zero (x ∷ s) t z = sym (zeros_under (x ∷ s) t z)
under_prefix (suc n) [] t z = refl
under_prefix (suc n) (x ∷ s) [] z = ap (λ b. leb x 0 && b) (under-nil n s z)
  where
    under-nil : (n : ℕ) (s : List ℕ) → zero_from n s ≡ true → under (take n s) [] ≡ under s []
    under-nil zero s z = sym (zeros_under s [] z)
    under-nil (suc n) [] z = refl
    under-nil (suc n) (x ∷ s) z = ap (λ b. leb x 0 && b) (under-nil n s z)
under_prefix (suc n) (x ∷ s) (y ∷ t) z = ap (λ b. leb x y && b) (under_prefix n s t z)

pub order : Order
order = record {
  reflexive = under_refl;
  transitive = under_trans;
  antisymmetric = under_antisym;
  by_parts = λ s t. (under-part s t, part-under s t);
  prefix = under_prefix;
}

pub join : Join
join = record {
  left = under-merged-left;
  right = under-merged_right;
  least = merged_least;
  commutes = merged_commutes;
  associates = merged_associates;
  repeats = merged_repeats;
  covers = λ k s t p. (covers_merged k s t p, merged_covers k s t p);
}
