-- At-or-under, part by part: it is reflexive, transitive and, between lists of one length, antisymmetric. Assumes nothing.
use Rattle.std.proofs.Common.{◌≡◌, ℕ, zero, suc, ◌≤◌, true, leb, List, [], ◌∷◌, length, refl, arith}
use Rattle.std.proofs.lemmas.Bool.{and_parts, and_from, leb-true, le-leb}
use Rattle.gossip.specs.Timestamps.{under, part}

-- what the test tells, part by part
pub under-part : (s t : List ℕ) → under s t ≡ true → (p : ℕ) → part s p ≤ part t p
under-part [] t h p = omega arith
under-part (x ∷ s) [] h zero = leb-true x 0 (and_parts (leb x 0) (under s []) h).0
under-part (x ∷ s) [] h (suc p) = under-part s [] (and_parts (leb x 0) (under s []) h).1 p
under-part (x ∷ s) (y ∷ t) h zero = leb-true x y (and_parts (leb x y) (under s t) h).0
under-part (x ∷ s) (y ∷ t) h (suc p) = under-part s t (and_parts (leb x y) (under s t) h).1 p

pub part-under : (s t : List ℕ) → ((p : ℕ) → part s p ≤ part t p) → under s t ≡ true
part-under [] t f = refl
part-under (x ∷ s) [] f = and_from (leb x 0) (under s []) (le-leb x 0 (f 0)) (part-under s [] (λ p. f (suc p)))
part-under (x ∷ s) (y ∷ t) f = and_from (leb x y) (under s t) (le-leb x y (f 0)) (part-under s t (λ p. f (suc p)))

pub under_refl : (s : List ℕ) → under s s ≡ true
under_refl s = part-under s s (λ p. omega arith)

pub under_trans : (s t u : List ℕ) → under s t ≡ true → under t u ≡ true → under s u ≡ true
under_trans s t u h k = part-under s u (λ p. omega (arith, under-part s t h p, under-part t u k p))

pub under_antisym : (s t : List ℕ) → length s ≡ length t → under s t ≡ true → under t s ≡ true → s ≡ t
under_antisym [] [] e h k = refl
under_antisym [] (y ∷ t) e h k = absurd (omega arith)
under_antisym (x ∷ s) [] e h k = absurd (omega arith)
under_antisym (x ∷ s) (y ∷ t) e h k =
    let a = and_parts (leb x y) (under s t) h in
    let b = and_parts (leb y x) (under t s) k in
    let l = leb-true x y a.0 in
    let m = leb-true y x b.0 in
    let v : x ≡ y = omega arith in
    let w = under_antisym s t (omega arith) a.1 b.1 in
    cc
