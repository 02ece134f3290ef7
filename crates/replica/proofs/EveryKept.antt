-- A test that each element of a list passes, when the test is weakened or the list is changed.
use Rattle.std.proofs.Common.{◌≡◌, ℕ, zero, suc, Bool, true, List, [], ◌∷◌, set, filter, refl, ⊎_elim}
use Rattle.std.specs.List.{list_all}
use Rattle.std.proofs.lemmas.Bool.{and_parts, and_from, cases_Bool}

pub every_weaker : {X : Type 0} (p q : X → Bool) (xs : List X) → ((x : X) → p x ≡ true → q x ≡ true) → list_all p xs ≡ true → list_all q xs ≡ true
every_weaker p q [] w e = refl
every_weaker p q (x ∷ xs) w e =
    let a = and_parts (p x) (list_all p xs) e in
    and_from (q x) _ (w x a.0) (every_weaker p q xs w a.1)

module _ {X : Type 0} (p : X → Bool) where
  pub every_set : (xs : List X) (i : ℕ) (y : X) → list_all p xs ≡ true → p y ≡ true → list_all p (set xs i y) ≡ true
  every_set [] i y e f = refl
  every_set (x ∷ xs) zero y e f = and_from (p y) _ f (and_parts (p x) (list_all p xs) e).1
  every_set (x ∷ xs) (suc i) y e f =
      let a = and_parts (p x) (list_all p xs) e in
      and_from (p x) _ a.0 (every_set xs i y a.1 f)

  pub every_kept : (q : X → Bool) (xs : List X) → list_all p xs ≡ true → list_all p (filter q xs) ≡ true
  every_kept q [] e = refl
  every_kept q (x ∷ xs) e =
      let a = and_parts (p x) (list_all p xs) e in
      ⊎_elim
      (λ t. rw t (and_from (p x) _ a.0 (every_kept q xs a.1)))
      (λ t. rw t (every_kept q xs a.1))
      (cases_Bool (q x))
