-- A test over a list, as a loop decides it: what is left decides the whole.
use Rattle.std.proofs.Common.{◌≡◌, ℕ, zero, suc, ◌+◌, ◌<◌, ◌≤◌, Bool, true, false, ◌&&◌, List, [], ◌∷◌, ◌++◌, length, get_or, take, drop, Some, None, Option, sym, refl, ap, ◌∙◌, arith}
use Rattle.std.specs.List.{list_all}
use Rattle.std.proofs.lemmas.List.{at_drop_more, at_drop_all, take_more}
use Rattle.std.proofs.lemmas.Bool.{le-ltb, lt-ltb, and_from, and_parts}
use Rattle.gossip.specs.Messages.{rises}

module _ {X : Type 0} (p : X → Bool) (xs : List X) (i : ℕ) (all : Bool) where
  pub every_stop : (d : X) → i < length xs → p (get_or xs i d) ≡ false → list_all p (drop i xs) ≡ all → false ≡ all
  every_stop d h f e =
      let s : list_all p (drop i xs) ≡ (p (get_or xs i d) && list_all p (drop (i + 1) xs)) = at_drop_more (list_all p) xs i d h in
      sym (ap (λ t. t && list_all p (drop (i + 1) xs)) f) ∙ sym s ∙ e

  pub every_more : (d : X) → i < length xs → p (get_or xs i d) ≡ true → list_all p (drop i xs) ≡ all → list_all p (drop (i + 1) xs) ≡ all
  every_more d h f e =
      let s : list_all p (drop i xs) ≡ (p (get_or xs i d) && list_all p (drop (i + 1) xs)) = at_drop_more (list_all p) xs i d h in
      sym (ap (λ t. t && list_all p (drop (i + 1) xs)) f) ∙ sym s ∙ e

  pub every_all : length xs ≤ i → list_all p (drop i xs) ≡ all → true ≡ all
  every_all h e = sym (at_drop_all (list_all p) xs i h) ∙ e

-- one more that passes
pub every_push : {X : Type 0} (p : X → Bool) (xs : List X) (x : X) → list_all p xs ≡ true → p x ≡ true → list_all p (xs ++ x ∷ []) ≡ true
every_push p [] x e f = and_from (p x) true f refl
every_push p (y ∷ xs) x e f = let a = and_parts (p y) (list_all p xs) e in and_from (p y) _ a.0 (every_push p xs x a.1 f)

pub every_take : {X : Type 0} (p : X → Bool) (xs : List X) (i : ℕ) (d : X) → i < length xs → list_all p (take i xs) ≡ true → p (get_or xs i d) ≡ true → list_all p (take (i + 1) xs) ≡ true
every_take p xs i d h e f = rw (take_more xs i d h) (every_push p (take i xs) (get_or xs i d) e f)

-- what all pass, those from the n-th on pass, and the i-th
pub every_drop : {X : Type 0} (p : X → Bool) (n : ℕ) (xs : List X) → list_all p xs ≡ true → list_all p (drop n xs) ≡ true
every_drop p zero xs e = e
every_drop p (suc n) [] e = refl
every_drop p (suc n) (x ∷ xs) e = every_drop p n xs (and_parts (p x) (list_all p xs) e).1

pub every-at : {X : Type 0} (p : X → Bool) (xs : List X) (i : ℕ) (d : X) → i < length xs → list_all p xs ≡ true → p (get_or xs i d) ≡ true
every-at p [] i d h e = absurd (omega arith)
every-at p (x ∷ xs) zero d h e = (and_parts (p x) (list_all p xs) e).0
every-at p (x ∷ xs) (suc i) d h e = every-at p xs i d (omega arith) (and_parts (p x) (list_all p xs) e).1

-- whether numbers rise, behind the one before them if there is one
abbrev pub rises_behind : Option ℕ → List ℕ → Bool
rises_behind None xs = rises xs
rises_behind (Some x) xs = rises (x ∷ xs)

-- none before any number
pub rises_behind_stop : (x y : ℕ) (ys : List ℕ) (all : Bool) → y ≤ x → rises_behind (Some x) (y ∷ ys) ≡ all → false ≡ all
rises_behind_stop x y ys all h e = sym (ap (λ t. t && rises (y ∷ ys)) (le-ltb x y h)) ∙ e

-- a number above the one before it leaves the rest to decide
pub rises_behind_more : (x y : ℕ) (ys : List ℕ) (all : Bool) → x < y → rises_behind (Some x) (y ∷ ys) ≡ all → rises_behind (Some y) ys ≡ all
rises_behind_more x y ys all h e = sym (ap (λ t. t && rises (y ∷ ys)) (lt-ltb x y h)) ∙ e

pub rises_behind_none : (o : Option ℕ) → rises_behind o [] ≡ true
rises_behind_none None = refl
rises_behind_none (Some x) = refl
