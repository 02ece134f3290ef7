-- What an array made by a function of the index has in it.
use Rattle.std.proofs.Common.{◌≡◌, ℕ, zero, suc, ◌+◌, ◌-◌, ◌<◌, ◌≤◌, List, ◌++◌, map, length, get_or, replicate, subst, sym, ap, ◌∙◌, arith}
use borrow.Rule.Slice.PartMut.{Post-is, post_of}
use Rattle.std.proofs.lemmas.List.{drop-replicate}
use Rattle.std.proofs.lemmas.List.FromFn.{fill_by_all}
use Rattle.std.specs.Array.{IsFromFnResultFrom, IsFromFnResult}
use Rattle.std.specs.List.{range_with_len}
use denote.Param.Members.{Mut, Called}

module _ {F X : Type 0} (g : Mut F (ℕ × Unit {0}) X) (f : F) (h : ℕ → X) (made : (i : ℕ) (x : X) (q : F) → Called g f (i, tt) x q → (q ≡ f) × (x ≡ h i)) (xs : List X) where
  element_from : (i n : ℕ) → IsFromFnResultFrom g f xs i n → (k j : ℕ) (d : X) → k < n → i + k ≡ j → get_or xs j d ≡ h j
  element_from i zero e k j d l s = absurd (omega arith)
  element_from i (suc n) (q, x, here, called, rest) zero j d l s =
      let m = made i x q called in
      let z : i ≡ j = omega arith in
      subst (λ (v : ℕ). get_or xs v d ≡ h v) z (here.1 d ∙ m.1)
  element_from i (suc n) (q, x, here, called, rest) (suc k) j d l s =
      let m = made i x q called in
      element_from (i + 1) n (subst (λ (p : F). IsFromFnResultFrom g p xs (i + 1) n) m.0 rest) k j d (omega arith) (omega arith)

  -- it is the list of what the function makes of the indices
  pub made_list : (n : ℕ) (d : X) → IsFromFnResult g f xs n → xs ≡ map h (range_with_len 0 n)
  made_list n d e = fill_by_all h xs n d e.long (λ k l. element_from 0 n e.each k k d l (omega arith))

-- n numbers written to the front of k zeros
pub front_filled : (k n : ℕ) (xs ys : List ℕ) → length xs ≡ n → n ≤ k → ys ≡ xs → ys ++ post_of {X = ℕ} 0 (n - 0) (replicate k 0) ≡ xs ++ replicate (k - length xs) 0
front_filled k n xs ys l h e =
    let p : post_of {X = ℕ} 0 (n - 0) (replicate k 0) ≡ replicate (k - n) 0 = Post-is 0 n (replicate k 0) (omega arith) ∙ drop-replicate n k 0 in
    rw (e, p) (ap (λ (j : ℕ). xs ++ replicate (k - j) 0) (sym l))
