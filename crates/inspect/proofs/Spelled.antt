-- Digits in pairs, from the front on.
use Rattle.std.proofs.Common.{◌≡◌, ℕ, ◌+◌, ◌*◌, true, List, [], ◌∷◌, ◌++◌, length, get_or, Some, unwrap_or, sym, refl, ap, ◌∙◌, arith, append_assoc}
use Rattle.std.specs.Char.{is_ascii_hexdigit}
use Rattle.std.specs.List.{list_all}
use Rattle.std.proofs.lemmas.Bool.{and_parts}
use Rattle.std.proofs.lemmas.List.Folds.{list_all-append}
use Rattle.inspect.specs.Hex.{digit, byte, pairs}

pairs_next : (p r : List ℕ) → length p ≡ 2 → pairs (p ++ r) ≡ byte (get_or p 0 0) (get_or p 1 0) ∷ pairs r
pairs_next [] r h = absurd (omega arith)
pairs_next (a ∷ []) r h = absurd (omega arith)
pairs_next (a ∷ b ∷ []) r h = refl
pairs_next (a ∷ b ∷ c ∷ p) r h = absurd (omega arith)

-- one more byte is spelled
pub spelled_more : (bytes rest p r all : List ℕ) (high low : ℕ) → bytes ++ pairs rest ≡ all → rest ≡ p ++ r → length p ≡ 2
    → Some high ≡ digit (get_or p 0 0) → Some low ≡ digit (get_or p 1 0) → (bytes ++ (16 * high + low) ∷ []) ++ pairs r ≡ all
spelled_more bytes rest p r all high low before e h i j =
    let b : 16 * high + low ≡ byte (get_or p 0 0) (get_or p 1 0) = ap (λ o. 16 * unwrap_or o 0 + low) i ∙ ap (λ o. 16 * unwrap_or (digit (get_or p 0 0)) 0 + unwrap_or o 0) j in
    append_assoc bytes ((16 * high + low) ∷ []) (pairs r) ∙ ap (λ x. bytes ++ x ∷ pairs r) b ∙ ap (λ xs. bytes ++ xs) (sym (pairs_next p r h) ∙ ap pairs (sym e)) ∙ before

-- what stands behind some of them are digits too
pub digits_behind : (rest p r : List ℕ) → list_all is_ascii_hexdigit rest ≡ true → rest ≡ p ++ r → list_all is_ascii_hexdigit r ≡ true
digits_behind rest p r all e = (and_parts _ _ (sym (list_all-append is_ascii_hexdigit p r) ∙ ap (list_all is_ascii_hexdigit) (sym e) ∙ all)).1
