-- Bytes written one after another.
use Rattle.std.proofs.Common.{◌≡◌, ℕ, zero, suc, ◌+◌, ◌<◌, ◌≤◌, List, [], ◌∷◌, ◌++◌, length, get_or, take, drop, sym, refl, ap, ◌∙◌, append_assoc, append-nil, add-zero, arith, length-append, take-append-drop, length-take-le, drop-drop, take_at}
use lib.Seq.{drop-append-add}
use borrow.Rule.Slice.PartMut.{put_mid}
use Rattle.std.proofs.lemmas.List.{drop_all}
use Rattle.gossip.specs.Numbers.{bytes, spell, total, put_at, joined}
use Rattle.gossip.proofs.NumberLaws.{length-bytes}

-- nothing written
pub put_none : (at : ℕ) (o : List ℕ) → put_at at [] o ≡ o
put_none at o = rw add-zero (take-append-drop at o)

-- ys written behind xs
pub put_more : (at : ℕ) (xs ys o : List ℕ) (k : ℕ) → at + length xs ≡ k → k ≤ length o → put_at k ys (put_at at xs o) ≡ put_at at (xs ++ ys) o
put_more at xs ys o k e l =
    let a = length-take-le at o (omega arith) in
    let p : length (take at o ++ xs) ≡ k = simp length-append (omega arith) in
    let q : put_at at xs o ≡ (take at o ++ xs) ++ drop k o = ap (λ j. take at o ++ (xs ++ drop j o)) e ∙ sym (append_assoc (take at o) xs (drop k o)) in
    let t : take k ((take at o ++ xs) ++ drop k o) ≡ take at o ++ xs = take_at (take at o ++ xs) (drop k o) k p in
    let d : drop (k + length ys) ((take at o ++ xs) ++ drop k o) ≡ drop (k + length ys) o
    = ap (λ j. drop (j + length ys) ((take at o ++ xs) ++ drop k o)) (sym p) ∙ drop-append-add (take at o ++ xs) (drop k o) (length ys) ∙ drop-drop (length ys) k o in
    let n : k + length ys ≡ at + length (xs ++ ys) = simp length-append (omega arith) in
    ap (put_at k ys) q ∙ ap (λ z. z ++ (ys ++ drop (k + length ys) ((take at o ++ xs) ++ drop k o))) t ∙ ap (λ z. (take at o ++ xs) ++ (ys ++ z)) d
    ∙ ap (λ j. (take at o ++ xs) ++ (ys ++ drop j o)) n ∙ append_assoc (take at o) xs (ys ++ drop (at + length (xs ++ ys)) o)
    ∙ ap (λ z. take at o ++ z) (sym (append_assoc xs ys (drop (at + length (xs ++ ys)) o)))

-- the same of what two writes left
pub put_then : (at k : ℕ) (xs ys o o₁ o₂ : List ℕ) → at + length xs ≡ k → k ≤ length o → o₁ ≡ put_at at xs o → o₂ ≡ put_at k ys o₁ → o₂ ≡ put_at at (xs ++ ys) o
put_then at k xs ys o o₁ o₂ e l p q = q ∙ ap (put_at k ys) p ∙ put_more at xs ys o k e l

-- what is written to the front can be taken from there
pub take_put : (k : ℕ) (xs o out : List ℕ) → length xs ≡ k → out ≡ put_at 0 xs o → take k out ≡ xs
take_put k xs o out l e = ap (take k) e ∙ take_at xs (drop (0 + length xs) o) k l

-- as many bytes as there were are all that is left
pub put_whole : (xs o : List ℕ) → length xs ≡ length o → put_at 0 xs o ≡ xs
put_whole xs o l =
    let d : drop (0 + length xs) o ≡ [] = drop_all (0 + length xs) o (omega arith) in
    ap (λ z. xs ++ z) d ∙ append-nil xs

pub length-spell : (ws vs : List ℕ) → length ws ≡ length vs → length (spell ws vs) ≡ total ws
unfolding spell
length-spell [] vs h = refl
length-spell (w ∷ ws) [] h = absurd (omega arith)
length-spell (w ∷ ws) (v ∷ vs) h =
    let r = length-spell ws vs (omega arith) in
    let b = length-bytes w v in
    simp length-append (omega arith)

-- one more number, of one more width
pub spell_push : (ws vs : List ℕ) (w v : ℕ) → length ws ≡ length vs → spell (ws ++ w ∷ []) (vs ++ v ∷ []) ≡ spell ws vs ++ bytes w v
unfolding spell
spell_push [] [] w v h = append-nil (bytes w v)
spell_push [] (x ∷ vs) w v h = absurd (omega arith)
spell_push (u ∷ ws) [] w v h = absurd (omega arith)
spell_push (u ∷ ws) (x ∷ vs) w v h = ap (λ z. bytes u x ++ z) (spell_push ws vs w v (omega arith)) ∙ sym (append_assoc (bytes u x) (spell ws vs) (bytes w v))

-- a write to a part, as the checker reads it
pub put_mid-put_at : (at k : ℕ) (o ys : List ℕ) → length ys ≡ k → put_mid at k o ys ≡ put_at at ys o
put_mid-put_at at k o ys l = ap (λ z. take at o ++ (ys ++ z)) (drop-drop k at o ∙ ap (λ j. drop (at + j) o) (sym l))

pub joined_push : {X : Type 0} (f : X → List ℕ) (xs : List X) (i : ℕ) (d : X) → i < length xs → joined f (take (i + 1) xs) ≡ joined f (take i xs) ++ f (get_or xs i d)
unfolding joined
joined_push f [] i d h = absurd (omega arith)
joined_push f (x ∷ xs) zero d h = append-nil (f x)
joined_push f (x ∷ xs) (suc i) d h =
    let r = joined_push f xs i d (omega arith) in
    let e : suc i + 1 ≡ suc (i + 1) = omega arith in
    rw (e, append_assoc) (ap (λ t. f x ++ t) r)
