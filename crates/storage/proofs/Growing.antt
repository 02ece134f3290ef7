-- An index of a log that grows.
use Rattle.std.specs.Prelude.{◌≡◌, ℕ, suc, ◌+◌, ◌≤◌, List, [], ◌∷◌, ◌++◌, length, take, drop, replicate, Some, None, Option, slice_set, refl}
use Rattle.std.proofs.Common.{sym, ap, ◌∙◌, arith, length-append, length-drop}
use Rattle.std.proofs.lemmas.List.{append_assoc, drop-append-le, take-append-le, drop_at, take_all, map-set}
use Rattle.std.proofs.lemmas.Grind.{common_steps}
use Rattle.storage.specs.Spans.{spanned, indexed, end_of, Inside}
use Rattle.storage.specs.declared.log.span.Span.{Span}

-- what lies before stays
spanned-append : (log more : List ℕ) (o : Option Span) → end_of o ≤ length log → spanned (log ++ more) o ≡ spanned log o
spanned-append log more None h = refl
spanned-append log more (Some p) h = grind (arith, common_steps, drop-append-le, take-append-le, length-drop)

indexed-append : (log more : List ℕ) (index : List (Option Span)) → Inside (length log) index → indexed (log ++ more) index ≡ indexed log index
indexed-append log more [] h = refl
indexed-append log more (o ∷ os) h = rw (spanned-append log more o (h 0), indexed-append log more os (λ k. h (suc k)))

-- what is added is found, and what was there stays
pub indexed_grown : (log hd bs : List ℕ) (index : List (Option Span)) (k : ℕ) (p : Span) → Inside (length log) index → p.at ≡ length log + length hd → p.len ≡ length bs → indexed (log ++ (hd ++ bs)) (slice_set index k (Some p)) ≡ slice_set (indexed log index) k bs
indexed_grown log hd bs index k p h at len =
    let new : spanned (log ++ (hd ++ bs)) (Some p) ≡ bs
    = ap (λ z. take p.len (drop p.at z)) (sym (append_assoc log hd bs)) ∙ ap (take p.len) (drop_at (log ++ hd) bs p.at (length-append log hd ∙ sym at)) ∙ take_all p.len bs (omega arith) in
    rw (map-set, new, indexed-append log (hd ++ bs) index h)

pub inside_grown : (n m : ℕ) (index : List (Option Span)) (k : ℕ) (o : Option Span) → Inside n index → n ≤ m → end_of o ≤ m → Inside m (slice_set index k o)
inside_grown n m index k o h le within j = grind (arith, common_steps, h j)

pub nowhere_inside : (n : ℕ) → Inside n (replicate 7 None)
nowhere_inside n k = grind (arith, common_steps)
