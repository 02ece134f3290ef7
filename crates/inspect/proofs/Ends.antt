-- What is kept of a line.
use Rattle.std.proofs.Common.{◌≡◌, ℕ, ◌+◌, ◌-◌, ◌≤◌, min, List, ◌++◌, length, take, sym, ap, ◌∙◌, arith}
use Rattle.std.proofs.Math.Seq.{take-append-add}
use Rattle.std.proofs.lemmas.List.{take_min}

-- as many bytes as there is room for, behind those that are kept
pub appended : (kept b : List ℕ) (m : ℕ) → length kept ≤ 6642 → m ≡ min (6642 - length kept) (length b) → kept ++ take m b ≡ take 6642 (kept ++ b)
appended kept b m h e =
    let k : length kept + (6642 - length kept) ≡ 6642 = omega arith in
    ap (λ n. kept ++ take n b) e ∙ ap (λ t. kept ++ t) (take_min (6642 - length kept) b)
    ∙ sym (take-append-add kept b (6642 - length kept)) ∙ ap (λ n. take n (kept ++ b)) k
