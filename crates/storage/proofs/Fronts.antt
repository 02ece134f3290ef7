-- The piece at the front of the bytes of a log.
use Rattle.std.proofs.Common.{◌≡◌, ℕ, ◌+◌, ◌*◌, ◌<◌, ◌≤◌, ◌%◌, ◌/◌, List, ◌++◌, length, take, drop, get_or, ap, ◌∙◌, arith, take-append-drop}
use Rattle.std.proofs.lemmas.List.{drop_more, get_or-take}
use Rattle.storage.specs.Logs.{encode}

-- a head hd that gives the number k, a zero and the length n of the bytes bs, and behind it these bytes and the rest
pub encode_front : (log hd behind bs rest : List ℕ) (k n : ℕ) → hd ≡ take 4 log → behind ≡ drop 4 log → 4 ≤ length log → k ≡ get_or hd 0 0 → get_or hd 1 0 ≡ 0 → get_or log 2 0 < 256 → n ≡ get_or hd 2 0 + get_or hd 3 0 * 256 → length bs ≡ n → bs ≡ take n behind → rest ≡ drop n behind → log ≡ encode k bs ++ rest
encode_front log hd behind bs rest k n front back long number zeroed low size whole first last =
    let a = drop_more log 0 0 (omega arith) in
    let b = drop_more log 1 0 (omega arith) in
    let d = drop_more log 2 0 (omega arith) in
    let e = drop_more log 3 0 (omega arith) in
    let split = take-append-drop n behind in
    let read : (i : ℕ) → i < 4 → get_or hd i 0 ≡ get_or log i 0 = λ i lt. ap (λ z. get_or z i 0) front ∙ get_or-take 4 log i 0 lt in
    let number_is : get_or log 0 0 ≡ k = omega (arith, read 0 (omega arith)) in
    let zero_is : get_or log 1 0 ≡ 0 = omega (arith, read 1 (omega arith)) in
    let low_is : get_or log 2 0 ≡ length bs % 256 = omega (arith, read 2 (omega arith)) in
    let high_is : get_or log 3 0 ≡ length bs / 256 = omega (arith, read 2 (omega arith), read 3 (omega arith)) in
    cc
