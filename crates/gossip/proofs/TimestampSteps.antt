-- One turn of the loops over the parts. Assumes nothing.
use Rattle.std.proofs.Common.{◌≡◌, ℕ, suc, ◌+◌, ◌-◌, ◌*◌, ◌<◌, ◌≤◌, max, true, ltb, ◌⊎◌, List, map, cond, length, get_or, drop, ap, length-append, ◌∙◌, inl, inr, mul_comm, arith}
use Rattle.std.proofs.Math.ListN.{get_or-append}
use Rattle.std.proofs.Math.Seq.{get_or-append_right}
use Rattle.std.specs.List.{range_with_len}
use Rattle.std.proofs.lemmas.List.FromFn.{fill_by_all}
use Rattle.gossip.proofs.NumberLaws.{length-counters, counter-at}
use Rattle.gossip.proofs.TimestampLaws.{length_merged, part-merged}
use Rattle.gossip.specs.Numbers.{counters, field}
use Rattle.std.proofs.lemmas.List.{length-replicate, get_or-replicate, drop_more}
use Rattle.std.proofs.lemmas.Bool.{eqb-true, and_parts, cases_lt, lt-ltb, le-ltb}
use Rattle.gossip.specs.Timestamps.{merged, padded, zero_from, exactly, group_size}

-- the merge, part by part
pub merged-list : (s t : List ℕ) (n : ℕ) → length s ≡ n → length t ≡ n → merged s t ≡ map (λ (i : ℕ). max (get_or s i 0) (get_or t i 0)) (range_with_len 0 n)
merged-list s t n l m = fill_by_all _ (merged s t) n 0 (length_merged s t ∙ omega arith) (λ k h. part-merged s t k)

-- a timestamp of n replicas has n parts, and n is a group's size
pub exact_length : (n k : ℕ) → exactly n k ≡ true → k ≡ n
exact_length n k e = eqb-true k n (and_parts (group_size n) _ e).1

-- whether the parts from the n-th on are 0, past one part: one of the first n, or a zero
pub zero_from_past : (n : ℕ) (s : List ℕ) (i : ℕ) → i < length s → i < n → zero_from (n - (i + 1)) (drop (i + 1) s) ≡ zero_from (n - i) (drop i s)
zero_from_past n s i h l = let e : n - i ≡ suc (n - (i + 1)) = omega arith in rw (drop_more s i 0 h, e)

pub zero_from_zero : (n : ℕ) (s : List ℕ) (i : ℕ) → i < length s → n ≤ i → get_or s i 0 ≡ 0 → zero_from (n - (i + 1)) (drop (i + 1) s) ≡ zero_from (n - i) (drop i s)
zero_from_zero n s i h l z =
    let e : n - i ≡ 0 = omega arith in
    let f : n - (i + 1) ≡ 0 = omega arith in
    rw (drop_more s i 0 h, z, e, f)

-- n parts read from bytes, and zeros behind them, part by part
pub timestamp-list : (n : ℕ) (b : List ℕ) → n ≤ 7 → padded (counters n b) ≡ map (λ (i : ℕ). cond (ltb i n) (field (4 * i) 4 b) 0) (range_with_len 0 7)
timestamp-list n b h =
    let l : length (counters n b) ≡ n = length-counters n b in
    fill_by_all _ (padded (counters n b)) 7 0 (simp (length-append, length-replicate) (omega arith)) (λ k g. at k g (cases_lt k n))
  where
    at : (k : ℕ) → k < 7 → (k < n) ⊎ (n ≤ k) → get_or (padded (counters n b)) k 0 ≡ cond (ltb k n) (field (4 * k) 4 b) 0
    at k z (inl g) =
        let f : get_or (counters n b) k 0 ≡ field (k * 4) 4 b = counter-at n b k g in
        rw (lt-ltb k n g, get_or-append (counters n b) _ 0 k (omega (arith, length-counters n b))) (f ∙ ap (λ j. field j 4 b) (mul_comm k 4))
    at k z (inr g) =
        rw (le-ltb k n g, get_or-append_right (counters n b) _ k 0 (omega (arith, length-counters n b))) (get_or-replicate (7 - length (counters n b)) (k - length (counters n b)) 0 0 (omega (arith, length-counters n b)))
