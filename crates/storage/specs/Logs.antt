-- The bytes of a log, and what a reader finds in them.
--
-- head k n            the head of n bytes saved for the number k: the number, a zero, and the length as two bytes, the low one first
-- encode k bs         how bytes saved for the number k stand in a log: their head, and the bytes behind it
-- size log            the length that the head at the front gives
-- sound_head k z n m  a head gives a number k of 0 to 6, a zero z, and a length n of 1 to 3320 that is not more than the m bytes left
-- sound log           a log begins with a whole sound head and all its bytes
-- scan f log saved    what the log makes of what was saved before it, by at most f heads; None where it is not a log
-- read_log log        what a log of at most 26592 bytes says is saved, of each number the last; None where it is not a log
use Rattle.std.specs.Prelude.{ℕ, zero, suc, ◌+◌, ◌-◌, ◌*◌, ◌/◌, ◌%◌, Bool, cond, ◌&&◌, List, [], ◌∷◌, ◌++◌, length, take, drop, replicate, Some, None, Option, ◌==◌, nat_le, slice_index, slice_set}

abbrev pub head : ℕ → ℕ → List ℕ
head k n = k ∷ 0 ∷ (n % 256) ∷ (n / 256) ∷ []

abbrev pub encode : ℕ → List ℕ → List ℕ
encode k bs = head k (length bs) ++ bs

abbrev pub size : List ℕ → ℕ
size log = slice_index log 2 + 256 * slice_index log 3

abbrev pub sound_head : ℕ → ℕ → ℕ → ℕ → Bool
sound_head k z n m = nat_le k 6 && (z == 0 && (nat_le 1 n && (nat_le n 3320 && nat_le n m)))

abbrev pub sound : List ℕ → Bool
sound log = nat_le 4 (length log) && sound_head (slice_index log 0) (slice_index log 1) (size log) (length log - 4)

unfoldable pub scan : ℕ → List ℕ → List (List ℕ) → Option (List (List ℕ))
scan zero log saved = cond (length log == 0) (Some saved) None
scan (suc f) log saved =
    cond (length log == 0) (Some saved) (cond (sound log) (scan f (drop (4 + size log) log) (slice_set saved (slice_index log 0) (take (size log) (drop 4 log)))) None)

unfoldable pub read_log : List ℕ → Option (List (List ℕ))
read_log log = cond (nat_le (length log) 26592) (scan (length log) log (replicate 7 [])) None
