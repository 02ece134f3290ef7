-- Multipart timestamps, as lists of their parts: one counter for each replica of a group.
--
-- part s p           the counter of replica p in s, 0 past the end of s
-- under s t          s is at or under t: each part of s is at most that part of t
-- merged s t         the larger of each part
-- bumped s p         one more in part p
-- padded s           s with zeros behind it, seven parts in all
-- zero_from n s      the parts from the n-th on are 0, as in every timestamp of n replicas
-- group_size n       a group can have n replicas: n is 1 to 7
-- exactly n k        k numbers are a timestamp of n replicas: k is n, and n a group's size
-- exactly_bytes n k  k bytes are one, four to a number: k is 4n, and n a group's size
use Rattle.std.specs.Prelude.{ℕ, zero, suc, ◌+◌, ◌-◌, ◌*◌, max, Bool, true, ◌&&◌, List, [], ◌∷◌, ◌++◌, length, replicate, ◌==◌, nat_le, slice_index, slice_set}

abbrev pub part : List ℕ → ℕ → ℕ
part s p = slice_index s p

abbrev pub under : List ℕ → List ℕ → Bool
under [] t = true
under (x ∷ s) [] = nat_le x 0 && under s []
under (x ∷ s) (y ∷ t) = nat_le x y && under s t

abbrev pub merged : List ℕ → List ℕ → List ℕ
merged [] t = t
merged (x ∷ s) [] = x ∷ s
merged (x ∷ s) (y ∷ t) = max x y ∷ merged s t

abbrev pub bumped : List ℕ → ℕ → List ℕ
bumped s p = slice_set s p (part s p + 1)

abbrev pub padded : List ℕ → List ℕ
padded s = s ++ replicate (7 - length s) 0

abbrev pub zero_from : ℕ → List ℕ → Bool
zero_from n [] = true
zero_from zero (x ∷ s) = x == 0 && zero_from zero s
zero_from (suc n) (x ∷ s) = zero_from n s

abbrev pub group_size : ℕ → Bool
group_size n = nat_le 1 n && nat_le n 7

abbrev pub exactly : ℕ → ℕ → Bool
exactly n k = group_size n && k == n

abbrev pub exactly_bytes : ℕ → ℕ → Bool
exactly_bytes n k = group_size n && k == 4 * n
