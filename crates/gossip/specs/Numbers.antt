-- Bytes: little-endian numbers, numbers of several widths one after another, and pieces of one size.
--
-- number b        the number that bytes write, the lowest byte first
-- bytes w v       the lowest w bytes of a number, the lowest first
-- field at w b    the number in the w bytes from a place on
-- pieces s k b    the first k pieces of s bytes each
-- whole_pieces s b  b cut into pieces of s bytes, as many as are whole
-- counters k b    the first k numbers of four bytes each
-- spell ws vs     the numbers vs of widths ws, one after another
-- total ws        how many bytes these widths take together
-- joined f xs     what f makes of each of xs, one after another
-- put_at at xs o  o with xs written over it from a place on
-- Bytes b         each of b is a byte
use Rattle.std.specs.Prelude.{ℕ, zero, suc, ◌+◌, ◌*◌, ◌/◌, ◌%◌, ◌<◌, List, [], ◌∷◌, ◌++◌, map, length, take, drop, slice_index}

unfoldable pub number : List ℕ → ℕ
number [] = 0
number (b ∷ bs) = b + 256 * number bs

unfoldable pub bytes : ℕ → ℕ → List ℕ
bytes zero v = []
bytes (suc w) v = v % 256 ∷ bytes w (v / 256)

abbrev pub field : ℕ → ℕ → List ℕ → ℕ
field at w b = number (take w (drop at b))

unfoldable pub pieces : ℕ → ℕ → List ℕ → List (List ℕ)
pieces s zero b = []
pieces s (suc k) b = take s b ∷ pieces s k (drop s b)

abbrev pub whole_pieces : ℕ → List ℕ → List (List ℕ)
whole_pieces s b = pieces s (length b / s) b

abbrev pub counters : ℕ → List ℕ → List ℕ
counters k b = map number (pieces 4 k b)

unfoldable pub spell : List ℕ → List ℕ → List ℕ
spell [] vs = []
spell (w ∷ ws) [] = []
spell (w ∷ ws) (v ∷ vs) = bytes w v ++ spell ws vs

abbrev pub total : List ℕ → ℕ
total [] = 0
total (w ∷ ws) = w + total ws

unfoldable pub joined : {X : Type 0} → (X → List ℕ) → List X → List ℕ
joined f [] = []
joined f (x ∷ xs) = f x ++ joined f xs

abbrev pub put_at : ℕ → List ℕ → List ℕ → List ℕ
put_at at xs o = take at o ++ (xs ++ drop (at + length xs) o)

abbrev pub Bytes : List ℕ → Type 0
Bytes b = (i : ℕ) → slice_index b i < 256
