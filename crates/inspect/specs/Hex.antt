-- Hexadecimal digits, and the bytes that they spell.
--
-- digit c        the value of a digit of either case, by its code
-- byte high low  the byte of two digits
-- pairs cs       the bytes that digits spell, two to a byte
use Rattle.std.specs.Prelude.{ℕ, ◌+◌, ◌*◌, cond, List, [], ◌∷◌, Some, None, Option}
use Rattle.std.specs.Char.{digit_value, is_ascii_hexdigit}
use Rattle.std.specs.Option.{unwrap_or}

abbrev pub digit : ℕ → Option ℕ
digit c = cond (is_ascii_hexdigit c) (Some (digit_value c)) None

abbrev pub byte : ℕ → ℕ → ℕ
byte high low = 16 * unwrap_or (digit high) 0 + unwrap_or (digit low) 0

abbrev pub pairs : List ℕ → List ℕ
pairs [] = []
pairs (high ∷ []) = []
pairs (high ∷ low ∷ cs) = byte high low ∷ pairs cs
