-- What a line of input is.
--
-- trimmed l   a line without the carriage return at its end
-- spelled cs  the bytes that digits spell, or the first thing that is wrong with them
-- line_of l   what a line is, or what is wrong with it
-- bytes_of l  the bytes of the message on a line; any other line has none
-- cause e     what is wrong with a line, in words
-- Decisive k  a line that was cut after 6,642 bytes, with k left of it, is what k is
use Rattle.std.specs.Prelude.{◌≡◌, ℕ, ◌%◌, cond, List, [], ◌∷◌, length, take, Ok, Err, codes, Result, ◌==◌, nat_le}
use Rattle.std.specs.Char.{is_ascii_hexdigit}
use Rattle.std.specs.Io.BufRead.{strip_last}
use Rattle.std.specs.List.{list_all}
use Rattle.gossip.specs.Refusals.{outcome}
use Rattle.inspect.specs.Hex.{pairs}
use Rattle.inspect.specs.declared.line.Line.{Line}
use Rattle.inspect.specs.declared.line.Line.TheVariants.{Blank, Note, Message}
use Rattle.inspect.specs.declared.line.Fault.{Fault}
use Rattle.inspect.specs.declared.line.Fault.TheVariants.{Long, NotHex, Odd}

-- the code of a carriage return is 13
abbrev pub trimmed : List ℕ → List ℕ
trimmed l = strip_last 13 l

-- at most 3,320 bytes, of two digits each
abbrev pub spelled : List ℕ → Result (List ℕ) Fault
spelled cs =
    cond (nat_le (length cs) 6640)
    (cond (list_all is_ascii_hexdigit cs)
    (cond (length cs % 2 == 0)
    (Ok (pairs cs))
    (Err Odd))
    (Err NotHex))
    (Err Long)

-- the bytes that are spelled; none where something is wrong
abbrev pub found : Result (List ℕ) Fault → List ℕ
found (Ok b) = b
found (Err e) = []

-- a line without its carriage return; the code of '#' is 35
abbrev pub text_of : List ℕ → Result Line Fault
text_of [] = Ok Blank
text_of (c ∷ cs) = cond (c == 35) (Ok Note) (outcome (λ _. Message) (spelled (c ∷ cs)))

abbrev pub text_bytes : List ℕ → List ℕ
text_bytes [] = []
text_bytes (c ∷ cs) = cond (c == 35) [] (found (spelled (c ∷ cs)))

abbrev pub line_of : List ℕ → Result Line Fault
line_of l = text_of (trimmed l)

abbrev pub bytes_of : List ℕ → List ℕ
bytes_of l = text_bytes (trimmed l)

abbrev pub Decisive : List ℕ → Type 0
Decisive k = (l : List ℕ) → k ≡ take 6642 l → (line_of k ≡ line_of l) × (bytes_of k ≡ bytes_of l)

abbrev pub cause : Fault → List ℕ
cause Long = codes "more than 3320 bytes"
cause NotHex = codes "not hexadecimal"
cause Odd = codes "an odd number of digits"
