-- The refusal of this crate, by the number that every part of the service gives it.
--
-- number r  a refusal's number
-- cause r   its cause in words
-- shown r   the two as they are printed, a space between them
use Rattle.std.specs.Prelude.{ℕ, List, ◌++◌, codes, decimal}
use Rattle.table.specs.declared.full.Full.{Full}

abbrev pub number : Full → ℕ
number r = 6

abbrev pub cause : Full → List ℕ
cause r = codes "more than 64 entries would result"

abbrev pub shown : Full → List ℕ
shown r = decimal (number r) ++ (codes " " ++ cause r)
