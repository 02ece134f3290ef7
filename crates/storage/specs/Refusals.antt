-- Why a call of this crate is refused.
--
-- cause r          a refusal's cause in words, as it is printed
-- not_a_log_cause  the cause of the refusal of bytes that are not those of a log
use Rattle.std.specs.Prelude.{ℕ, List, codes}
use Rattle.storage.specs.declared.refusals.Refusal.{Refusal}
use Rattle.storage.specs.declared.refusals.Refusal.TheVariants.{Number, Length, Room}

abbrev pub cause : Refusal → List ℕ
cause Number = codes "the number is above 6"
cause Length = codes "the length is not 1 to 3320"
cause Room = codes "the buffer has less than 3320 bytes"

abbrev pub not_a_log_cause : List ℕ
not_a_log_cause = codes "the bytes are not those of a log"
