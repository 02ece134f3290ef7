-- The refusals of this crate, by the numbers that every part of the service gives them.
--
-- number r        a refusal's number
-- cause r         its cause in words
-- shown r         the two as they are printed, a space between them
-- refused r       a result whose refusal is that of a message
use Rattle.std.specs.Prelude.{ℕ, List, ◌++◌, Ok, Err, codes, decimal, Result}
use Rattle.gossip.specs.Refusals as gossip
use Rattle.gossip.specs.declared.refusal.Refusal.{Refusal as MessageRefusal}
use Rattle.replica.specs.declared.refusal.Refusal.{Refusal}
use Rattle.replica.specs.declared.refusal.Refusal.TheVariants.{Replica, Value, Time, Late, Full, Spent, Size, Message, Group}

abbrev pub number : Refusal → ℕ
number Replica = 1
number Value = 3
number Time = 4
number Late = 5
number Full = 6
number Spent = 7
number Size = 13
number (Message r) = gossip.number r
number Group = 27

abbrev pub cause : Refusal → List ℕ
cause Replica = codes "no such replica"
cause Value = codes "not a value of the kind"
cause Time = codes "a time or a clock reading is too large"
cause Late = codes "the time and the grace are over"
cause Full = codes "more than 64 entries would result"
cause Spent = codes "the own part is 4294967295 and would rise"
cause Size = codes "n is outside 1 to 7"
cause (Message r) = gossip.cause r
cause Group = codes "a message of another group or n"

abbrev pub shown : Refusal → List ℕ
shown r = decimal (number r) ++ (codes " " ++ cause r)

abbrev pub refused : {X : Type 0} → Result X MessageRefusal → Result X Refusal
refused (Ok x) = Ok x
refused (Err e) = Err (Message e)
