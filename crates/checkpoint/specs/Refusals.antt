-- Why a checkpoint cannot be read: the refusal 29, which carries the number of its message's refusal, or 0.
--
-- number r      29
-- carried r     20 to 26 for the message; 0 for the rows, the length, the group, n or the replica
-- cause r       the cause in words
-- shown r       the three as they are printed, a space between each two
-- refused r     a result whose refusal is that of the checkpoint's message
use Rattle.std.specs.Prelude.{ℕ, List, ◌++◌, Ok, Err, codes, decimal, Result}
use Rattle.gossip.specs.Refusals as gossip
use Rattle.gossip.specs.declared.refusal.Refusal.{Refusal}
use Rattle.checkpoint.specs.declared.unreadable.Unreadable.{Unreadable}
use Rattle.checkpoint.specs.declared.unreadable.Unreadable.TheVariants.{Message, Rows, Owner}

abbrev pub number : Unreadable → ℕ
number r = 29

abbrev pub carried : Unreadable → ℕ
carried (Message r) = gossip.number r
carried Rows = 0
carried Owner = 0

abbrev pub cause : Unreadable → List ℕ
cause (Message r) = gossip.cause r
cause Rows = codes "its rows or its length are not the format's"
cause Owner = codes "it is of another group, n or replica"

abbrev pub shown : Unreadable → List ℕ
shown r = decimal (number r) ++ (codes " " ++ (decimal (carried r) ++ (codes " " ++ cause r)))

abbrev pub refused : {X : Type 0} → Result X Refusal → Result X Unreadable
refused (Ok x) = Ok x
refused (Err e) = Err (Message e)
