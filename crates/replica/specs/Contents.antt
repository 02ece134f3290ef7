-- What the code's replica means.
--
-- memory r                what a replica knows
-- change_of, receipt_of   the code's answers in the words of the rule
-- Took s before r then    what a call that takes the step s promises: it answers r, the step's answer or its refusal, and leaves the step's memory and the membership
use Rattle.std.specs.Prelude.{◌≡◌, Some, None, Option, Result}
use Rattle.gossip.specs.declared.timestamp.Timestamp.{Timestamp}
use Rattle.replica.specs.Answers.{Answer, set, same, old, new, Step, answered, left}
use Rattle.replica.specs.Memories.{Memory}
use Rattle.replica.specs.declared.outcome.Change.{Change}
use Rattle.replica.specs.declared.outcome.Change.TheVariants.{Set, Same}
use Rattle.replica.specs.declared.refusal.Refusal.{Refusal}
use Rattle.replica.specs.declared.replica.Replica.{Replica}

unfoldable pub memory : Replica → Memory
memory r = record { clock = r.clock; timestamp = r.timestamp; entries = r.table; rows = r.rows }

abbrev pub change_of : Change → Answer
change_of (Set t) = set t
change_of (Same t) = same t

abbrev pub receipt_of : Option Timestamp → Answer
receipt_of None = old
receipt_of (Some t) = new t

pub record Took (s : Result Step Refusal) (before : Replica) (r : Result Answer Refusal) (then : Replica) : Type 0 where
  pub answer : r ≡ answered s
  pub after : memory then ≡ left s (memory before)
  pub kept : then.membership ≡ before.membership
