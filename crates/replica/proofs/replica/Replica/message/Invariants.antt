use Rattle.std.proofs.Common.{◌≡◌, take}
use Rattle.replica.specs.Contents.{memory}
use Rattle.replica.specs.Memories.{message_of}
use Rattle.replica.proofs.replica.Replica.message.Given as goal

-- the first entries are told
abbrev pub invariant-loop-entry : goal.invariant-loop-entry
invariant-loop-entry l = l.message ≡ record { head = (message_of l.self.membership (memory l.self)).head; entries = take l.entry-index l.self.table }
