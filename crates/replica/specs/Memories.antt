-- What a replica knows, and what of that is sound. Its membership p says which replica of which group it is: n, replica, group and grace.
--
-- Memory              a replica's clock, timestamp, entries and rows; row j is the latest timestamp that it has heard from replica j
-- fresh               the memory of a replica that knows nothing yet
-- alone               the membership of a replica that has joined no group yet: the only one of a group of its own
-- joins p             a membership that a replica can have: n is 1 to 7, and the replica is one of the n; or the refusal
-- message_of p m      the message that tells what the replica knows
-- saved_of p m        its checkpoint
-- memory_of c         the memory that a checkpoint says
-- sound_memory p m    what every replica keeps: its checkpoint is sound. So clock, times and parts are in bounds, parts and rows past n are 0, there are
--                     at most 64 entries, seats rise, tombstones' timestamps and rows are at or under the timestamp, and the own row equals it
-- of_kind_memory k m  the values are values of the kind k
use Rattle.std.specs.Prelude.{ℕ, Bool, List, [], replicate, Ok, Result, nat_lt}
use Rattle.std.specs.List.{list_all}
use Rattle.gossip.specs.Lattices.{Kind}
use Rattle.gossip.specs.Messages.{Message, of_kind_state}
use Rattle.gossip.specs.Refusals.{unless}
use Rattle.gossip.specs.declared.entry.Entry.{Entry}
use Rattle.gossip.specs.declared.timestamp.Timestamp.{Timestamp}
use Rattle.gossip.specs.Timestamps.{group_size}
use Rattle.checkpoint.specs.Checkpoints.{Saved, zero, sound_saved}
use Rattle.replica.specs.declared.membership.Membership.{Membership}
use Rattle.replica.specs.declared.refusal.Refusal.{Refusal}
use Rattle.replica.specs.declared.refusal.Refusal.TheVariants.{Replica, Size}

pub record Memory : Type 0 where
  pub clock : ℕ
  pub timestamp : Timestamp
  pub entries : List Entry
  pub rows : List Timestamp

abbrev pub fresh : Memory
fresh = record { clock = 0; timestamp = zero; entries = []; rows = replicate 7 zero }

abbrev pub alone : Membership
alone = record { n = 1; replica = 0; group = 0; grace = 0 }

abbrev pub joins : Membership → Result (Unit {0}) Refusal
joins p = unless (group_size p.n) Size (unless (nat_lt p.replica p.n) Replica (Ok tt))

abbrev pub message_of : Membership → Memory → Message
message_of p m = record { head = record { n = p.n; sender = p.replica; group = p.group; clock = m.clock; timestamp = m.timestamp }; entries = m.entries }

abbrev pub saved_of : Membership → Memory → Saved
saved_of p m = record { message = message_of p m; rows = m.rows }

abbrev pub memory_of : Saved → Memory
memory_of c = record { clock = c.message.head.clock; timestamp = c.message.head.timestamp; entries = c.message.entries; rows = c.rows }

abbrev pub sound_memory : Membership → Memory → Bool
sound_memory p m = sound_saved (saved_of p m)

abbrev pub of_kind_memory : Kind → Memory → Bool
of_kind_memory k m = list_all (λ e. of_kind_state k e.state) m.entries
