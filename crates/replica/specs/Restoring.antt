-- A checkpoint read by the replica that it belongs to.
--
-- is_own p c           the checkpoint is of this replica: its group, n and replica are those of the membership p
-- encode_memory k p m  the bytes of a replica's checkpoint
-- decode_memory k p b  the memory that the bytes of a checkpoint of this replica spell, or why they spell none
-- restored r m         the memory after reading a checkpoint that gives r, which was m: a refusal changes nothing
use Rattle.std.specs.Prelude.{ℕ, Bool, ◌&&◌, List, Ok, Err, Result, ◌==◌}
use Rattle.gossip.specs.Lattices.{Kind}
use Rattle.gossip.specs.Refusals.{unless, and_then}
use Rattle.checkpoint.specs.Checkpoints.{Saved}
use Rattle.checkpoint.specs.Format.{decode_saved, encode_saved}
use Rattle.checkpoint.specs.declared.unreadable.Unreadable.{Unreadable}
use Rattle.checkpoint.specs.declared.unreadable.Unreadable.TheVariants.{Owner}
use Rattle.replica.specs.Memories.{Memory, saved_of, memory_of}
use Rattle.replica.specs.declared.membership.Membership.{Membership}

abbrev pub is_own : Membership → Saved → Bool
is_own p c = c.message.head.group == p.group && (c.message.head.n == p.n && c.message.head.sender == p.replica)

abbrev pub encode_memory : Kind → Membership → Memory → List ℕ
encode_memory k p m = encode_saved k (saved_of p m)

abbrev pub decode_memory : Kind → Membership → List ℕ → Result Memory Unreadable
decode_memory k p b = and_then (decode_saved k b) (λ c. unless (is_own p c) Owner (Ok (memory_of c)))

abbrev pub restored : Result Memory Unreadable → Memory → Memory
restored (Ok m) before = m
restored (Err e) before = before
