-- The checkpoint as bytes: a gossip message, and behind it n rows of n parts, four bytes each.
--
-- rows_length n       bytes of n rows of n parts
-- front_length b      how long the head says that the message is
-- rows_at n b         the n rows that bytes spell, and zeros for the replicas that the group has not
-- decode_saved k b    the checkpoint of the kind k that bytes spell; or the first rule that its message breaks, which is
--                    read from as many bytes as its head says, or from all where there are fewer; or that the rows or the length do not hold
-- encode_saved k c    the bytes of a checkpoint of the kind k
use Rattle.std.specs.Prelude.{ℕ, ◌-◌, ◌*◌, ◌&&◌, List, ◌++◌, map, length, take, drop, replicate, Ok, Result, ◌==◌, slice_index}
use Rattle.gossip.specs.Format.{decode, encode, encode_timestamp, message_length, timestamp_at}
use Rattle.gossip.specs.Lattices.{Kind}
use Rattle.gossip.specs.Messages.{Message}
use Rattle.gossip.specs.Numbers.{field, pieces, joined}
use Rattle.gossip.specs.Refusals.{unless, and_then}
use Rattle.gossip.specs.declared.timestamp.Timestamp.{Timestamp}
use Rattle.checkpoint.specs.Checkpoints.{Saved, zero, rows_all_hold}
use Rattle.checkpoint.specs.Refusals.{refused}
use Rattle.checkpoint.specs.declared.unreadable.Unreadable.{Unreadable}
use Rattle.checkpoint.specs.declared.unreadable.Unreadable.TheVariants.{Rows}

abbrev pub rows_length : ℕ → ℕ
rows_length n = n * (4 * n)

abbrev pub front_length : List ℕ → ℕ
front_length b = message_length (slice_index b 2) (field 8 2 b)

abbrev pub rows_at : ℕ → List ℕ → List Timestamp
rows_at n b = map (timestamp_at n) (pieces (4 * n) n b) ++ replicate (7 - n) zero

abbrev pub with_rows_of : Message → List ℕ → Result Saved Unreadable
with_rows_of m b =
    unless (length b == rows_length m.head.n && rows_all_hold m.head.sender m.head.timestamp (rows_at m.head.n b)) Rows
    (Ok (record { message = m; rows = rows_at m.head.n b }))

unfoldable pub decode_saved : Kind → List ℕ → Result Saved Unreadable
decode_saved k b = and_then (refused (decode k (take (front_length b) b))) (λ m. with_rows_of m (drop (front_length b) b))

unfoldable pub encode_saved : Kind → Saved → List ℕ
encode_saved k c = encode k c.message ++ joined (encode_timestamp c.message.head.n) (take c.message.head.n c.rows)
