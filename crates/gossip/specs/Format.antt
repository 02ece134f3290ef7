-- The gossip message as bytes: which bytes are read, as what, and how a message is spelled. Numbers are little-endian.
--
--  at           bytes           field
--  0            1, 1, 1, 1      form (1), kind, n, sender
--  4            4               group number
--  8            2               number of entries e, 0 to 64
--  10           2, 2, 2         offset of the timestamp, offset of the entries, length of the message
--  16           8               sender's clock
--  24           4n              sender's timestamp
--  24 + 4n      e × (20 + 4n)   entries: seat (8), word (8), mark (4), timestamp (4n)
--
-- decode k b   the message of the kind k that bytes spell, or the first rule that they break
-- encode k m   the bytes of a message of the kind k
use Rattle.std.specs.Prelude.{ℕ, ◌+◌, ◌*◌, Bool, cond, ◌&&◌, List, [], ◌∷◌, ◌++◌, map, length, take, drop, Some, None, Ok, Err, Option, Result, ◌==◌, nat_le, slice_index}
use Rattle.gossip.specs.Lattices.{Kind}
use Rattle.gossip.specs.Messages.{Message, latest, rises, origin}
use Rattle.gossip.specs.Numbers.{bytes, field, pieces, counters, spell, joined}
use Rattle.gossip.specs.Refusals.{unless, and_then}
use Rattle.gossip.specs.Timestamps.{under, padded, zero_from}
use Rattle.gossip.specs.declared.timestamp.Timestamp.{Timestamp}
use Rattle.gossip.specs.declared.entry.Entry.{Entry}
use Rattle.gossip.specs.declared.entry.State.{State}
use Rattle.gossip.specs.declared.entry.State.TheVariants.{Value, Tombstone}
use Rattle.gossip.specs.declared.head.Head.{Head}
use Rattle.gossip.specs.declared.refusal.Refusal.{Refusal}
use Rattle.gossip.specs.declared.refusal.Refusal.TheVariants.{Short, Form, Origin, Layout, Clock, Order, Mark}

-- bytes of an entry, and of a message of so many entries
abbrev pub entry_length : ℕ → ℕ
entry_length n = 20 + 4 * n

abbrev pub entries_at : ℕ → ℕ
entries_at n = 24 + 4 * n

abbrev pub message_length : ℕ → ℕ → ℕ
message_length n count = entries_at n + count * entry_length n

-- Reading

-- the timestamp of n parts at the front of the bytes
abbrev pub timestamp_at : ℕ → List ℕ → Timestamp
timestamp_at n b = record { parts = padded (counters n b) }

abbrev pub head_at : List ℕ → Head
head_at b = record { n = slice_index b 2; sender = slice_index b 3; group = field 4 4 b; clock = field 16 8 b; timestamp = timestamp_at (slice_index b 2) (drop 24 b) }

-- the count is at most 64, and the two offsets, the length written and the number of bytes at hand are those of n and the count
abbrev pub layout : ℕ → ℕ → ℕ → ℕ → ℕ → ℕ → Bool
layout n count timestamp_offset entries_offset written length =
    nat_le count 64
    && (timestamp_offset == 24
    && (entries_offset == entries_at n
    && (written == message_length n count
    && length == message_length n count)))

unfoldable pub decode_head : Kind → List ℕ → Result Head Refusal
decode_head k b =
    unless (nat_le 24 (length b)) Short
    (unless (slice_index b 0 == 1) Form
    (unless (slice_index b 1 == k.number && origin (slice_index b 2) (slice_index b 3)) Origin
    (unless (layout (slice_index b 2) (field 8 2 b) (field 10 2 b) (field 12 2 b) (field 14 2 b) (length b)) Layout
    (unless (nat_le (field 16 8 b) latest) Clock
    (Ok (head_at b))))))

-- the bytes of each entry, and of an entry p its seat
abbrev pub entry_bytes : ℕ → List ℕ → List (List ℕ)
entry_bytes n b = pieces (entry_length n) (field 8 2 b) (drop (entries_at n) b)

abbrev pub seat_at : List ℕ → ℕ
seat_at p = field 0 8 p

-- mark 1: the word is a value of the kind, and the timestamp is all zero
abbrev pub value_at : Kind → ℕ → Timestamp → Option State
value_at k word s = cond (k.valid word && zero_from 0 s.parts) (Some (Value word)) None

-- mark 2, a tombstone: the word is the delete's time, and the timestamp is at or under the message's
abbrev pub tombstone_at : Timestamp → ℕ → Timestamp → Option State
tombstone_at top word s = cond (nat_le word latest && under s.parts top.parts) (Some (Tombstone word s)) None

abbrev pub marked : Kind → Timestamp → ℕ → ℕ → Timestamp → Option State
marked k top mark word s = cond (mark == 1) (value_at k word s) (cond (mark == 2) (tombstone_at top word s) None)

unfoldable pub state_at : Kind → ℕ → Timestamp → List ℕ → Option State
state_at k n top p = marked k top (field 16 4 p) (field 8 8 p) (timestamp_at n (drop 20 p))

-- the entries that pieces spell, if each of them spells one
abbrev pub alongside : Option State → ℕ → Option (List Entry) → Option (List Entry)
alongside (Some s) seat (Some es) = Some (record { seat = seat; state = s } ∷ es)
alongside (Some s) seat None = None
alongside None seat es = None

abbrev pub entries_of : Kind → ℕ → Timestamp → List (List ℕ) → Option (List Entry)
entries_of k n top [] = Some []
entries_of k n top (p ∷ ps) = alongside (state_at k n top p) (seat_at p) (entries_of k n top ps)

abbrev pub with_entries : Head → Option (List Entry) → Result Message Refusal
with_entries h (Some es) = Ok (record { head = h; entries = es })
with_entries h None = Err Mark

unfoldable pub decode_entries : Kind → Head → List (List ℕ) → Result Message Refusal
decode_entries k h ps = unless (rises (map seat_at ps)) Order (with_entries h (entries_of k h.n h.timestamp ps))

unfoldable pub decode : Kind → List ℕ → Result Message Refusal
decode k b = and_then (decode_head k b) (λ h. decode_entries k h (entry_bytes h.n b))

-- Writing

abbrev pub word_of : State → ℕ
word_of (Value v) = v
word_of (Tombstone t s) = t

abbrev pub mark_of : State → ℕ
mark_of (Value v) = 1
mark_of (Tombstone t s) = 2

abbrev pub timestamp_of : State → Timestamp
timestamp_of (Value v) = record { parts = padded [] }
timestamp_of (Tombstone t s) = s

-- the first n parts of a timestamp
abbrev pub encode_timestamp : ℕ → Timestamp → List ℕ
encode_timestamp n s = joined (bytes 4) (take n s.parts)

abbrev pub entry_widths : List ℕ
entry_widths = 8 ∷ 8 ∷ 4 ∷ []

abbrev pub encode_entry : ℕ → Entry → List ℕ
encode_entry n e = spell entry_widths (e.seat ∷ word_of e.state ∷ mark_of e.state ∷ []) ++ encode_timestamp n (timestamp_of e.state)

abbrev pub head_widths : List ℕ
head_widths = 1 ∷ 1 ∷ 1 ∷ 1 ∷ 4 ∷ 2 ∷ 2 ∷ 2 ∷ 2 ∷ 8 ∷ []

abbrev pub head_numbers : Kind → Head → ℕ → List ℕ
head_numbers k h count =
    1 ∷ k.number ∷ h.n ∷ h.sender ∷ h.group ∷ count ∷ 24 ∷ entries_at h.n ∷ message_length h.n count ∷ h.clock ∷ []

unfoldable pub encode : Kind → Message → List ℕ
encode k m =
    spell head_widths (head_numbers k m.head (length m.entries))
    ++ (encode_timestamp m.head.n m.head.timestamp ++ joined (encode_entry m.head.n) m.entries)
