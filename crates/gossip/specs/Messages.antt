-- What a gossip message says, and which messages there are.
--
-- Message      a head and entries
-- latest       the latest time and clock reading, 2^40 - 1
-- seats es     the seats of entries, in their order
-- below x xs   x is below the first of xs, if there is one
-- rises xs     each number is above the one before it
-- origin n p   n is a group's size, and replica p one of the n
-- wide..       a timestamp, or a tombstone's, has seven parts of 32 bits: true of all that the code holds
-- allowed t s  a state that may stand in a message with the timestamp t: a value; or a tombstone with a time, and a timestamp at or under t
-- sound..      a head, an entry beside a timestamp, or a message keeps every rule of the format but that of its kind
-- of_kind k m  the message's values are values of the kind k
use Rattle.std.specs.Prelude.{ℕ, ◌^◌, Bool, true, ◌&&◌, ltb, List, [], ◌∷◌, map, length, ◌==◌, nat_le, nat_lt}
use Rattle.std.specs.List.{list_all}
use Rattle.gossip.specs.Lattices.{Kind}
use Rattle.gossip.specs.Timestamps.{group_size, under, zero_from}
use Rattle.gossip.specs.declared.timestamp.Timestamp.{Timestamp}
use Rattle.gossip.specs.declared.entry.Entry.{Entry}
use Rattle.gossip.specs.declared.entry.State.{State}
use Rattle.gossip.specs.declared.entry.State.TheVariants.{Value, Tombstone}
use Rattle.gossip.specs.declared.head.Head.{Head}

pub record Message : Type 0 where
  pub head : Head
  pub entries : List Entry

abbrev pub latest : ℕ
latest = 1099511627775

abbrev pub seats : List Entry → List ℕ
seats es = map (λ e. e.seat) es

abbrev pub below : ℕ → List ℕ → Bool
below x [] = true
below x (y ∷ ys) = nat_lt x y

abbrev pub rises : List ℕ → Bool
rises [] = true
rises (x ∷ xs) = below x xs && rises xs

abbrev pub origin : ℕ → ℕ → Bool
origin n sender = group_size n && nat_lt sender n

abbrev pub wide_timestamp : Timestamp → Bool
wide_timestamp t = length t.parts == 7 && list_all (λ x. ltb x (2 ^ 32)) t.parts

abbrev pub wide_state : State → Bool
wide_state (Value v) = true
wide_state (Tombstone t s) = wide_timestamp s

abbrev pub allowed : Timestamp → State → Bool
allowed top (Value v) = true
allowed top (Tombstone t s) = nat_le t latest && under s.parts top.parts

abbrev pub sound_head : Head → Bool
sound_head h =
    origin h.n h.sender
    && (nat_lt h.group (2 ^ 32)
    && (nat_le h.clock latest
    && (wide_timestamp h.timestamp
    && zero_from h.n h.timestamp.parts)))

abbrev pub sound_entry : Timestamp → Entry → Bool
sound_entry top e = nat_lt e.seat (2 ^ 64) && (wide_state e.state && allowed top e.state)

abbrev pub sound : Message → Bool
sound m =
    sound_head m.head
    && (nat_le (length m.entries) 64
    && (rises (seats m.entries)
    && list_all (sound_entry m.head.timestamp) m.entries))

abbrev pub of_kind_state : Kind → State → Bool
of_kind_state k (Value v) = k.valid v
of_kind_state k (Tombstone t s) = true

abbrev pub of_kind : Kind → Message → Bool
of_kind k m = list_all (λ e. of_kind_state k e.state) m.entries
