-- The rule of one replica: what each step answers and leaves, or the refusal, in their order.
--
-- clock_now m c                  the later of the replica's clock and the reading c given
-- is_late p m t c                the time t and the grace end before the clock now
-- raised p m                     the timestamp with one more in the replica's own part
-- raise p m u x                  that timestamp, for a change that gives the seat u the state x; or the refusal
-- stored p m c u x               the seat u has the state x, as an accepted change of this replica
-- entered k x o                  the state that an enter of the value x gives a seat of which o is known; none where nothing changes
-- has_tombstone o                a tombstone is known of a seat
-- deleted x o                    the state that a delete gives it, the tombstone x; none where nothing changes
-- enter, delete, receive, sweep  a step each
-- hear                           a message that is read already
-- Deed                           a step with what it is given
-- step k p m d                   what a deed answers and leaves
-- lookup m u s                   what is known of the seat u, asked at the timestamp s
use Rattle.std.specs.Prelude.{ℕ, ◌+◌, max, Bool, true, false, cond, not, ◌&&◌, List, length, take, set as update, Some, None, Ok, Option, Result, ◌==◌, nat_le, nat_lt}
use Rattle.gossip.specs.Format.{decode}
use Rattle.gossip.specs.Lattices.{Kind}
use Rattle.gossip.specs.Messages.{Message, latest}
use Rattle.gossip.specs.Refusals.{unless, and_then}
use Rattle.gossip.specs.Timestamps.{part, under, merged, bumped}
use Rattle.gossip.specs.declared.entry.State.{State}
use Rattle.gossip.specs.declared.entry.State.TheVariants.{Value, Tombstone}
use Rattle.gossip.specs.declared.timestamp.Timestamp.{Timestamp}
use Rattle.checkpoint.specs.Checkpoints.{row}
use Rattle.table.specs.Entries as entries
use Rattle.table.specs.Entries.{find, put, fits, merge, removable}
use Rattle.replica.specs.Answers.{Answer, set, same, old, new, swept, Step}
use Rattle.replica.specs.Memories.{Memory}
use Rattle.replica.specs.Refusals.{refused}
use Rattle.replica.specs.declared.membership.Membership.{Membership}
use Rattle.replica.specs.declared.outcome.Lookup.{Lookup}
use Rattle.replica.specs.declared.outcome.Lookup.TheVariants.{Known, Unknown, Behind}
use Rattle.replica.specs.declared.refusal.Refusal.{Refusal}
use Rattle.replica.specs.declared.refusal.Refusal.TheVariants.{Value as BadValue, Time, Late, Full, Spent, Group}

abbrev pub clock_now : Memory → ℕ → ℕ
clock_now m c = max m.clock c

abbrev pub is_late : Membership → Memory → ℕ → ℕ → Bool
is_late p m t c = nat_lt (t + p.grace) (clock_now m c)

-- nothing changes
abbrev pub stays : Memory → Answer → Result Step Refusal
stays m a = Ok (record { answer = a; memory = m })

-- An accepted change

abbrev pub raised : Membership → Memory → Timestamp
raised p m = record { parts = bumped m.timestamp.parts p.replica }

abbrev pub raise : Membership → Memory → ℕ → State → Result Timestamp Refusal
raise p m u x =
    unless (fits (put m.entries u x)) Full
    (unless (nat_lt (part m.timestamp.parts p.replica) 4294967295) Spent
    (Ok (raised p m)))

abbrev pub stored : Membership → Memory → ℕ → ℕ → State → Timestamp → Memory
stored p m c u x s = record { clock = clock_now m c; timestamp = s; entries = put m.entries u x; rows = update m.rows p.replica s }

abbrev pub change : Membership → Memory → ℕ → ℕ → State → Result Step Refusal
change p m c u x = and_then (raise p m u x) (λ s. Ok (record { answer = set s; memory = stored p m c u x s }))

-- the change of a seat's state, if there is one
abbrev pub change_to : Membership → Memory → ℕ → ℕ → Option State → Result Step Refusal
change_to p m c u None = stays m (same m.timestamp)
change_to p m c u (Some x) = change p m c u x

-- Enter: a tombstone, or a join equal to the value held, stays as it is.

abbrev pub entered : Kind → ℕ → Option State → Option State
entered k x None = Some (Value x)
entered k x (Some (Value y)) = cond (k.join y x == y) None (Some (Value (k.join y x)))
entered k x (Some (Tombstone t s)) = None

abbrev pub enter : Kind → Membership → Memory → ℕ → ℕ → ℕ → ℕ → Result Step Refusal
enter k p m u x t c =
    unless (nat_le t latest && nat_le c latest) Time
    (unless (k.valid x) BadValue
    (unless (not (is_late p m t c)) Late
    (change_to p m c u (entered k x (find m.entries u)))))

-- Delete: a tombstone stays as it is.

abbrev pub has_tombstone : Option State → Bool
has_tombstone None = false
has_tombstone (Some (Value y)) = false
has_tombstone (Some (Tombstone t s)) = true

abbrev pub deleted : State → Option State → Option State
deleted x o = cond (has_tombstone o) None (Some x)

abbrev pub delete : Membership → Memory → ℕ → ℕ → ℕ → Result Step Refusal
delete p m u t c =
    unless (nat_le t latest && nat_le c latest) Time
    (unless (not (is_late p m t c)) Late
    (change_to p m c u (deleted (Tombstone t (raised p m)) (find m.entries u))))

-- Receive: a message at or under the replica's timestamp has no news.

-- two timestamps merged
abbrev pub together : Timestamp → Timestamp → Timestamp
together s t = record { parts = merged s.parts t.parts }

-- the sender's row takes in the message's timestamp, and the own row is the new timestamp
abbrev pub learnt : Kind → Membership → Memory → Message → ℕ → Memory
learnt k p m g c =
    record {
      clock = clock_now m c;
      timestamp = together m.timestamp g.head.timestamp;
      entries = merge k.join m.entries g.entries;
      rows = update (update m.rows g.head.sender (together (row m.rows g.head.sender) g.head.timestamp)) p.replica (together m.timestamp g.head.timestamp);
    }

-- a message of this group
abbrev pub is_of : Membership → Message → Bool
is_of p g = g.head.group == p.group && g.head.n == p.n

abbrev pub hear : Kind → Membership → Memory → Message → ℕ → Result Step Refusal
hear k p m g c =
    unless (is_of p g) Group
    (cond (under g.head.timestamp.parts m.timestamp.parts) (stays m old)
    (unless (fits (merge k.join m.entries g.entries)) Full
    (Ok (record { answer = new (together m.timestamp g.head.timestamp); memory = learnt k p m g c }))))

abbrev pub receive : Kind → Membership → Memory → Message → ℕ → Result Step Refusal
receive k p m g c = unless (nat_le c latest) Time (hear k p m g c)

-- a message as bytes
abbrev pub receive_bytes : Kind → Membership → Memory → List ℕ → ℕ → Result Step Refusal
receive_bytes k p m b c = unless (nat_le c latest) Time (and_then (refused (decode k b)) (λ g. hear k p m g c))

-- Sweep: each tombstone goes whose time and grace are over and whose timestamp every replica of the group is known to have passed.

-- what a sweep at the clock reading c leaves
abbrev pub swept_of : Membership → Memory → ℕ → Memory
swept_of p m c =
    record { clock = clock_now m c; timestamp = m.timestamp; entries = entries.swept p.grace (clock_now m c) (take p.n m.rows) m.entries; rows = m.rows }

abbrev pub sweep : Membership → Memory → ℕ → Result Step Refusal
sweep p m c =
    unless (nat_le c latest) Time
    (Ok (record { answer = swept (length (removable p.grace (clock_now m c) (take p.n m.rows) m.entries)); memory = swept_of p m c }))

-- All steps

pub data Deed : Type 0 where
  enters : (seat value time reading : ℕ) → Deed
  deletes : (seat time reading : ℕ) → Deed
  receives : (message : Message) (reading : ℕ) → Deed
  sweeps : (reading : ℕ) → Deed

unfoldable pub step : Kind → Membership → Memory → Deed → Result Step Refusal
step k p m (enters u x t c) = enter k p m u x t c
step k p m (deletes u t c) = delete p m u t c
step k p m (receives g c) = receive k p m g c
step k p m (sweeps c) = sweep p m c

-- Lookup

abbrev pub reply : Timestamp → Option State → Lookup
reply s None = Unknown s
reply s (Some (Value x)) = Known x s
reply s (Some (Tombstone t r)) = Unknown s

abbrev pub lookup : Memory → ℕ → Timestamp → Lookup
lookup m u asked = cond (under asked.parts m.timestamp.parts) (reply m.timestamp (find m.entries u)) Behind
