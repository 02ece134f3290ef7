-- What the calls on a message answer.
--
-- started h        the message without entries that begins with a head, or the refusal
-- pushed m e       the message with one more entry at its end, or the refusal
-- after r m        what the message m is after a call that answers r: what it made, or m itself where it is refused
use Rattle.std.specs.Prelude.{[], ◌∷◌, ◌++◌, length, Ok, Err, Result, nat_le, nat_lt}
use Rattle.gossip.specs.Messages.{Message, origin, latest, seats, rises, allowed}
use Rattle.gossip.specs.Refusals.{unless}
use Rattle.gossip.specs.Timestamps.{zero_from}
use Rattle.gossip.specs.declared.entry.Entry.{Entry}
use Rattle.gossip.specs.declared.head.Head.{Head}
use Rattle.gossip.specs.declared.refusal.Refusal.{Refusal}
use Rattle.gossip.specs.declared.refusal.Refusal.TheVariants.{Origin, Layout, Clock, Order, Mark}

abbrev pub started : Head → Result Message Refusal
started h =
    unless (origin h.n h.sender) Origin
    (unless (zero_from h.n h.timestamp.parts) Layout
    (unless (nat_le h.clock latest) Clock
    (Ok (record { head = h; entries = [] }))))

abbrev pub pushed : Message → Entry → Result Message Refusal
pushed m e =
    unless (nat_lt (length m.entries) 64) Layout
    (unless (rises (seats m.entries ++ e.seat ∷ [])) Order
    (unless (allowed m.head.timestamp e.state) Mark
    (Ok (record { head = m.head; entries = m.entries ++ e ∷ [] }))))

abbrev pub after : Result Message Refusal → Message → Message
after (Ok m) old = m
after (Err e) old = old
