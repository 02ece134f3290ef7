-- The kind of a message, as its own bytes name it.
--
-- kind_of b   the kind that the second byte names; a message that names none is read as counts
-- nameless b  how a message is refused whose second byte is not the number of the kind that it is read as
use Rattle.std.specs.Prelude.{ℕ, cond, List, length, Err, Result, ◌==◌, nat_le, slice_index}
use Rattle.gossip.specs.Messages.{Message}
use Rattle.gossip.specs.Refusals.{unless}
use Rattle.gossip.specs.declared.kind.Kind.{Kind}
use Rattle.gossip.specs.declared.kind.Kind.TheVariants.{Counts, Ports}
use Rattle.gossip.specs.declared.refusal.Refusal.{Refusal}
use Rattle.gossip.specs.declared.refusal.Refusal.TheVariants.{Short, Form, Origin}

abbrev pub kind_of : List ℕ → Kind
kind_of b = cond (slice_index b 1 == 2) Ports Counts

abbrev pub nameless : List ℕ → Result Message Refusal
nameless b = unless (nat_le 24 (length b)) Short (unless (slice_index b 0 == 1) Form (Err Origin))
