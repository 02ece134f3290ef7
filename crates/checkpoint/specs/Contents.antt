-- What making a checkpoint answers.
--
-- joined_to m rs  the checkpoint of a message and rows, or the refusal where these are not rows of the message's sender
use Rattle.std.specs.Prelude.{List, Ok, Result}
use Rattle.gossip.specs.Messages.{Message}
use Rattle.gossip.specs.Refusals.{unless}
use Rattle.gossip.specs.declared.timestamp.Timestamp.{Timestamp}
use Rattle.checkpoint.specs.Checkpoints.{Saved, sound_rows}
use Rattle.checkpoint.specs.declared.unreadable.Unreadable.{Unreadable}
use Rattle.checkpoint.specs.declared.unreadable.Unreadable.TheVariants.{Rows}

abbrev pub joined_to : Message → List Timestamp → Result Saved Unreadable
joined_to m rs = unless (sound_rows m.head.n m.head.sender m.head.timestamp rs) Rows (Ok (record { message = m; rows = rs }))
