-- What the shipped transport means, a mailbox under a layer: the meaning that the layer gives to a transport, over the one that a mailbox has.
--
-- meaning           the ghost members of the trait for the shipped transport
-- messages e        the messages that it holds, the oldest first
-- longest e         the longest message that it takes
-- Empty grace e     it holds nothing, nor does the mailbox below, and its grace is this
use Rattle.std.specs.Prelude.{◌≡◌, ℕ, List, []}
use Rattle.transport.specs.Parcels.{Parcel}
use Rattle.transport.specs.Mailboxes.{parcels}
use Rattle.transport.specs.declared.mailbox.Mailbox.{Mailbox}
use Rattle.transport.specs.declared.expiring.Expiring.{Expiring}
use Rattle.transport.specs.declared.transport.Transport.{Ghosts}
use Rattle.transport.specs.contracts.mailbox.Mailbox.{the_row as mailbox-row}
use Rattle.transport.specs.contracts.mailbox.carrying.MailboxTransport.TheImpl as mailbox
use Rattle.transport.specs.contracts.expiring.carrying.ExpiringTransport.TheImpl as layer

abbrev pub meaning : Ghosts (Expiring Mailbox)
meaning = layer.ghosts mailbox-row mailbox.ghosts mailbox.dict

abbrev pub messages : Expiring Mailbox → List Parcel
messages e = meaning.held e

abbrev pub longest : Expiring Mailbox → ℕ
longest e = meaning.longest e

pub record Empty (grace : ℕ) (e : Expiring Mailbox) : Type 0 where
  pub none : messages e ≡ []
  pub none_below : parcels e.below ≡ []
  pub graced : e.grace ≡ grace
