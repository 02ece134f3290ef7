-- What is proved of every shipped transport, and of the definitions that the contracts cite.
--
-- Bounds      every shipped transport takes messages of up to 3,192 bytes, and a mailbox holds at most 16
-- Readings    a reading that was put in front of a message is the one that is read there
use Rattle.std.specs.Prelude.{◌≡◌, ℕ, ◌^◌, ◌<◌, ◌≤◌, List, ◌++◌, length}
use Rattle.transport.specs.Mailboxes.{parcels}
use Rattle.transport.specs.Shipped.{longest}
use Rattle.transport.specs.Timed.{eight, reading_of}
use Rattle.transport.specs.declared.mailbox.Mailbox.{Mailbox}
use Rattle.transport.specs.declared.expiring.Expiring.{Expiring}

pub record Bounds : Type 0 where
  pub shipped : (e : Expiring Mailbox) → longest e ≡ 3192
  pub few : (m : Mailbox) → length (parcels m) ≤ 16

abbrev pub Readings : Type 0
Readings = (n : ℕ) (bs : List ℕ) → n < 2 ^ 64 → reading_of (eight n ++ bs) ≡ n
