-- What a mailbox means.
--
-- parcels m    the messages of a mailbox, the oldest first
-- free m       a place is free
-- most m       the longest message that a mailbox takes
use Rattle.std.specs.Prelude.{ℕ, Bool, List, length, nat_lt}
use Rattle.transport.specs.Parcels.{Parcel}
use Rattle.transport.specs.declared.mailbox.Mailbox.{Mailbox}

abbrev pub parcels : Mailbox → List Parcel
parcels m = m.places.items

abbrev pub free : Mailbox → Bool
free m = nat_lt (length (parcels m)) 16

abbrev pub most : Mailbox → ℕ
most m = 3200
