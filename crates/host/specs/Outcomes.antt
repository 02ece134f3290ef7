-- What a call answers a host.
--
-- number e      the number of what kept a call from doing anything
-- refused r     a result whose refusal is the timestamps' or the message's
-- comparison    the order of two timestamps, none where neither is at or under the other; refused where they are not of one length from 1 to 7
-- message_of    the message of a kind, given by its number, that bytes spell; or the refusal
-- room_for      a message, provided that the areas are large enough for it
-- code r        0, or the refusal's number: what C gets of a call that reads
-- compared r    1 where the first is at or under the second, and 2 where the second is at or under the first, added up; or the refusal's number: what C gets of a comparison
use Rattle.std.specs.Prelude.{ℕ, cond, ◌&&◌, List, length, Some, None, Ok, Err, Option, Result, ◌==◌, nat_le, nat_lt}
use Rattle.std.specs.declared.cmp.Ordering.{Ordering}
use Rattle.std.specs.declared.cmp.Ordering.TheVariants.{Less, Equal, Greater}
use Rattle.gossip.specs.Comparing.{ordered}
use Rattle.gossip.specs.Format.{decode}
use Rattle.gossip.specs.Lattices.{counts, ports}
use Rattle.gossip.specs.Messages.{Message}
use Rattle.gossip.specs.Refusals as refusals
use Rattle.gossip.specs.Refusals.{unless, and_then}
use Rattle.gossip.specs.Timestamps.{under, exactly}
use Rattle.gossip.specs.declared.refusal.Refusal.{Refusal}
use Rattle.gossip.specs.declared.refusal.Refusal.TheVariants.{Parts}
use Rattle.host.specs.declared.refusal.HostRefusal.{HostRefusal}
use Rattle.host.specs.declared.refusal.HostRefusal.TheVariants.{Refused, Area, Index, Kind}

abbrev pub number : HostRefusal → ℕ
number (Refused r) = refusals.number r
number Area = 60
number Index = 61
number Kind = 62

abbrev pub refused : {X : Type 0} → Result X Refusal → Result X HostRefusal
refused (Ok x) = Ok x
refused (Err e) = Err (Refused e)

abbrev pub comparison : List ℕ → List ℕ → Result (Option Ordering) HostRefusal
comparison s t = unless (exactly (length s) (length t)) (Refused Parts) (Ok (ordered (under s t) (under t s)))

abbrev pub message_of : ℕ → List ℕ → Result Message HostRefusal
message_of kind b = cond (kind == 1) (refused (decode counts b)) (cond (kind == 2) (refused (decode ports b)) (Err Kind))

-- so many fields, and the parts of a timestamp of n replicas, find room in areas of these lengths
abbrev pub room_for : ℕ → ℕ → ℕ → Message → Result Message HostRefusal
room_for needed fields parts m = unless (nat_le needed fields && nat_le m.head.n parts) Area (Ok m)

abbrev pub head_outcome : ℕ → List ℕ → ℕ → ℕ → Result Message HostRefusal
head_outcome kind b fields parts = and_then (message_of kind b) (room_for 5 fields parts)

-- the same for the entry of an index, if there is one
abbrev pub entry_room : ℕ → ℕ → ℕ → Message → Result Message HostRefusal
entry_room index fields parts m = unless (nat_lt index (length m.entries)) Index (room_for 3 fields parts m)

abbrev pub entry_outcome : ℕ → List ℕ → ℕ → ℕ → ℕ → Result Message HostRefusal
entry_outcome kind b index fields parts = and_then (message_of kind b) (entry_room index fields parts)

abbrev pub code : Result Message HostRefusal → ℕ
code (Ok m) = 0
code (Err e) = number e

abbrev pub compared : Result (Option Ordering) HostRefusal → ℕ
compared (Ok (Some Less)) = 1
compared (Ok (Some Greater)) = 2
compared (Ok (Some Equal)) = 3
compared (Ok None) = 0
compared (Err e) = number e
