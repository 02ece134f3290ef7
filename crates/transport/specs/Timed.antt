-- Messages behind the clock's reading at which they were posted.
--
-- eight n                    a reading as eight bytes, the lowest first
-- reading_of bs              the reading in the first eight bytes
-- has_message bs             something stands behind the eight bytes of a reading
-- untimed ps                 the messages of nine bytes or more, without their first eight
-- fresh grace clock bs       what a message gives at a reading of the clock: nothing where it has under nine bytes, or where its reading plus the grace is below the clock's
-- SameTerms longest old new  a layer has the grace that it had, and the transport below the longest that it had
use Rattle.std.specs.Prelude.{◌≡◌, ℕ, ◌+◌, Bool, ◌&&◌, if◌then◌else◌, List, [], length, take, drop, map, filter, nat_le}
use Rattle.std.specs.Int.{to_le_bytes, from_le_bytes, w64}
use Rattle.transport.specs.Parcels.{Parcel, parcel}
use Rattle.transport.specs.declared.expiring.Expiring.{Expiring}

abbrev pub eight : ℕ → List ℕ
eight = to_le_bytes w64

abbrev pub reading_of : List ℕ → ℕ
reading_of bs = from_le_bytes w64 (take 8 bs)

abbrev pub has_message : List ℕ → Bool
has_message bs = nat_le 9 (length bs)

abbrev pub untimed : List Parcel → List Parcel
untimed ps = map (λ p. parcel p.to (drop 8 p.bytes)) (filter (λ p. has_message p.bytes) ps)

abbrev pub fresh : ℕ → ℕ → List ℕ → List ℕ
fresh grace clock bs = if has_message bs && nat_le clock (reading_of bs + grace) then drop 8 bs else []

pub record SameTerms {T : Type 0} (longest : T → ℕ) (old new : Expiring T) : Type 0 where
  pub grace : new.grace ≡ old.grace
  pub longest_below : longest new.below ≡ longest old.below
