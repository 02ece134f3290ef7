-- Why a message is not taken, and what a post answers.
--
-- cause r                    a refusal's cause in words
-- post_answer opened most n  what a post of n bytes answers: the length is looked at first, then whether the transport is open
-- taken r p                  what a post adds: its parcel where it was taken, else nothing
use Rattle.std.specs.Prelude.{ℕ, Bool, if◌then◌else◌, List, [], ◌∷◌, is_ok, Ok, Err, codes, Result}
use Rattle.transport.specs.Parcels.{Parcel, sized}
use Rattle.transport.specs.declared.refusal.Refusal.{Refusal}
use Rattle.transport.specs.declared.refusal.Refusal.TheVariants.{Length, Closed}

abbrev pub cause : Refusal → List ℕ
cause Length = codes "the message is empty or too long"
cause Closed = codes "the transport is not open for the addressee"

abbrev pub post_answer : Bool → ℕ → ℕ → Result (Unit {0}) Refusal
post_answer opened most n = if sized most n then (if opened then Ok tt else Err Closed) else Err Length

abbrev pub taken : Result (Unit {0}) Refusal → Parcel → List Parcel
taken r p = if is_ok r then p ∷ [] else []
