-- Messages with their addressees, the oldest first, and what a transport may do to them.
--
-- Parcel                      a message's bytes, with the number of its addressee
-- parcel to bs                the parcel of these
-- is_for n p                  whether it is for this addressee
-- Kept before after           what is held after is some of what was held before, in the same order
-- Posted before new after     what is held after a post is some of what was held before, and then what is new
-- sized most n                a message of n bytes has one, and at most so many
-- Fit most ps                 each message is sized
-- measured bs                 the length of a message; none where there is no byte
-- BeginsWith place bs         these bytes stand at the front of a place
-- oldest to ps                the oldest message for an addressee, or no bytes
-- without to ps               all but the oldest message for an addressee
-- Lawful held longest next    what every transport keeps
use Rattle.std.specs.Prelude.{◌≡◌, ℕ, ◌≤◌, Bool, ◌&&◌, List, [], ◌++◌, length, take, if◌then◌else◌, Some, None, Option, ◌==◌, nat_le, All, Contains, find}
use Rattle.std.specs.List.{before_first, after_first}
use Rattle.std.specs.Option.{option_map_or}
use mathlib.Core.List.{Sublistᴰ}

pub record Parcel : Type 0 where
  pub to : ℕ
  pub bytes : List ℕ

abbrev pub parcel : ℕ → List ℕ → Parcel
parcel n bs = record { to = n; bytes = bs }

abbrev pub is_for : ℕ → Parcel → Bool
is_for n p = p.to == n

abbrev pub Kept : List Parcel → List Parcel → Type 0
Kept before after = Sublistᴰ after before

pub record Posted (before new after : List Parcel) : Type 0 where
  -- what was not lost
  pub kept : List Parcel
  pub some : Kept before kept
  pub is : after ≡ kept ++ new

abbrev pub sized : ℕ → ℕ → Bool
sized most n = nat_le 1 n && nat_le n most

abbrev pub Fit : ℕ → List Parcel → Type 0
Fit most = All (λ p. (1 ≤ length p.bytes) × (length p.bytes ≤ most))

abbrev pub measured : List ℕ → Option ℕ
measured bs = if nat_le 1 (length bs) then Some (length bs) else None

abbrev pub BeginsWith : List ℕ → List ℕ → Type 0
BeginsWith place bs = take (length bs) place ≡ bs

abbrev pub oldest : ℕ → List Parcel → List ℕ
oldest n ps = option_map_or (λ p. p.bytes) (find (is_for n) ps) []

abbrev pub without : ℕ → List Parcel → List Parcel
without n ps = before_first (is_for n) ps ++ after_first (is_for n) ps

pub record Lawful (held : List Parcel) (longest : ℕ) (next : ℕ → ℕ → List ℕ) : Type 0 where
  -- a message of any transport goes into a place of 3,200 bytes
  pub bounded : longest ≤ 3200
  pub fitting : Fit longest held
  -- what is next for an addressee is held for him
  pub pending : (n reading : ℕ) → 1 ≤ length (next n reading) → Contains held (parcel n (next n reading))
