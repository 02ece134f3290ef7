-- What is saved once a message is kept.
--
-- kept_for n bs saved    the bytes of a message are saved for the number n; no bytes change nothing
use Rattle.std.specs.Prelude.{ℕ, List, length, if◌then◌else◌, nat_le, slice_set}

abbrev pub kept_for : ℕ → List ℕ → List (List ℕ) → List (List ℕ)
kept_for n bs saved = if nat_le 1 (length bs) then slice_set saved n bs else saved
