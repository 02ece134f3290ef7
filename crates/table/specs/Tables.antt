-- What every table keeps, and where a seat stands in one.
--
-- Sorted es       at most 64 entries, in the strictly rising order of their seats
-- IsPlace es u i  the entry at the index i is that of the seat u
-- IsGap es u i    the seats before the index i are lower than u, and those from there on are higher
use Rattle.std.specs.Prelude.{◌≡◌, ℕ, ◌<◌, ◌≤◌, true, List, length}
use Rattle.std.specs.List.{HoldsAt, AllWithin}
use Rattle.gossip.specs.Messages.{rises, seats}
use Rattle.gossip.specs.declared.entry.Entry.{Entry}

pub record Sorted (es : List Entry) : Type 0 where
  pub rising : rises (seats es) ≡ true
  pub few : length es ≤ 64

pub record IsPlace (es : List Entry) (u i : ℕ) : Type 0 where
  pub within : i < length es
  pub here : HoldsAt (λ e. e.seat ≡ u) es i

pub record IsGap (es : List Entry) (u i : ℕ) : Type 0 where
  pub within : i ≤ length es
  pub lower : AllWithin (λ e. e.seat < u) es 0 i
  pub higher : AllWithin (λ e. u < e.seat) es i (length es)
