-- What is proved of the definitions that the contracts cite.
--
-- Lookups    what a look-up of any seat finds after a put, a merge and a sweep
-- Orders     seats rise after each of them
-- Sizes      how many entries there are after each of them
use Rattle.std.specs.Prelude.{◌≡◌, ℕ, ◌+◌, true, cond, List, length, is_some, Some, ◌==◌}
use Rattle.gossip.specs.Messages.{rises, seats}
use Rattle.gossip.specs.declared.entry.Entry.{Entry}
use Rattle.gossip.specs.declared.entry.State.{State}
use Rattle.gossip.specs.declared.timestamp.Timestamp.{Timestamp}
use Rattle.table.specs.Entries.{find, changed, put, merge, fresh, both, swept, removable, survivor}

pub record Lookups : Type 0 where
  -- to change an entry that is there is to put it, so that what holds of a put holds of a state that was lent
  pub change_puts : (es : List Entry) (u : ℕ) (x : State) → rises (seats es) ≡ true → is_some (find es u) ≡ true → changed es u x ≡ put es u x
  pub put_finds : (es : List Entry) (u : ℕ) (x : State) (v : ℕ) → find (put es u x) v ≡ cond (u == v) (Some x) (find es v)
  pub merge_finds : (join : ℕ → ℕ → ℕ) (es fs : List Entry) (u : ℕ) → rises (seats fs) ≡ true → find (merge join es fs) u ≡ both join (find es u) (find fs u)
  pub sweep_finds : (grace clock : ℕ) (rows : List Timestamp) (es : List Entry) (u : ℕ) → rises (seats es) ≡ true → find (swept grace clock rows es) u ≡ survivor grace clock rows (find es u)

pub record Orders : Type 0 where
  pub put-rises : (es : List Entry) (u : ℕ) (x : State) → rises (seats es) ≡ true → rises (seats (put es u x)) ≡ true
  pub merge-rises : (join : ℕ → ℕ → ℕ) (es fs : List Entry) → rises (seats es) ≡ true → rises (seats (merge join es fs)) ≡ true
  pub sweep-rises : (grace clock : ℕ) (rows : List Timestamp) (es : List Entry) → rises (seats es) ≡ true → rises (seats (swept grace clock rows es)) ≡ true

pub record Sizes : Type 0 where
  pub put-length : (es : List Entry) (u : ℕ) (x : State) → rises (seats es) ≡ true → length (put es u x) ≡ length es + cond (is_some (find es u)) 0 1
  pub merge-length : (join : ℕ → ℕ → ℕ) (es fs : List Entry) → rises (seats es) ≡ true → rises (seats fs) ≡ true → length (merge join es fs) ≡ length es + fresh es fs
  pub sweep-length : (grace clock : ℕ) (rows : List Timestamp) (es : List Entry) → length (removable grace clock rows es) + length (swept grace clock rows es) ≡ length es
