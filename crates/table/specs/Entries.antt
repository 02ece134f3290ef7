-- Entries in the rising order of their seats, and what the calls on a table make of them.
--
-- entry u x              the entry of the seat u with the state x
-- find es u              what is known of a seat
-- changed es u x         the entry of a seat, if there is one, with another state; every other entry stays
-- put es u x             the entry of a seat, changed or added in its place
-- fits es                a table has room for the entries: there are at most 64
-- combine join x y       two states of one seat: values join, a tombstone outlasts a value, two keep the later time and the merged timestamps
-- added join o y         what a state adds to what is known of its seat
-- absorbed join es u x   one entry taken in
-- merge join es fs       each of fs taken in
-- fresh es fs            how many entries of fs have a seat that has none in es
-- under_rows s rows      a timestamp is at or under every row
-- expired g c rows x     x is a tombstone whose time and the grace g end before the clock c, and that every row covers
-- swept g c rows es      what a sweep leaves
-- removable g c rows es  what a sweep removes
-- survivor g c rows o    what a sweep leaves of what is known of one seat
-- both join o p          what two tables know of one seat together
use Rattle.std.specs.Prelude.{ℕ, ◌+◌, max, Bool, false, cond, not, ◌&&◌, List, [], ◌∷◌, length, is_none, Some, None, count_by, filter, Option, ◌==◌, nat_le, nat_lt}
use Rattle.std.specs.List.{list_all}
use Rattle.gossip.specs.Timestamps.{merged, under}
use Rattle.gossip.specs.declared.entry.Entry.{Entry}
use Rattle.gossip.specs.declared.entry.State.{State}
use Rattle.gossip.specs.declared.entry.State.TheVariants.{Value, Tombstone}
use Rattle.gossip.specs.declared.timestamp.Timestamp.{Timestamp}

abbrev pub entry : ℕ → State → Entry
entry u x = record { seat = u; state = x }

abbrev pub find : List Entry → ℕ → Option State
find [] u = None
find (e ∷ es) u = cond (e.seat == u) (Some e.state) (find es u)

abbrev pub changed : List Entry → ℕ → State → List Entry
changed [] u x = []
changed (e ∷ es) u x = cond (e.seat == u) (entry u x ∷ es) (e ∷ changed es u x)

abbrev pub put : List Entry → ℕ → State → List Entry
put [] u x = entry u x ∷ []
put (e ∷ es) u x = cond (nat_lt e.seat u) (e ∷ put es u x) (cond (e.seat == u) (entry u x ∷ es) (entry u x ∷ e ∷ es))

abbrev pub fits : List Entry → Bool
fits es = nat_le (length es) 64

abbrev pub combine : (ℕ → ℕ → ℕ) → State → State → State
combine join (Value x) (Value y) = Value (join x y)
combine join (Value x) (Tombstone t s) = Tombstone t s
combine join (Tombstone t s) (Value y) = Tombstone t s
combine join (Tombstone t s) (Tombstone t' s') = Tombstone (max t t') (record { parts = merged s.parts s'.parts })

abbrev pub added : (ℕ → ℕ → ℕ) → Option State → State → State
added join None y = y
added join (Some x) y = combine join x y

abbrev pub absorbed : (ℕ → ℕ → ℕ) → List Entry → ℕ → State → List Entry
absorbed join es u x = put es u (added join (find es u) x)

abbrev pub merge : (ℕ → ℕ → ℕ) → List Entry → List Entry → List Entry
merge join es [] = es
merge join es (f ∷ fs) = merge join (absorbed join es f.seat f.state) fs

abbrev pub fresh : List Entry → List Entry → ℕ
fresh es fs = count_by (λ f. is_none (find es f.seat)) fs

abbrev pub under_rows : List ℕ → List Timestamp → Bool
under_rows s rows = list_all (λ r. under s r.parts) rows

abbrev pub expired : ℕ → ℕ → List Timestamp → State → Bool
expired grace clock rows (Value x) = false
expired grace clock rows (Tombstone t s) = nat_lt (t + grace) clock && under_rows s.parts rows

abbrev pub swept : ℕ → ℕ → List Timestamp → List Entry → List Entry
swept grace clock rows es = filter (λ e. not (expired grace clock rows e.state)) es

abbrev pub removable : ℕ → ℕ → List Timestamp → List Entry → List Entry
removable grace clock rows es = filter (λ e. expired grace clock rows e.state) es

abbrev pub survivor : ℕ → ℕ → List Timestamp → Option State → Option State
survivor grace clock rows None = None
survivor grace clock rows (Some x) = cond (expired grace clock rows x) None (Some x)

abbrev pub both : (ℕ → ℕ → ℕ) → Option State → Option State → Option State
both join None o = o
both join (Some x) None = Some x
both join (Some x) (Some y) = Some (combine join x y)
