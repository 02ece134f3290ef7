-- What a store of seven places means.
--
-- slotted s   the bytes that each place holds
use Rattle.std.specs.Prelude.{ℕ, List, map}
use Rattle.storage.specs.declared.slots.SlotStore.{SlotStore}

abbrev pub slotted : SlotStore → List (List ℕ)
slotted s = map (λ slot. slot.items) s.slots.items
