use Rattle.std.proofs.Common.{arith}
use Rattle.std.proofs.lemmas.Grind.{common_steps}
use Rattle.std.proofs.lemmas.List.{map-set}
use Rattle.storage.proofs.Places.{places_set}
use Rattle.storage.proofs.slots.SlotStoreStore.save.Goals as goal

pub invariant_of-self : goal.invariant_of-self
invariant_of-self c = record { places = rw map-set (places_set _ _ _ c.args.self.now.places (grind (arith, common_steps))) }
