-- The bytes of seven numbers, of which one number's are replaced.
use Rattle.std.proofs.Common.{ℕ, ◌≤◌, List, length, set, arith}
use Rattle.std.proofs.lemmas.Grind.{common_steps}
use Rattle.storage.specs.Stores.{Places}

pub places_set : (saved : List (List ℕ)) (k : ℕ) (bs : List ℕ) → Places saved → length bs ≤ 3320 → Places (set saved k bs)
places_set saved k bs p short = record { seven = grind (arith, common_steps, p.seven); short = λ j. grind (arith, common_steps, p.short j) }
