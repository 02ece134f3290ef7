-- What a store with a log means: what the half in use has.
--
-- logged s    the last bytes of each number
use Rattle.std.specs.Prelude.{ℕ, List}
use Rattle.storage.specs.Halves.{contents}
use Rattle.storage.specs.declared.log.LogStore.{LogStore}

abbrev pub logged : LogStore → List (List ℕ)
logged s = contents s.active
