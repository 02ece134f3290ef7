-- What a half of a log has.
--
-- in_use h      the bytes in use
-- contents h    the last bytes of each number
-- staged h bs   as many bytes behind those in use as the head of bs and bs have
-- HasRoom h bs  these fit behind the bytes in use
use Rattle.std.specs.Prelude.{ℕ, ◌+◌, ◌≤◌, List, length, take, drop, vec_items}
use Rattle.storage.specs.Spans.{indexed}
use Rattle.storage.specs.declared.log.half.Half.{Half}

abbrev pub in_use : Half → List ℕ
in_use h = take h.used (vec_items h.bytes)

abbrev pub contents : Half → List (List ℕ)
contents h = indexed (in_use h) h.index

abbrev pub staged : Half → List ℕ → List ℕ
staged h bs = take (4 + length bs) (drop h.used (vec_items h.bytes))

abbrev pub HasRoom : Half → List ℕ → Type 0
HasRoom h bs = h.used + 4 + length bs ≤ 26592
