-- The index of a half as a store's places.
use Rattle.std.specs.Prelude.{ℕ, zero, suc, ◌≤◌, List, [], ◌∷◌, length, Some, None, Option, slice_index_or}
use Rattle.std.proofs.Common.{◌∙◌, arith, length-take}
use Rattle.std.proofs.lemmas.List.{length-map}
use Rattle.storage.specs.Halves.{in_use, contents}
use Rattle.storage.specs.Spans.{spanned, indexed}
use Rattle.storage.specs.Stores.{Places}
use Rattle.storage.specs.declared.log.half.Half.{Half}
use Rattle.storage.specs.declared.log.span.Span.{Span}

-- a number's bytes are no more than can be saved
spanned_short : (log : List ℕ) (o : Option Span) → length (spanned log o) ≤ 3320
spanned_short log None = omega arith
spanned_short log (Some p) = simp length-take (omega (arith, p.fits))

indexed_short : (log : List ℕ) (index : List (Option Span)) (k : ℕ) → length (slice_index_or (indexed log index) k []) ≤ 3320
indexed_short log [] k = omega arith
indexed_short log (o ∷ os) zero = spanned_short log o
indexed_short log (o ∷ os) (suc k) = indexed_short log os k

pub contents_lawful : (h : Half) → Places (contents h)
contents_lawful h = record { seven = length-map h.index (spanned (in_use h)) ∙ h.seven; short = indexed_short (in_use h) h.index }
