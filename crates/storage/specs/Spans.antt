-- Where in a log the bytes saved lie.
--
-- spanned log o        the bytes of a log that a span names; none where there is no span
-- indexed log index    those of each number
-- end_of o             where a span ends; 0 where there is none
-- Inside n index       the spans lie in the first n bytes
use Rattle.std.specs.Prelude.{ℕ, ◌+◌, ◌≤◌, List, [], Some, None, Option, map, take, drop, slice_index_or}
use Rattle.storage.specs.declared.log.span.Span.{Span}

abbrev pub spanned : List ℕ → Option Span → List ℕ
spanned log None = []
spanned log (Some p) = take p.len (drop p.at log)

abbrev pub indexed : List ℕ → List (Option Span) → List (List ℕ)
indexed log index = map (spanned log) index

abbrev pub end_of : Option Span → ℕ
end_of None = 0
end_of (Some p) = p.at + p.len

abbrev pub Inside : ℕ → List (Option Span) → Type 0
Inside n index = (k : ℕ) → end_of (slice_index_or index k None) ≤ n
