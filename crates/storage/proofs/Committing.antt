-- What a half has once the piece that is staged in it is committed.
use Rattle.std.proofs.Common.{◌≡◌, ℕ, ◌+◌, ◌≤◌, List, ◌++◌, length, take, set, Some, vec_items, sym, ap, ◌∙◌, subst, arith}
use Rattle.std.proofs.lemmas.List.{length-take-le}
use Rattle.std.proofs.Math.Seq.{take-add}
use Rattle.storage.specs.Halves.{in_use, contents, staged, HasRoom}
use Rattle.storage.specs.Logs.{head, encode, read_log}
use Rattle.storage.specs.Spans.{indexed, Inside}
use Rattle.storage.specs.declared.log.half.Half.{Half}
use Rattle.storage.specs.declared.log.span.Span.{Span}
use Rattle.storage.proofs.Growing.{indexed_grown}
use Rattle.storage.proofs.Scans.{read_append}

-- so many bytes are staged: the head of bs, and bs
module _ (h : Half) (k : ℕ) (bs : List ℕ) (many : ℕ) (many_is : many ≡ 4 + length bs) (room : HasRoom h bs) (is_staged : staged h bs ≡ encode k bs) where
  log_grown : take (h.used + many) (vec_items h.bytes) ≡ in_use h ++ encode k bs
  log_grown = ap (λ n. take (h.used + n) (vec_items h.bytes)) many_is ∙ take-add h.used (4 + length bs) (vec_items h.bytes) ∙ ap (λ z. in_use h ++ z) is_staged

  used_long : length (in_use h) ≡ h.used
  used_long = length-take-le h.used (vec_items h.bytes) (omega (arith, h.few, h.whole, h.bytes.ok.0))

  -- the index finds what was staged, and of every other number what it found
  pub committed_index : (p : Span) → p.at ≡ h.used + 4 → p.len ≡ length bs → indexed (take (h.used + many) (vec_items h.bytes)) (set h.index k (Some p)) ≡ set (contents h) k bs
  committed_index p at len =
      let inside : Inside (length (in_use h)) h.index = subst (λ m. Inside m h.index) (sym used_long) h.inside in
      ap (λ z. indexed z (set h.index k (Some p))) log_grown ∙ indexed_grown (in_use h) (head k (length bs)) bs h.index k p inside (omega (arith, used_long)) len

  -- and so does a reader
  pub committed_read : k ≤ 6 → 1 ≤ length bs → length bs ≤ 3320 → read_log (take (h.used + many) (vec_items h.bytes)) ≡ Some (set (contents h) k bs)
  committed_read known some fits = ap read_log log_grown ∙ read_append (in_use h) (contents h) k bs h.reads known some fits (omega (arith, used_long))
