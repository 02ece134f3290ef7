use Rattle.std.proofs.Common.{◌+◌, w32, w64, ap, ◌∙◌, arith}
use Rattle.std.specs.Int.{to_le_bytes}
use Rattle.gossip.specs.Numbers.{put_at}
use Rattle.gossip.proofs.Written.{entry_written, length_entry}
use Rattle.gossip.proofs.writer.put_entry.Goals as goal

pub returns : goal.returns
returns c =
    let n = c.args.n in
    let at = c.args.at in
    let a = c.put.new.out in
    let b = c.put-2.new.out in
    record {
      written = entry_written n at c.args.entry.now c.args.out.now a b c.put-3.new.out c.put_timestamp.new.out (omega arith)
          (c.put.ensures ∙ ap (λ z. put_at at z c.args.out.now) c.to_le_bytes.ensures)
          (c.put-2.ensures ∙ ap (λ z. put_at (at + 8) z a) (c.to_le_bytes-2.ensures ∙ ap (to_le_bytes w64) c.word.ensures.answer))
          (c.put-3.ensures ∙ ap (λ z. put_at (at + 16) z b) (c.to_le_bytes-3.ensures ∙ ap (to_le_bytes w32) c.mark.ensures.answer))
          c.put_timestamp.ensures.written;
      long = length_entry n c.args.entry.now ∙ ap (λ k. 20 + k) c.put_timestamp.ensures.long;
    }
