use Rattle.std.proofs.Common.{ap, ◌∙◌}
use Rattle.gossip.specs.declared.head.Head.{Head}
use Rattle.checkpoint.specs.Format.{rows_length}
use Rattle.checkpoint.proofs.Reading.{rows_joined}
use Rattle.checkpoint.proofs.reader.with_rows.Goals as goal

pub returns : goal.returns
returns c =
    let m = c.args.message in
    let b = c.args.bytes.now in
    let n = ap (λ (h : Head). h.n) c.head-n.ensures.answer in
    let long = c.if-bytes-n.false ∙ ap rows_length n in
    c.new.ensures.answer ∙ rows_joined m b c.read_rows.result c.head-n.ensures.sound (λ i. (c.type_inv.bytes i).fits) long c.read_rows.ensures
