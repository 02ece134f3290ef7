use Rattle.std.proofs.Common.{◌≡◌, min, length, ap, ◌∙◌, arith}
use Rattle.gossip.specs.Format.{message_length}
use Rattle.gossip.specs.Numbers.{field}
use Rattle.gossip.proofs.NumberLaws.{field_two}
use Rattle.checkpoint.proofs.reader.front_len.Goals as goal

pub returns : goal.returns
returns c =
    let b = c.args.bytes.now in
    let f = field_two 8 c.args.bytes.now (omega arith) in
    let count : c.from-count.result ≡ field 8 2 c.args.bytes.now = omega (arith, c.from_le_bytes.ensures) in
    c.min.ensures ∙ ap (λ k. min k (length b)) (λ i. message_length (c.from-n.ensures i) (count i))
