use Rattle.std.proofs.Common.{◌≡◌, true, sym, ◌∙◌, arith}
use Rattle.std.proofs.lemmas.Bool.{eq-eqb}
use Rattle.gossip.specs.Format.{encode_timestamp}
use Rattle.gossip.specs.Timestamps.{group_size}
use Rattle.gossip.proofs.Puts.{put_whole}
use Rattle.gossip.proofs.Sound.{group_size-parts}
use Rattle.gossip.proofs.timestamp.Timestamp.write_bytes.Goals as goal

pub put_parts-requires : goal.put_parts-requires
put_parts-requires c = record { few = (group_size-parts c.args.n (sym c.if-not-is_group_size.ensures.answer)).1; within = omega arith }

pub returns : goal.returns
returns c =
    let size : group_size c.args.n ≡ true = sym c.if-not-is_group_size.ensures.answer in
    let whole = c.if-out-n.false in
    let spelled = encode_timestamp c.args.n c.args.self.now in
    record { answer = rw (size, eq-eqb _ _ whole); buffer = c.put_parts.ensures.written ∙ put_whole spelled c.args.out.now (c.put_parts.ensures.long ∙ sym whole) }
