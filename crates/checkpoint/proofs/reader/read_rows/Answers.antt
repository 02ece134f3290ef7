use Rattle.std.proofs.Common.{◌*◌, ℕ, cond, ltb, take, drop, sym, ◌∙◌, rules}
use Rattle.gossip.specs.Format.{timestamp_at}
use Rattle.gossip.proofs.Arrays.{made_list}
use Rattle.gossip.proofs.Sound.{head_to_parts, parts}
use Rattle.checkpoint.specs.Checkpoints.{zero}
use Rattle.checkpoint.proofs.RowBytes.{rows-list}
use Rattle.checkpoint.proofs.reader.read_rows.Goals as goal

pub returns : goal.returns
returns c =
    let n = c.args.message.now.head.n in
    let b = c.args.bytes.now in
    let few = (head_to_parts c.args.message.now.head (parts c.args.message.now c.head-n.ensures.sound).head).most in
    made_list _ _ (λ (i : ℕ). cond (ltb i n) (timestamp_at n (take (4 * n) (drop (i * (4 * n)) b))) zero) (λ i x q h. search rules) _ 7 zero c.from_fn.ensures.items
    ∙ sym (rows-list n b few)
