use Rattle.std.proofs.Common.{◌*◌, ℕ, cond, ltb, ap, ◌∙◌, sym, rules}
use Rattle.gossip.specs.Numbers.{field}
use Rattle.gossip.proofs.Arrays.{made_list}
use Rattle.gossip.proofs.TimestampSteps.{timestamp-list}
use Rattle.gossip.proofs.timestamp.Timestamp.from_bytes.Goals as goal

pub returns : goal.returns
returns c =
    let n = c.args.n in
    let b = c.args.src.now in
    ap (λ xs. record { parts = xs }) (made_list _ _ (λ (i : ℕ). cond (ltb i n) (field (4 * i) 4 b) 0) (λ i x q h. search rules) _ 7 0 c.from_fn-parts.ensures.items ∙ sym (timestamp-list n b c.requires.0))
