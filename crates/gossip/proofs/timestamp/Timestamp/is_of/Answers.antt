use Rattle.std.proofs.Common.{◌^◌, ◌<◌, ltb, length, get_or, ◌∙◌, rules}
use Rattle.std.proofs.lemmas.Bool.{lt-ltb}
use Rattle.gossip.proofs.Loops.{every_take}
use Rattle.gossip.proofs.TimestampSteps.{zero_from_past, zero_from_zero}
use Rattle.gossip.proofs.timestamp.Timestamp.is_of.Goals.{else-i-n-via-then-i-n+else-part-ne0, else-i-n-via-else-i-n}
use Rattle.gossip.proofs.timestamp.Timestamp.is_of.Goals as goal

pub loop-i-preserved : goal.loop-i-preserved
loop-i-preserved c =
    let s = c.args.self.now.parts in
    let i = c.loop-i.i in
    let h : c.loop-i.i < length c.args.self.now.parts = search rules in
    let f : get_or c.args.self.now.parts c.loop-i.i 0 < 2 ^ 32 = search rules in
    record {
      zero = elim c.else-i-n.branch [
        | else-i-n-via-then-i-n+else-part-ne0 w ↦ zero_from_zero c.args.n s i h (search rules) (search rules) ∙ c.loop-i.invariant.zero
        | else-i-n-via-else-i-n w ↦ zero_from_past c.args.n s i h (search rules) ∙ c.loop-i.invariant.zero
      ];
      wide = every_take (λ x. ltb x (2 ^ 32)) s i 0 h c.loop-i.invariant.wide (lt-ltb _ _ f);
    }
