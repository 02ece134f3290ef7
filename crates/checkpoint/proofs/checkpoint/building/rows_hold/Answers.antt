use Rattle.std.proofs.Common.{sym, arith}
use Rattle.gossip.specs.Messages.{wide_timestamp}
use Rattle.gossip.specs.Timestamps.{under}
use Rattle.gossip.proofs.Loops.{every_more, every_take}
use Rattle.gossip.proofs.Sound.{wide_beneath}
use Rattle.checkpoint.proofs.checkpoint.building.rows_hold.Goals as goal

pub loop-row-preserved : goal.loop-row-preserved
loop-row-preserved c =
    let t = c.args.top.now in
    let rows = c.args.rows.now in
    let i = c.loop-row.row-index in
    let u = sym c.if-not-is_under.ensures.answer in
    record {
      under = every_more (λ row. under row.parts t.parts) rows i _ _ (omega arith) u c.loop-row.invariant.under;
      wide = λ w. every_take wide_timestamp rows i _ (omega arith) (c.loop-row.invariant.wide w) (wide_beneath _ t c.if-not-is_under.ensures.alike u w);
    }
