use Rattle.std.proofs.Common.{◌-◌, ◌++◌, length, take, drop, codes, decimal}
use Rattle.inspect.proofs.Printed.{prints_none, prints_more}
use Rattle.inspect.proofs.show.PartsDisplay.fmt.Goals as goal

pub loop-part-init : goal.loop-part-init
loop-part-init g c = prints_none g.W.Write.write_str_gives (λ q. codes " " ++ decimal q) c.write.new.self

pub loop-part-preserved : goal.loop-part-preserved
loop-part-preserved g c =
    let ps = c.args.self.now.0.now in
    prints_more g.W.Write.write_str_gives (λ q. codes " " ++ decimal q) c.write.new.self
    (take (length ps - 1) (drop 1 ps)) c.loop-part.part-index 0 c.loop-part.f c.write-in-loop-part.new.self
    c.loop-part-test.true c.loop-part.invariant c.in_ok-write-2.ensures.writes
