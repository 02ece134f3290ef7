use Rattle.std.proofs.Common.{◌++◌, codes}
use Rattle.gossip.specs.declared.entry.State.TheVariants.{Value}
use Rattle.inspect.specs.Texts.{entry_text}
use Rattle.inspect.proofs.Printed.{prints_none, prints_more}
use Rattle.inspect.proofs.show.EntriesDisplay.fmt.Goals as goal

pub loop-entry-init : goal.loop-entry-init
loop-entry-init g c = prints_none g.W.Write.write_str_gives (λ e. codes "\n" ++ entry_text c.args.self.now.n e) c.args.f.now

pub loop-entry-preserved : goal.loop-entry-preserved
loop-entry-preserved g c =
    prints_more g.W.Write.write_str_gives (λ e. codes "\n" ++ entry_text c.args.self.now.n e) c.args.f.now
    c.args.self.now.list.now c.loop-entry.entry-index (record { seat = 0; state = Value 0 }) c.loop-entry.f _
    c.loop-entry-test.true c.loop-entry.invariant c.in_ok-write.ensures.writes
