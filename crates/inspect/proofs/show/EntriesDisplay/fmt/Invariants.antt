use Rattle.std.proofs.Common.{take}
use Rattle.std.specs.Fmt.{IsPlainFormatter, HasWritten}
use Rattle.inspect.specs.Texts.{entries_text}
use Rattle.inspect.proofs.show.EntriesDisplay.fmt.Given as goal

abbrev pub invariant-loop-entry : goal.invariant-loop-entry
invariant-loop-entry g l = IsPlainFormatter l.initial.f → HasWritten g.W.Write.write_str_gives l.initial.f (entries_text l.n (take l.entry-index l.self.list.now)) l.f
