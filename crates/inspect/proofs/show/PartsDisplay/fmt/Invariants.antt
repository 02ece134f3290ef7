use Rattle.std.proofs.Common.{◌++◌, take, codes, decimal}
use Rattle.std.specs.Fmt.{IsPlainFormatter, HasWritten}
use Rattle.gossip.specs.Numbers.{joined}
use Rattle.inspect.proofs.show.PartsDisplay.fmt.Given as goal

abbrev pub invariant-loop-part : goal.invariant-loop-part
invariant-loop-part g l = IsPlainFormatter l.initial.f → HasWritten g.W.Write.write_str_gives l.initial.f (joined (λ q. codes " " ++ decimal q) (take l.part-index l.rest)) l.f
