use Rattle.gossip.specs.Numbers.{bytes}
use Rattle.gossip.proofs.Written.{Written}
use Rattle.gossip.proofs.timestamp.Timestamp.put_parts.Given as goal

abbrev pub invariant-loop-i : goal.invariant-loop-i
invariant-loop-i l = Written (bytes 4) 4 l.at l.part-items l.initial.out l.i l.out
