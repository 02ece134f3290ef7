use Rattle.gossip.specs.Format.{encode_entry, entry_length}
use Rattle.gossip.proofs.Written.{Written}
use Rattle.gossip.proofs.writer.put_entries.Given as goal

abbrev pub invariant-loop-i : goal.invariant-loop-i
invariant-loop-i l = Written (encode_entry l.n) (entry_length l.n) l.at l.entries l.initial.out l.i l.out
