use Rattle.std.proofs.Common.{◌*◌}
use Rattle.gossip.specs.Format.{encode_timestamp}
use Rattle.gossip.proofs.Written.{Written}
use Rattle.checkpoint.proofs.writer.put_rows.Given as goal

abbrev pub invariant-loop-i : goal.invariant-loop-i
invariant-loop-i l = Written (encode_timestamp l.n) (4 * l.n) l.at l.rows l.initial.out l.i l.out
