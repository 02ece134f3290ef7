use Rattle.std.proofs.Common.{◌≡◌, map}
use Rattle.std.specs.Slice.Iter.{chunks_exact_rest, chunks_exact_size}
use Rattle.gossip.specs.Format.{seat_at}
use Rattle.gossip.specs.Messages.{rises}
use Rattle.gossip.specs.Numbers.{whole_pieces}
use Rattle.gossip.proofs.Loops.{rises_behind}
use Rattle.gossip.proofs.reader.seats_rise.Given as goal

abbrev pub invariant-loop-piece : goal.invariant-loop-piece
invariant-loop-piece l = record {
  size : chunks_exact_size l.piece-iterator ≡ l.size;
  rest : rises_behind l.before (map seat_at (whole_pieces l.size (chunks_exact_rest l.piece-iterator))) ≡ rises (map seat_at (whole_pieces l.size l.bytes));
}
