use Rattle.std.proofs.Common.{◌≡◌, ◌+◌, ◌*◌, ◌≤◌, length}
use Rattle.std.specs.Slice.Iter.{chunks_exact_rest, chunks_exact_size}
use Rattle.gossip.specs.Format.{entries_of, entry_length}
use Rattle.gossip.specs.Numbers.{whole_pieces}
use Rattle.gossip.proofs.Reading.{before}
use Rattle.gossip.proofs.reader.read_entries.Given as goal

abbrev pub invariant-loop-piece : goal.invariant-loop-piece
invariant-loop-piece g l = record {
  size : chunks_exact_size l.piece-iterator ≡ entry_length l.head.n;
  room : length l.entries * entry_length l.head.n + length (chunks_exact_rest l.piece-iterator) ≤ 64 * entry_length l.head.n;
  read : before l.entries (entries_of g.L.Lattice.kind l.head.n l.head.timestamp (whole_pieces (entry_length l.head.n) (chunks_exact_rest l.piece-iterator)))
      ≡ entries_of g.L.Lattice.kind l.head.n l.head.timestamp (whole_pieces (entry_length l.head.n) l.bytes);
}
