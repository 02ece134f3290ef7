use Rattle.std.proofs.Common.{◌≡◌, ◌+◌, ◌*◌, ◌++◌, true, length}
use Rattle.std.specs.Char.{is_ascii_hexdigit}
use Rattle.std.specs.List.{list_all}
use Rattle.std.specs.Slice.Iter.{chunks_exact_rest, chunks_exact_size}
use Rattle.inspect.specs.Hex.{pairs}
use Rattle.inspect.proofs.line.put_bytes.Given as goal

abbrev pub invariant-loop-pair : goal.invariant-loop-pair
invariant-loop-pair l = record {
  size : chunks_exact_size l.pair-iterator ≡ 2;
  digits : list_all is_ascii_hexdigit (chunks_exact_rest l.pair-iterator) ≡ true;
  room : 2 * length l.bytes.items + length (chunks_exact_rest l.pair-iterator) ≡ length l.digits;
  spelled : l.bytes.items ++ pairs (chunks_exact_rest l.pair-iterator) ≡ pairs l.digits;
}
