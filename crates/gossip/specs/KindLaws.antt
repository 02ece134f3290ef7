-- Counts and ports keep the laws of a kind. Assumes nothing.
use Rattle.std.proofs.Common.{rules, arith}
use Rattle.std.proofs.lemmas.Nat.{or_comm, or_lt}
use Rattle.std.proofs.lemmas.Bool.{leb-true, le-leb}
use Rattle.std.specs.Int.Bits.{or_self}
use Rattle.gossip.specs.Lattices.{Laws, counts, ports}
use Rattle.gossip.specs.Unions.{or_assoc}

pub counts_laws : Laws counts
counts_laws = search rules

pub ports_laws : Laws ports
ports_laws = record {
  byte = omega arith;
  word = λ a v. omega (arith, leb-true a 65535 v);
  closed = λ a b v w.
      le-leb _ _ (omega (arith, or_lt 16 a b (omega (arith, leb-true a 65535 v)) (omega (arith, leb-true b 65535 w))));
  commutes = λ a b v w. or_comm a b;
  associates = λ a b c v w x. or_assoc a b c;
  repeats = λ a v. or_self a;
}
