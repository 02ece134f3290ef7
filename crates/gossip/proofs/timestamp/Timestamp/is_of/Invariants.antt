use Rattle.std.proofs.Common.{◌≡◌, ◌-◌, ◌^◌, true, ltb, take, drop}
use Rattle.std.specs.List.{list_all}
use Rattle.gossip.specs.Timestamps.{zero_from}
use Rattle.gossip.proofs.timestamp.Timestamp.is_of.Given as goal

abbrev pub invariant-loop-i : goal.invariant-loop-i
invariant-loop-i l = record {
  zero : zero_from (l.n - l.i) (drop l.i l.self.parts) ≡ zero_from l.n l.self.parts;
  wide : list_all (λ x. ltb x (2 ^ 32)) (take l.i l.self.parts) ≡ true;
}
