use Rattle.std.proofs.Common.{◌≡◌, ◌&&◌, length, drop}
use Rattle.gossip.specs.Timestamps.{under}
use Rattle.gossip.proofs.timestamp.Timestamp.is_under.Given as goal

abbrev pub invariant-loop-mine : goal.invariant-loop-mine
invariant-loop-mine l = (l.under && under (drop (length l.yielded) l.self.parts) (drop (length l.yielded) l.other.parts)) ≡ under l.self.parts l.other.parts
