use Rattle.std.proofs.Common.{◌≡◌, ◌+◌, length}
use Rattle.storage.specs.Halves.{contents}
use Rattle.storage.specs.Logs.{read_log}
use Rattle.storage.proofs.Scans.{run}
use Rattle.storage.proofs.log.half.Half.replay.Given as goal

abbrev pub invariant-loop-log : goal.invariant-loop-log
invariant-loop-log l = record { length : l.self.used + length l.log ≡ length l.bytes; contents : run l.log (contents l.self) ≡ read_log l.bytes }

abbrev pub decreases-loop-log : goal.decreases-loop-log
decreases-loop-log l = length l.log
