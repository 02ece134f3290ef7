use Rattle.storage.proofs.Moving.{Turn}
use Rattle.storage.proofs.log.LogStore.move_others.Given as goal

abbrev pub invariant-loop-other : goal.invariant-loop-other
invariant-loop-other l = Turn l.self l.initial.self.active l.number.value l.other
