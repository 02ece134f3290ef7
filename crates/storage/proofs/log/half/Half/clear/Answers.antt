use Rattle.storage.proofs.Growing.{nowhere_inside}
use Rattle.storage.proofs.Scans.{read_nothing}
use Rattle.storage.proofs.log.half.Half.clear.Goals as goal

pub invariant_of-self-clause-inside : goal.invariant_of-self-clause-inside
invariant_of-self-clause-inside c = nowhere_inside _

pub invariant_of-self-clause-reads : goal.invariant_of-self-clause-reads
invariant_of-self-clause-reads c = read_nothing
