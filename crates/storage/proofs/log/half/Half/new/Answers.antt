use Rattle.std.proofs.Common.{rules}
use Rattle.storage.proofs.Growing.{nowhere_inside}
use Rattle.storage.proofs.Scans.{read_nothing}
use Rattle.storage.proofs.log.half.Half.new.Goals as goal

pub invariant_of-result-clause-inside : goal.invariant_of-result-clause-inside
invariant_of-result-clause-inside c = nowhere_inside _

pub invariant_of-result-clause-reads : goal.invariant_of-result-clause-reads
invariant_of-result-clause-reads c = search (rules, read_nothing)
