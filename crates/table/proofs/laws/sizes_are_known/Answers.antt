use Rattle.table.proofs.Merges.{length-merge}
use Rattle.table.proofs.Puts.{length-put}
use Rattle.table.proofs.Sweeps.{length-swept}
use Rattle.table.proofs.laws.sizes_are_known.Goals as goal

pub returns : goal.returns
returns c = record { sizes = record { put-length = length-put; merge-length = length-merge; sweep-length = length-swept } }
