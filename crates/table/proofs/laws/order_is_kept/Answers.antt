use Rattle.table.proofs.Merges.{rises_merge}
use Rattle.table.proofs.Puts.{rises-put}
use Rattle.table.proofs.Sweeps.{rises-swept}
use Rattle.table.proofs.laws.order_is_kept.Goals as goal

pub returns : goal.returns
returns c = record { orders = record { put-rises = rises-put; merge-rises = rises_merge; sweep-rises = rises-swept } }
