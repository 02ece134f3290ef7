use Rattle.gossip.proofs.TimestampLaws.{order, join}
use Rattle.gossip.proofs.laws.timestamps_are_ordered.Goals as goal

pub returns : goal.returns
returns c = record { order = order; join = join }
