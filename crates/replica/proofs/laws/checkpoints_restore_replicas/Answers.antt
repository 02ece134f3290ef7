use Rattle.replica.proofs.Restoring.{restores}
use Rattle.replica.proofs.laws.checkpoints_restore_replicas.Goals as goal

pub returns : goal.returns
returns c = record { restores = restores }
