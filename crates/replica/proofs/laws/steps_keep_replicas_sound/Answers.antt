use Rattle.replica.proofs.MemoriesKept.{fresh-sound}
use Rattle.replica.proofs.StepsKept.{keeps_sound, keeps_kind}
use Rattle.replica.proofs.laws.steps_keep_replicas_sound.Goals as goal

pub returns : goal.returns
returns c = record { starts = fresh-sound; sound = keeps_sound; kind = keeps_kind }
