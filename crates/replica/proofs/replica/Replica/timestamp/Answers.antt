use Rattle.std.proofs.Common.{refl}
use Rattle.replica.specs.Contents.{memory}
use Rattle.replica.proofs.replica.Replica.timestamp.Goals as goal

pub returns : goal.returns
unfolding memory
returns c = record { answer = refl; sound = c.args.self.now.sound }
