use Rattle.checkpoint.proofs.FormatTheorems.{lengths}
use Rattle.checkpoint.proofs.Rows.{own_row}
use Rattle.checkpoint.proofs.laws.checkpoints_are_bounded.Goals as goal

pub returns : goal.returns
returns c = record { own = own_row; lengths = lengths }
