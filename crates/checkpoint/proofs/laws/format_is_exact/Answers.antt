use Rattle.checkpoint.proofs.FormatTheorems.{reads_back, sole_spelling, reads_sound}
use Rattle.checkpoint.proofs.laws.format_is_exact.Goals as goal

pub returns : goal.returns
returns c = record { back = reads_back; sole = sole_spelling; sound = reads_sound }
