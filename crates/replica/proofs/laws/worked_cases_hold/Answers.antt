use Rattle.std.proofs.Common.{refl}
use Rattle.replica.specs.Steps.{step}
use Rattle.replica.proofs.laws.worked_cases_hold.Goals as goal

pub returns : goal.returns
unfolding step
returns c = record { less = refl; equal = refl; more = refl; timely = refl; late = refl; set_back = refl; kept = refl; gone = refl; together = refl }
