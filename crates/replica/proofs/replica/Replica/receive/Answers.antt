use Rattle.replica.specs.declared.refusal.Refusal.TheVariants.{Time}
use Rattle.std.proofs.Common.{refl}
use Rattle.std.proofs.lemmas.Bool.{le-leb, lt-leb}
use Rattle.gossip.proofs.Unless.{passed, failed}
use Rattle.replica.specs.Steps.{step}
use Rattle.replica.proofs.Taken.{refused, same_step}
use Rattle.replica.proofs.replica.Replica.receive.Goals as goal

pub returns-then-reading-gt-LATEST : goal.returns-then-reading-gt-LATEST
unfolding step
returns-then-reading-gt-LATEST g c = record { step = refused _ _ Time _ (failed _ Time _ (lt-leb _ _ c.if-reading-gt-LATEST.true)) refl refl }

pub returns : goal.returns
unfolding step
returns g c = record { step = same_step _ _ (passed _ Time _ _ (le-leb _ _ c.if-reading-gt-LATEST.false) refl) _ _ _ c.hear.ensures.step }
