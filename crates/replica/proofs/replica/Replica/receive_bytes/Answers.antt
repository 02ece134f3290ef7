use Rattle.replica.specs.declared.refusal.Refusal.TheVariants.{Time}
use Rattle.std.proofs.Common.{sym, ap}
use Rattle.std.proofs.lemmas.Bool.{le-leb}
use Rattle.gossip.specs.Refusals.{and_then}
use Rattle.gossip.proofs.Unless.{passed}
use Rattle.replica.specs.Contents.{memory}
use Rattle.replica.specs.Refusals.{refused}
use Rattle.replica.specs.Steps.{hear}
use Rattle.replica.proofs.Taken.{same_step}
use Rattle.replica.proofs.replica.Replica.receive_bytes.Goals as goal

-- bytes that read are heard as the message that they spell
pub returns : goal.returns
returns g c =
    let r = c.args.self.now in
    let read = c.in_ok-message.ensures.answer in
    let heard = ap (λ x. and_then (refused x) (λ t. hear g.L.Lattice.kind r.membership (memory r) t c.args.reading)) (sym read) in
    record { step = same_step _ _ (passed _ Time _ _ (le-leb _ _ c.if-reading-gt-LATEST.false) heard) _ _ _ c.hear.ensures.step }
