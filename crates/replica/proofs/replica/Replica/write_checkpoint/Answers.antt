use Rattle.std.proofs.Common.{length, Ok, ap, ◌∙◌}
use Rattle.gossip.specs.Messages.{of_kind}
use Rattle.gossip.specs.Numbers.{put_at}
use Rattle.checkpoint.specs.Checkpoints.{Saved}
use Rattle.checkpoint.specs.Format.{encode_saved}
use Rattle.replica.specs.Contents.{memory}
use Rattle.replica.proofs.Restoring.{own_read}
use Rattle.replica.proofs.replica.Replica.write_checkpoint.Goals as goal

pub returns : goal.returns
returns g c =
    let k = g.L.Lattice.kind in
    let r = c.args.self.now in
    let e = c.checkpoint.ensures.answer in
    record {
      answer = c.write.ensures.answer ∙ ap (λ s. length (encode_saved k s)) e;
      buffer = c.write.ensures.buffer ∙ ap (λ s. put_at 0 (encode_saved k s) c.args.out.now) e;
      back = λ f. own_read k r.membership _ (memory r) (c.write.ensures.back (ap (λ (s : Saved). of_kind k s.message) e ∙ f) ∙ ap Ok e);
    }
