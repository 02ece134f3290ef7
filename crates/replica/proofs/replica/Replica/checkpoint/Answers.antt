use Rattle.std.proofs.Common.{sym, ap, ◌∙◌, is_ok}
use Rattle.replica.specs.Contents.{memory}
use Rattle.replica.proofs.Telling.{joins}
use Rattle.replica.proofs.replica.Replica.checkpoint.Goals as goal

pub unwrap-requires : goal.unwrap-requires
unfolding memory
unwrap-requires c =
    let r = c.args.self.now in
    ap is_ok (c.new.ensures.answer ∙ joins r.membership (memory r) r.sound _ c.message.ensures.answer)

pub returns : goal.returns
unfolding memory
returns c =
    let r = c.args.self.now in
    let done = sym c.unwrap.ensures ∙ c.new.ensures.answer ∙ joins r.membership (memory r) r.sound _ c.message.ensures.answer in
    record { answer = cc done }
