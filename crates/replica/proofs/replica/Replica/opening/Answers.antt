use Rattle.std.proofs.Common.{sym, ap, ◌∙◌, is_ok}
use Rattle.replica.specs.Contents.{memory}
use Rattle.replica.proofs.Telling.{opens}
use Rattle.replica.proofs.replica.Replica.opening.Goals as goal

pub unwrap-requires : goal.unwrap-requires
unfolding memory
unwrap-requires c =
    let r = c.args.self.now in
    ap is_ok (c.new.ensures.answer ∙ opens r.membership (memory r) r.sound)

pub returns : goal.returns
unfolding memory
returns c =
    let r = c.args.self.now in
    let done = sym c.unwrap.ensures ∙ c.new.ensures.answer ∙ opens r.membership (memory r) r.sound in
    record { answer = cc done }
