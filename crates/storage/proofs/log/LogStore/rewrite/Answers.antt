use Rattle.std.proofs.Common.{[], set, ap, ◌∙◌}
use Rattle.std.proofs.lemmas.List.{set-set}
use Rattle.storage.specs.Halves.{contents}
use Rattle.storage.proofs.log.LogStore.rewrite.Goals as goal

pub returns-clause-after : goal.returns-clause-after
returns-clause-after c =
    let p = c.args.piece in
    c.append.ensures.after ∙ ap (λ found. set found p.number.value p.bytes.now) c.move_others.ensures.after ∙ set-set (contents c.args.self.now.active) p.number.value [] p.bytes.now
