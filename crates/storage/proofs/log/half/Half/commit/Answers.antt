use Rattle.std.proofs.Common.{Some, refl, sym, ap, ◌∙◌, arith, length-set}
use Rattle.storage.proofs.Growing.{inside_grown}
use Rattle.storage.proofs.Committing.{committed_index, committed_read}
use Rattle.storage.proofs.log.half.Half.commit.Goals as goal

pub invariant_of-self-2-clause-seven : goal.invariant_of-self-2-clause-seven
invariant_of-self-2-clause-seven c = length-set _ _ _ ∙ c.args.self.now.seven

pub invariant_of-self-2-clause-inside : goal.invariant_of-self-2-clause-inside
invariant_of-self-2-clause-inside c = inside_grown c.args.self.now.used _ c.args.self.now.index c.args.piece.number.value _ c.args.self.now.inside (omega arith) (omega arith)

pub invariant_of-self-2-clause-reads : goal.invariant_of-self-2-clause-reads
invariant_of-self-2-clause-reads c =
    let h = c.args.self.now in
    let p = c.args.piece in
    let r = c.requires in
    committed_read h p.number.value p.bytes.now c.len.result c.len.ensures.answer r.room r.staged p.number.known p.some p.fits ∙ ap Some (sym (committed_index h p.number.value p.bytes.now c.len.result c.len.ensures.answer r.room r.staged _ refl refl))

pub returns-clause-after : goal.returns-clause-after
returns-clause-after c = committed_index c.args.self.now c.args.piece.number.value c.args.piece.bytes.now c.len.result c.len.ensures.answer c.requires.room c.requires.staged _ refl refl
