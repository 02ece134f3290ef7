use Rattle.std.proofs.Common.{sym, refl, ap}
use Rattle.gossip.specs.Numbers.{Bytes}
use Rattle.table.proofs.Merges.{told_entries}
use Rattle.replica.specs.Contents.{memory}
use Rattle.replica.specs.Restoring.{restored}
use Rattle.replica.proofs.Restoring.{restores, loaded, restored_is}
use Rattle.replica.proofs.replica.Replica.restore.Goals as goal

pub invariant_of-self : goal.invariant_of-self
unfolding memory
invariant_of-self g c =
    let k = g.L.Lattice.kind in
    let p = c.args.self.now.membership in
    let b = c.args.bytes.now in
    let t = c.message-message.result in
    let h = c.head-head.ensures in
    let es = loaded k.join t.entries c.clear.new.self c.merge.new.self c.merge.result c.clear.ensures.after (told_entries t t.entries refl h.sound) c.merge.ensures.answer c.merge.ensures.after in
    let e = restored_is k p b c.in_ok-checkpoint.checkpoint t c.head-head.result _ _ c.in_ok-checkpoint.ensures.answer c.message-message.ensures.answer h.answer (sym c.if-not-is_own.ensures.answer) es c.rows-self.ensures.answer in
    record { sound = (restores.reads_sound k p b _ (λ i. (c.type_inv.bytes i).fits) e).0 }

pub returns : goal.returns
unfolding memory
returns g c =
    let k = g.L.Lattice.kind in
    let p = c.args.self.now.membership in
    let b = c.args.bytes.now in
    let bytes : Bytes b = λ i. (c.type_inv.bytes i).fits in
    let t = c.message-message.result in
    let h = c.head-head.ensures in
    let es = loaded k.join t.entries c.clear.new.self c.merge.new.self c.merge.result c.clear.ensures.after (told_entries t t.entries refl h.sound) c.merge.ensures.answer c.merge.ensures.after in
    let e = restored_is k p b c.in_ok-checkpoint.checkpoint t c.head-head.result _ _ c.in_ok-checkpoint.ensures.answer c.message-message.ensures.answer h.answer (sym c.if-not-is_own.ensures.answer) es c.rows-self.ensures.answer in
    record {
      answer = sym e;
      after = sym (ap (λ r. restored r (memory c.args.self.now)) e);
      kept = refl;
      spelling = restores.sole k p b _ bytes e;
      kind = (restores.reads_sound k p b _ bytes e).1;
    }
