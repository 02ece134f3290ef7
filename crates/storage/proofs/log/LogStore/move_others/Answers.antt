use Rattle.std.proofs.Common.{◌≡◌, ◌+◌, ◌<◌, [], length, get_or, set, sym, ap, ◌∙◌, subst, arith}
use Rattle.storage.specs.Halves.{contents}
use Rattle.storage.specs.Indexes.{contents_lawful}
use Rattle.storage.proofs.Moving.{Turn, moved_own, moved_nothing, moved_put, moved_all}
use Rattle.storage.proofs.log.LogStore.move_others.Goals as goal
use Rattle.storage.proofs.log.LogStore.move_others.Goals.{then-other-number+in-Some, then-other-number+in_default, else-other-number}

pub loop-other-preserved : goal.loop-other-preserved
loop-other-preserved c =
    let a = c.args.self.now.active in
    let k = c.loop-other.other in
    let n = c.args.number.value in
    let rs = contents a in
    let qs = contents c.loop-other.self.spare in
    let i = c.loop-other.invariant in
    let same = ap (λ h. get_or (contents h) k []) i.active in
    elim c.if-other-number.branch [
      | then-other-number+in-Some w ↦
          let e : contents w.append.new.self ≡ set qs k (get_or rs k []) = w.append.ensures.after ∙ rw w.in-Some.ensures.number (ap (set qs k) (w.in-Some.ensures.bytes ∙ same)) in
          let lt : k < length qs = omega (arith, (contents_lawful c.loop-other.self.spare).seven) in
          subst (λ s. Turn s a n (k + 1)) (sym w.self-is) (record { active = i.active; used = omega (arith, w.append.ensures.used, i.used); moved = rw e (moved_put rs n k qs i.moved lt (omega arith)) })
      | then-other-number+in_default w ↦
          subst (λ s. Turn s a n (k + 1)) (sym w.self-is) (record { active = i.active; used = omega (arith, i.used); moved = moved_nothing rs n k qs i.moved (sym same ∙ w.in_default.ensures.bytes) })
      | else-other-number w ↦
          subst (λ s. Turn s a n (k + 1)) (sym w.self-is) (record { active = i.active; used = omega (arith, i.used); moved = moved_own rs n k qs i.moved (omega arith) })
    ]

pub returns-clause-after : goal.returns-clause-after
returns-clause-after c =
    let i = c.loop-other.invariant in
    moved_all (contents c.args.self.now.active) c.args.number.value c.loop-other.other (contents c.loop-other.self.spare) i.moved (contents_lawful c.args.self.now.active).seven (contents_lawful c.loop-other.self.spare).seven (omega arith)
