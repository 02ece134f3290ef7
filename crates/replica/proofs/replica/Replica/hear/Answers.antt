use Rattle.replica.specs.declared.refusal.Refusal.TheVariants.{Full}
use Rattle.std.proofs.Common.{◌≡◌, Bool, true, false, Ok, sym, refl, ap, ◌∙◌}
use Rattle.std.proofs.lemmas.Result.{err_from_is_err_and}
use Rattle.gossip.specs.Messages.{Message}
use Rattle.gossip.specs.Timestamps.{under}
use Rattle.gossip.specs.declared.head.Head.{Head}
use Rattle.gossip.specs.declared.timestamp.Timestamp.{Timestamp}
use Rattle.replica.specs.Answers.{old, new}
use Rattle.replica.specs.Contents.{memory}
use Rattle.replica.specs.Memories.{Memory, sound_memory}
use Rattle.replica.specs.Steps.{learnt}
use Rattle.replica.proofs.Hearing.{head_ours, learnt_is, hear-old, hear-full, hear-new}
use Rattle.replica.proofs.MemoriesKept.{learnt-sound}
use Rattle.replica.proofs.Taken.{same_memory, refused, took}
use Rattle.replica.proofs.replica.Replica.hear.Goals as goal

-- a head's timestamp stands under this replica's just where its message's does
head_under : (m : Memory) (g : Message) (h : Head) (b : Bool) → h ≡ g.head → b ≡ under h.timestamp.parts m.timestamp.parts → under g.head.timestamp.parts m.timestamp.parts ≡ b
head_under m g h b e q = ap (λ (x : Head). under x.timestamp.parts m.timestamp.parts) (sym e) ∙ sym q

pub returns-then-is_under : goal.returns-then-is_under
unfolding memory
returns-then-is_under g c =
    let k = g.L.Lattice.kind in
    let r = c.args.self.now in
    let m = memory r in
    let t = c.args.message.now in
    let h = c.head-head.result in
    let e = c.head-head.ensures.answer in
    let ours = head_ours k r.membership m t c.args.reading h e c.if-head-self.false c.if-head-self-2.false in
    record { step = took _ _ old m _ (hear-old k r.membership m t c.args.reading ours (head_under m t h true e c.if-is_under.ensures.answer)) refl refl }

pub returns-in_err-merge : goal.returns-in_err-merge
unfolding memory
returns-in_err-merge g c =
    let k = g.L.Lattice.kind in
    let r = c.args.self.now in
    let m = memory r in
    let t = c.args.message.now in
    let h = c.head-head.result in
    let e = c.head-head.ensures.answer in
    let ours = head_ours k r.membership m t c.args.reading h e c.if-head-self.false c.if-head-self-2.false in
    let news = head_under m t h false e c.if-is_under.ensures.answer in
    let p = err_from_is_err_and c.from_residual.result c.from_residual.ensures.1 in
    rw (p.1, p.2) (record {
      step = refused _ _ Full _ (hear-full k r.membership m t c.args.reading ours news (sym c.in_err-merge.ensures.answer))
          (same_memory refl refl c.in_err-merge.ensures.after refl) refl;
    })

pub invariant_of-self-2 : goal.invariant_of-self-2
unfolding memory
invariant_of-self-2 g c =
    let k = g.L.Lattice.kind in
    let r = c.args.self.now in
    let m = memory r in
    let t = c.args.message.now in
    let h = c.head-head.result in
    let e = c.head-head.ensures.answer in
    let ours = head_ours k r.membership m t c.args.reading h e c.if-head-self.false c.if-head-self-2.false in
    record {
      sound = ap (sound_memory r.membership) (learnt_is k r.membership m t c.args.reading h c.merge.new.self _ _ _ e c.merge.ensures.after c.max-self.ensures c.in_ok-merge.ensures.after c.rows_with-rows.ensures.answer)
          ∙ learnt-sound k r.membership m t c.args.reading r.sound c.head-head.ensures.sound ours c.requires (sym c.in_ok-merge.ensures.answer);
    }

pub returns : goal.returns
unfolding memory
returns g c =
    let k = g.L.Lattice.kind in
    let r = c.args.self.now in
    let m = memory r in
    let t = c.args.message.now in
    let h = c.head-head.result in
    let e = c.head-head.ensures.answer in
    let ours = head_ours k r.membership m t c.args.reading h e c.if-head-self.false c.if-head-self-2.false in
    let news = head_under m t h false e c.if-is_under.ensures.answer in
    let same = learnt_is k r.membership m t c.args.reading h c.merge.new.self _ _ _ e c.merge.ensures.after c.max-self.ensures c.in_ok-merge.ensures.after c.rows_with-rows.ensures.answer in
    let now = ap (λ (x : Memory). x.timestamp) same in
    let after = learnt k r.membership m t c.args.reading in
    record {
      step = took _ _ (new c.merge.new.self) after _
          (hear-new k r.membership m t c.args.reading ours news (sym c.in_ok-merge.ensures.answer) ∙ ap (λ (s : Timestamp). Ok (record { answer = new s; memory = after })) (sym now))
          same refl;
    }
