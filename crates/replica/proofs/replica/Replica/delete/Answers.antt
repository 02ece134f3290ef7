use Rattle.replica.specs.declared.refusal.Refusal.TheVariants.{Late, Time}
use Rattle.std.proofs.Common.{cond, Some, None, sym, refl, ap, ◌∙◌}
use Rattle.std.proofs.lemmas.Result.{err_from_is_err_and}
use Rattle.std.proofs.lemmas.Bool.{and_parts, and_from}
use Rattle.gossip.specs.Messages.{wide_timestamp}
use Rattle.gossip.specs.declared.entry.State.TheVariants.{Tombstone}
use Rattle.gossip.specs.declared.timestamp.Timestamp.{Timestamp}
use Rattle.gossip.specs.UnderLemmas.{under_refl}
use Rattle.replica.specs.Answers.{set, same}
use Rattle.replica.specs.Contents.{memory}
use Rattle.replica.specs.Steps.{raised, stored}
use Rattle.replica.proofs.Changes.{delete_untimely, delete-late, delete-changes, change_refused, change-set, raise_ok}
use Rattle.replica.proofs.MemoriesKept.{raised_wide}
use Rattle.replica.proofs.Taken.{refused, took}
use Rattle.replica.proofs.replica.Replica.delete.Goals as goal

pub returns-then-not-are_times : goal.returns-then-not-are_times
returns-then-not-are_times c = record { step = λ k. refused _ _ Time _ (delete_untimely _ _ _ _ _ _ (sym c.if-not-are_times.ensures)) refl refl }

pub returns-then-is_late : goal.returns-then-is_late
unfolding memory
returns-then-is_late c =
    record { step = λ k. refused _ _ Late _ (delete-late _ _ (memory c.args.self.now) _ _ _ (sym c.if-not-are_times.ensures) (sym c.if-is_late.ensures.answer)) refl refl }

pub returns-then-is_deleted : goal.returns-then-is_deleted
unfolding memory
returns-then-is_deleted c =
    let r = c.args.self.now in
    let x = Tombstone c.args.time (raised r.membership (memory r)) in
    record {
      step = λ k. took _ _ (same r.timestamp) (memory r) _
          (delete-changes _ _ (memory r) _ _ _ (sym c.if-not-are_times.ensures) (sym c.if-is_late.ensures.answer) None (ap (λ b. cond b None (Some x)) c.if-is_deleted.ensures.answer) _ refl)
          refl refl;
    }

pub returns-in_err-raised : goal.returns-in_err-raised
unfolding memory
returns-in_err-raised c =
    let r = c.args.self.now in
    let x = Tombstone c.args.time (raised r.membership (memory r)) in
    let p = err_from_is_err_and c.from_residual.result c.from_residual.ensures.1 in
    rw (p.1, p.2) (record {
      step = λ k. refused _ _ _ _
          (delete-changes _ _ (memory r) _ _ _ (sym c.if-not-are_times.ensures) (sym c.if-is_late.ensures.answer) (Some x) (ap (λ b. cond b None (Some x)) c.if-is_deleted.ensures.answer) _
          (change_refused r.membership (memory r) c.args.reading c.args.seat x _ (c.in_err-raised.ensures.answer x)))
          refl refl;
    })

-- the timestamp that the change has is the rule's
pub store-requires : goal.store-requires
unfolding memory
store-requires c =
    let r = c.args.self.now in
    let times = and_parts _ _ (sym c.if-not-are_times.ensures) in
    let x = Tombstone c.args.time c.in_ok-raised.raised in
    let e = sym (c.in_ok-raised.ensures.answer x) in
    let a = raise_ok r.membership (memory r) c.args.reading c.args.seat x c.in_ok-raised.raised e in
    record {
      raised = e;
      reading = times.1;
      wide = ap wide_timestamp (sym a.2) ∙ raised_wide r.membership (memory r) r.sound a.1;
      allowed = and_from _ _ times.0 (under_refl c.in_ok-raised.raised.parts);
    }

pub returns : goal.returns
unfolding memory
returns c =
    let r = c.args.self.now in
    let s = c.in_ok-raised.raised in
    let t = raised r.membership (memory r) in
    let x = Tombstone c.args.time t in
    let a = raise_ok r.membership (memory r) c.args.reading c.args.seat x s (sym (c.in_ok-raised.ensures.answer x)) in
    record {
      step = λ k. took _ _ (set s) (stored r.membership (memory r) c.args.reading c.args.seat x s) _
          (delete-changes _ _ (memory r) _ _ _ (sym c.if-not-are_times.ensures) (sym c.if-is_late.ensures.answer) (Some x) (ap (λ b. cond b None (Some x)) c.if-is_deleted.ensures.answer) _
          (change-set r.membership (memory r) c.args.reading c.args.seat x s (c.in_ok-raised.ensures.answer x)))
          (c.store.ensures.after ∙ ap (λ (z : Timestamp). stored r.membership (memory r) c.args.reading c.args.seat (Tombstone c.args.time z) s) (sym a.2)) c.store.ensures.kept;
    }
