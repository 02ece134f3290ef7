use Rattle.replica.specs.declared.refusal.Refusal.TheVariants.{Value as BadValue, Late, Time}
use Rattle.std.proofs.Common.{Some, None, sym, refl}
use Rattle.std.proofs.lemmas.Result.{err_from_is_err_and}
use Rattle.std.proofs.lemmas.Bool.{and_parts}
use Rattle.table.specs.Entries.{find}
use Rattle.replica.specs.Answers.{set, same}
use Rattle.replica.specs.Contents.{memory}
use Rattle.replica.specs.Steps.{stored}
use Rattle.replica.proofs.Changes.{enter_untimely, enter-foreign, enter-late, enter-changes, change_refused, change-set, entered_plain}
use Rattle.replica.proofs.Taken.{refused, took}
use Rattle.replica.proofs.replica.Replica.enter.Goals as goal

pub returns-then-not-are_times : goal.returns-then-not-are_times
returns-then-not-are_times g c = record { step = refused _ _ Time _ (enter_untimely _ _ _ _ _ _ _ (sym c.if-not-are_times.ensures)) refl refl }

pub returns-then-not-is_value : goal.returns-then-not-is_value
returns-then-not-is_value g c =
    record { step = refused _ _ BadValue _ (enter-foreign _ _ _ _ _ _ _ (sym c.if-not-are_times.ensures) (sym c.if-not-is_value.ensures.answer)) refl refl }

pub returns-then-is_late : goal.returns-then-is_late
unfolding memory
returns-then-is_late g c =
    record {
      step = refused _ _ Late _
          (enter-late _ _ (memory c.args.self.now) _ _ _ _ (sym c.if-not-are_times.ensures) (sym c.if-not-is_value.ensures.answer) (sym c.if-is_late.ensures.answer)) refl refl;
    }

pub returns-in_default : goal.returns-in_default
unfolding memory
returns-in_default g c =
    let r = c.args.self.now in
    record {
      step = took _ _ (same r.timestamp) (memory r) _
          (enter-changes _ _ (memory r) _ _ _ _ (sym c.if-not-are_times.ensures) (sym c.if-not-is_value.ensures.answer) (sym c.if-is_late.ensures.answer) None c.in_default.ensures.answer _ refl)
          refl refl;
    }

pub returns-in_err-raised : goal.returns-in_err-raised
unfolding memory
returns-in_err-raised g c =
    let r = c.args.self.now in
    let x = c.in-Some.state in
    let p = err_from_is_err_and c.from_residual.result c.from_residual.ensures.1 in
    rw (p.1, p.2) (record {
      step = refused _ _ _ _
          (enter-changes _ _ (memory r) _ _ _ _ (sym c.if-not-are_times.ensures) (sym c.if-not-is_value.ensures.answer) (sym c.if-is_late.ensures.answer) (Some x) c.in-Some.ensures.answer _
          (change_refused r.membership (memory r) c.args.reading c.args.seat x _ (c.in_err-raised.ensures.answer x)))
          refl refl;
    })

pub store-requires : goal.store-requires
unfolding memory
store-requires g c =
    let plain = entered_plain g.L.Lattice.kind c.args.value (find c.args.self.now.table c.args.seat) c.in-Some.state c.in_ok-raised.raised c.in-Some.ensures.answer in
    record {
      raised = sym (c.in_ok-raised.ensures.answer c.in-Some.state);
      reading = (and_parts _ _ (sym c.if-not-are_times.ensures)).1;
      wide = plain.0;
      allowed = plain.1;
    }

pub returns : goal.returns
unfolding memory
returns g c =
    let r = c.args.self.now in
    let x = c.in-Some.state in
    let s = c.in_ok-raised.raised in
    record {
      step = took _ _ (set s) (stored r.membership (memory r) c.args.reading c.args.seat x s) _
          (enter-changes _ _ (memory r) _ _ _ _ (sym c.if-not-are_times.ensures) (sym c.if-not-is_value.ensures.answer) (sym c.if-is_late.ensures.answer) (Some x) c.in-Some.ensures.answer _
          (change-set r.membership (memory r) c.args.reading c.args.seat x s (c.in_ok-raised.ensures.answer x)))
          c.store.ensures.after c.store.ensures.kept;
    }
