use Rattle.std.proofs.Common.{refl, sym, ◌∙◌}
use Rattle.table.proofs.Places.{find_none, place_found, find-held, set-held, sorted-set, changed_none}
use Rattle.table.proofs.table.Table.state_mut.Goals as goal

-- without an entry nothing is lent
pub returns-in_err-place : goal.returns-in_err-place
returns-in_err-place c =
    let es = c.self.inside.entries.items in
    let none = find_none es c.args.seat c.place.result c.place.ensures.absent (sym c.ok.ensures.value ∙ c.in_err-place.was) in
    rw (c.from_residual.ensures, ← c.self.view_is) ((refl, λ w. (changed_none es c.args.seat w none, c.self.invariant.sorted), (refl, c.self.invariant.sorted)), record { after = tt; answer = none })

-- whatever is written, the seats stay
pub invariant_of-self-lent : goal.invariant_of-self-lent
invariant_of-self-lent c w = record { sorted = sorted-set _ c.self.invariant.sorted _ c.in_ok-entry.entry.now w c.in_ok-entry.ensures.value; room = c.self.invariant.room }

pub returns : goal.returns
returns c =
    let es = c.self.inside.entries.items in
    let at = place_found es c.args.seat _ c.place.result c.place.ensures.found (sym c.ok.ensures.value ∙ c.in_ok-place.was) in (
      (
        refl,
        λ w. rw (← c.self.view_is) (set-held es c.self.invariant.sorted _ _ at c.in_ok-entry.entry.now c.in_ok-entry.ensures.value w, sorted-set es c.self.invariant.sorted _ c.in_ok-entry.entry.now w c.in_ok-entry.ensures.value),
        rw (← c.self.view_is) (refl, c.self.invariant.sorted),
      ),
      record { after = tt; answer = rw (← c.self.view_is) (find-held es c.self.invariant.sorted _ _ at c.in_ok-entry.entry.now c.in_ok-entry.ensures.value) },
    )
