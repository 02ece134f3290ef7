use Rattle.std.proofs.Common.{sym, ◌∙◌}
use Rattle.table.proofs.Places.{find_none, place_found, find-held}
use Rattle.table.proofs.table.Table.find.Goals as goal

pub returns-in_err-place : goal.returns-in_err-place
returns-in_err-place c = rw c.from_residual.ensures (record { answer = find_none _ _ c.place.result c.place.ensures.absent (sym c.ok.ensures.value ∙ c.in_err-place.was) })

pub returns : goal.returns
returns c =
    let at = place_found _ _ _ c.place.result c.place.ensures.found (sym c.ok.ensures.value ∙ c.in_ok-place.was) in
    record { answer = rw (← c.self.view_is) (find-held _ c.self.invariant.sorted _ _ (rw c.self.view_is at) c.index.result.now c.index.ensures) }
