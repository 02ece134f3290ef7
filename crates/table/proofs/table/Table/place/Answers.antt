use Rattle.std.proofs.Common.{rules}
use Rattle.std.proofs.lemmas.List.Sorted.{answers_always}
use Rattle.table.proofs.Places.{searched}
use Rattle.table.proofs.table.Table.place.Goals as goal

-- the closure gives an entry's seat, and the slice is the table's entries
pub returns : goal.returns
returns c =
    let facts = c.binary_search_by_key.ensures in
    let by_seat = facts.position (λ e. e.seat) (answers_always _ _ _ (λ f a r g called. search rules)) in
    rw (← c.self.view_is, ← c.deref.ensures.value) (searched _ c.args.seat (rw c.deref.ensures.value c.self.invariant.sorted.rising) _ facts.bound by_seat)
