use Rattle.std.proofs.Common.{is_some, sym, ap, ◌∙◌, arith}
use Rattle.std.proofs.lemmas.Bool.{lt-ltb}
use Rattle.replica.proofs.Room.{fits_short, fits_full}
use Rattle.replica.proofs.replica.Replica.has_room.Goals as goal

pub returns-then-len-lt-ENTRIES : goal.returns-then-len-lt-ENTRIES
returns-then-len-lt-ENTRIES c =
    let n = c.len.ensures.answer in
    record { answer = λ x. lt-ltb _ 64 c.if-len-lt-ENTRIES.true ∙ sym (fits_short c.args.self.now.table c.len.ensures.sorted c.args.seat x (omega arith)) }

pub returns-else-len-lt-ENTRIES : goal.returns-else-len-lt-ENTRIES
returns-else-len-lt-ENTRIES c =
    let n = c.len.ensures.answer in
    record { answer = λ x. c.is_some.ensures ∙ ap is_some c.find.ensures.answer ∙ sym (fits_full c.args.self.now.table c.len.ensures.sorted c.args.seat x (omega arith)) }
