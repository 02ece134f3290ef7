use Rattle.inspect.proofs.show.ShownDisplay.fmt.Goals as goal

pub returns-clause-writes : goal.returns-clause-writes
returns-clause-writes g c plain ok = rw (c.head-head.ensures.answer, c.entries-list.ensures.answer) at c.write.ensures.writes plain ok
