use Rattle.inspect.proofs.show.StartDisplay.fmt.Goals as goal

pub returns-clause-writes : goal.returns-clause-writes
returns-clause-writes g c plain ok = rw (c.number-kind.ensures.answer, c.prefix.ensures.answer) at c.write.ensures.writes plain ok
