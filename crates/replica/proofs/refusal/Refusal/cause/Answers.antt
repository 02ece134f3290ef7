use Rattle.std.proofs.Common.{sym, ap}
use Rattle.replica.specs.Refusals.{cause}
use Rattle.replica.proofs.refusal.Refusal.cause.Goals as goal

pub returns-in-Replica : goal.returns-in-Replica
returns-in-Replica c = record { answer = ap cause (sym c.in-Replica.is) }

pub returns-in-Time : goal.returns-in-Time
returns-in-Time c = record { answer = ap cause (sym c.in-Time.is) }

pub returns-in-Full : goal.returns-in-Full
returns-in-Full c = record { answer = ap cause (sym c.in-Full.is) }

pub returns-in-Spent : goal.returns-in-Spent
returns-in-Spent c = record { answer = ap cause (sym c.in-Spent.is) }

pub returns-in-Size : goal.returns-in-Size
returns-in-Size c = record { answer = ap cause (sym c.in-Size.is) }

pub returns-in-Group : goal.returns-in-Group
returns-in-Group c = record { answer = ap cause (sym c.in-Group.is) }
