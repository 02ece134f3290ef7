use Rattle.std.proofs.Common.{sym, ap}
use Rattle.gossip.specs.Refusals.{cause}
use Rattle.gossip.proofs.refusal.Refusal.cause.Goals as goal

pub returns-in-Replica : goal.returns-in-Replica
returns-in-Replica c = record { answer = ap cause (sym c.in-Replica.is) }

pub returns-in-Full : goal.returns-in-Full
returns-in-Full c = record { answer = ap cause (sym c.in-Full.is) }

pub returns-in-Parts : goal.returns-in-Parts
returns-in-Parts c = record { answer = ap cause (sym c.in-Parts.is) }

pub returns-in-Short : goal.returns-in-Short
returns-in-Short c = record { answer = ap cause (sym c.in-Short.is) }

pub returns-in-Order : goal.returns-in-Order
returns-in-Order c = record { answer = ap cause (sym c.in-Order.is) }

pub returns-in-Mark : goal.returns-in-Mark
returns-in-Mark c = record { answer = ap cause (sym c.in-Mark.is) }
