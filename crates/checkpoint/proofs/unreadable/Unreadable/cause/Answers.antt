use Rattle.std.proofs.Common.{sym, ap}
use Rattle.checkpoint.specs.Refusals.{cause}
use Rattle.checkpoint.proofs.unreadable.Unreadable.cause.Goals as goal

pub returns-in-Owner : goal.returns-in-Owner
returns-in-Owner c = record { answer = ap cause (sym c.in-Owner.is) }
