use Rattle.std.proofs.Common.{sym}
use Rattle.table.proofs.Merges.{find-merge}
use Rattle.table.proofs.Puts.{find-put, put-found}
use Rattle.table.proofs.Sweeps.{find-swept}
use Rattle.table.proofs.laws.lookups_follow.Goals as goal

pub returns : goal.returns
returns c = record { lookups = record { change_puts = λ es u x h k. sym (put-found es u x h k); put_finds = find-put; merge_finds = find-merge; sweep_finds = find-swept } }
