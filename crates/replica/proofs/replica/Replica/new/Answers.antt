use Rattle.std.proofs.Common.{◌≡◌, replicate, refl, ap}
use Rattle.checkpoint.specs.Checkpoints.{zero}
use Rattle.replica.specs.Contents.{memory}
use Rattle.replica.proofs.Taken.{of_parts, same_memory}
use Rattle.replica.proofs.replica.Replica.new.Goals as goal

pub returns : goal.returns
unfolding memory
returns c =
    let z : c.zero-zero.result ≡ zero = of_parts _ _ c.zero-zero.ensures.answer in
    let e = c.in_ok-table.ensures.answer in
    record { answer = (same_memory refl z e (ap (replicate 7) z), refl) }
