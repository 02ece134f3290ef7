use Rattle.std.proofs.Common.{◌≡◌, ◌-◌, ◌++◌, ◌∙◌, length, min, take, arith, rules}
use Rattle.inspect.proofs.Ends.{appended}
use Rattle.inspect.proofs.input.append.Goals as goal

pub returns : goal.returns
returns c =
    let kept = c.args.kept.now.items in
    let b = c.args.bytes.now in
    let m : c.min-more.result ≡ min (6642 - length kept) (length b) = omega (arith, c.remaining_capacity.ensures, c.min-more.ensures) in
    let e : c.try_extend_from_slice.new.self.items ≡ kept ++ take c.min-more.result b = search rules in
    e ∙ appended kept b c.min-more.result (omega (arith, c.remaining_capacity.ensures)) m
