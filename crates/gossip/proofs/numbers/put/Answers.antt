use Rattle.std.proofs.Common.{◌+◌, ◌-◌, length, ap, ◌∙◌, arith}
use Rattle.gossip.specs.Numbers.{put_at}
use Rattle.gossip.proofs.Puts.{put_mid-put_at}
use Rattle.gossip.proofs.numbers.put.Goals as goal

pub returns : goal.returns
returns c =
    let o = c.args.out.now in
    let at = c.args.at in
    let bytes = c.copy_from_slice.ensures.after in
    put_mid-put_at at (at + length c.args.bytes.now - at) o c.copy_from_slice.new.self (ap length bytes ∙ omega arith) ∙ ap (λ z. put_at at z o) bytes
