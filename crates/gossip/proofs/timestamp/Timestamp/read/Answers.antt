use Rattle.std.proofs.Common.{◌≡◌, length, Ok, true, sym, ap}
use Rattle.std.proofs.lemmas.Bool.{eq-eqb}
use Rattle.gossip.specs.Timestamps.{group_size}
use Rattle.gossip.proofs.Arrays.{front_filled}
use Rattle.gossip.proofs.Sound.{group_size-parts}
use Rattle.gossip.proofs.timestamp.Timestamp.read.Goals as goal

pub returns : goal.returns
returns c =
    let b = c.args.buffer.now in
    let size : group_size c.args.n ≡ true = sym c.if-not-is_group_size.ensures.answer in
    let long : length b ≡ c.args.n = c.if-buffer-n.false in
    let e = front_filled 7 c.args.n b c.copy_from_slice.new.self long (group_size-parts c.args.n size).1 c.copy_from_slice.ensures.after in
    record { answer = rw (size, eq-eqb _ _ long) (ap (λ xs. Ok record { parts = xs }) e) }
