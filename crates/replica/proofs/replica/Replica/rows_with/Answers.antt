use Rattle.std.proofs.Common.{arith}
use Rattle.replica.proofs.Hearing.{rows_heard}
use Rattle.replica.proofs.MemoriesKept.{memory_parts}
use Rattle.replica.specs.Contents.{memory}
use Rattle.replica.proofs.replica.Replica.rows_with.Goals as goal

pub returns : goal.returns
unfolding memory
returns c =
    let s = c.args.self.now in
    let h = memory_parts s.membership (memory s) s.sound in
    record { answer = rows_heard s.rows c.args.head.now.sender s.membership.replica _ c.args.head.now.timestamp c.merge.new.self c.args.timestamp (omega (arith, h.rows.long, c.requires)) c.merge.ensures.after }
