use Rattle.std.proofs.Common.{length, ap, arith, length-append}
use Rattle.std.proofs.lemmas.Bool.Decides.{nat_tests}
use Rattle.storage.specs.Halves.{contents}
use Rattle.storage.proofs.Scans.{read_run, read_long, run_end, run_piece, run_stop}
use Rattle.storage.proofs.log.half.Half.replay.Goals as goal

pub returns-then-bytes-gt-CAPACITY : goal.returns-then-bytes-gt-CAPACITY
returns-then-bytes-gt-CAPACITY c = grind (arith, read_long)

pub loop-log-init : goal.loop-log-init
loop-log-init c = grind (arith, read_run)

pub returns-in_default : goal.returns-in_default
returns-in_default c = grind (arith, nat_tests, run_stop)

pub loop-log-preserved : goal.loop-log-preserved
loop-log-preserved c =
    let p = c.in-Some.piece in
    let front = c.in-Some.ensures.piece in
    let step = run_piece p.number.value p.bytes.now c.in-Some.rest.now (contents c.loop-log.self) p.number.known p.some p.fits in
    record { length = omega (arith, ap length front, length-append p.bytes.now c.in-Some.rest.now); contents = cc (c.append.ensures.after, step, front, c.loop-log.invariant.contents) }

pub returns : goal.returns
returns c = grind (arith, nat_tests, run_end)
