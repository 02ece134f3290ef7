use Rattle.std.proofs.Common.{◌≡◌, ◌*◌, length, refl, arith, take_all}
use Rattle.gossip.specs.Format.{encode_timestamp}
use Rattle.gossip.proofs.NumberLaws.{piece_within}
use Rattle.gossip.proofs.Written.{written_start, written_next}
use Rattle.checkpoint.proofs.writer.put_rows.Goals as goal

pub loop-i-init : goal.loop-i-init
loop-i-init c = written_start (encode_timestamp c.args.n) (4 * c.args.n) _ _ _

pub overflow_add-at : goal.overflow_add-at
overflow_add-at c =
    let f = piece_within c.loop-i.i (length c.args.rows.now) (4 * c.args.n) c.loop-i-test.true in
    omega arith

pub put_row-requires : goal.put_row-requires
put_row-requires c =
    let f = piece_within c.loop-i.i (length c.args.rows.now) (4 * c.args.n) c.loop-i-test.true in
    record { some = c.requires.some; few = c.requires.few; within = omega arith }

pub loop-i-preserved : goal.loop-i-preserved
loop-i-preserved c =
    let f = piece_within c.loop-i.i (length c.args.rows.now) (4 * c.args.n) c.loop-i-test.true in
    written_next (encode_timestamp c.args.n) (4 * c.args.n) _ _ _ _ _ _ _ _ _ c.loop-i.invariant c.loop-i-test.true refl
    c.put_row.ensures.long (omega arith) (omega arith) c.put_row.ensures.written

pub returns : goal.returns
returns c =
    let e : c.loop-i.i ≡ length c.args.rows.now = omega arith in
    let t = take_all c.loop-i.i c.args.rows.now c.loop-i-test.false in
    record { written = cc; long = cc }
