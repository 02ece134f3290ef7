use Rattle.std.proofs.Common.{length, refl, ap, ◌∙◌, arith, take_all}
use Rattle.gossip.specs.Format.{encode_entry, entry_length}
use Rattle.gossip.specs.Numbers.{joined, put_at}
use Rattle.gossip.proofs.NumberLaws.{piece_within}
use Rattle.gossip.proofs.Written.{written_start, written_next}
use Rattle.gossip.proofs.writer.put_entries.Goals as goal

pub loop-i-init : goal.loop-i-init
loop-i-init c = written_start (encode_entry c.args.n) (entry_length c.args.n) _ _ _

pub overflow_add-at : goal.overflow_add-at
overflow_add-at c =
    let f = piece_within c.loop-i.i (length c.args.entries.now) (entry_length c.args.n) c.loop-i-test.true in
    omega arith

pub put_entry-requires : goal.put_entry-requires
put_entry-requires c =
    let f = piece_within c.loop-i.i (length c.args.entries.now) (entry_length c.args.n) c.loop-i-test.true in
    record { few = c.requires.few; within = omega arith }

pub loop-i-preserved : goal.loop-i-preserved
loop-i-preserved c =
    let f = piece_within c.loop-i.i (length c.args.entries.now) (entry_length c.args.n) c.loop-i-test.true in
    written_next (encode_entry c.args.n) (entry_length c.args.n) _ _ _ _ _ _ _ _ _ c.loop-i.invariant c.loop-i-test.true refl
    c.put_entry.ensures.long (omega arith) (omega arith) c.put_entry.ensures.written

pub returns : goal.returns
returns c =
    c.loop-i.invariant.written ∙ ap (λ es. put_at c.args.at (joined (encode_entry c.args.n) es) c.args.out.now) (take_all c.loop-i.i c.args.entries.now c.loop-i-test.false)
