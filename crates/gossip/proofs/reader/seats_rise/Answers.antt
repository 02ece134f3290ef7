use Rattle.std.proofs.Common.{Some, map, sym, ap, ◌∙◌, arith}
use Rattle.std.specs.Slice.Iter.{chunks_exact_rest}
use Rattle.gossip.specs.Format.{seat_at}
use Rattle.gossip.specs.Numbers.{whole_pieces}
use Rattle.gossip.proofs.Loops.{rises_behind, rises_behind_stop, rises_behind_more, rises_behind_none}
use Rattle.gossip.proofs.NumberLaws.{whole_pieces-next, whole_pieces_none}
use Rattle.gossip.proofs.reader.seats_rise.Goals as goal

pub returns-in-Some-before : goal.returns-in-Some-before
returns-in-Some-before c =
    let turn = c.in-Some.ensures.steps.1 in
    let pieces = whole_pieces-next c.args.size _ _ _ (omega arith) turn.0 (turn.1 ∙ c.loop-piece.invariant.size) in
    let rest = rw (c.in-Some-before.is, pieces) at c.loop-piece.invariant.rest in
    rises_behind_stop c.in-Some-before.last _ _ _ (omega (arith, c.read_le-seat.ensures)) rest

pub loop-piece-preserved-in_default : goal.loop-piece-preserved-in_default
loop-piece-preserved-in_default c =
    let turn = c.in-Some.ensures.steps.1 in
    let pieces = whole_pieces-next c.args.size _ _ _ (omega arith) turn.0 (turn.1 ∙ c.loop-piece.invariant.size) in
    let rest = rw (c.in-Some-before.is, pieces) at c.loop-piece.invariant.rest in
    record {
      size = c.in-Some.ensures.steps.0 ∙ c.loop-piece.invariant.size;
      rest = ap (λ seat. rises_behind (Some seat) (map seat_at (whole_pieces c.args.size (chunks_exact_rest c.next.new.self)))) c.read_le-seat.ensures ∙ rises_behind_more c.in-Some-before.last _ _ _ (omega (arith, c.read_le-seat.ensures)) rest;
    }

pub loop-piece-preserved : goal.loop-piece-preserved
loop-piece-preserved c =
    let turn = c.in-Some.ensures.steps.1 in
    let pieces = whole_pieces-next c.args.size _ _ _ (omega arith) turn.0 (turn.1 ∙ c.loop-piece.invariant.size) in
    let rest = rw (c.in_default.is, pieces) at c.loop-piece.invariant.rest in
    record {
      size = c.in-Some.ensures.steps.0 ∙ c.loop-piece.invariant.size;
      rest = ap (λ seat. rises_behind (Some seat) (map seat_at (whole_pieces c.args.size (chunks_exact_rest c.next.new.self)))) c.read_le-seat.ensures ∙ rest;
    }

pub returns : goal.returns
returns c =
    let none = whole_pieces_none c.args.size (chunks_exact_rest c.loop-piece.piece-iterator) (omega (arith, c.in-None.ensures.steps.1.0, c.loop-piece.invariant.size)) in
    sym (rises_behind_none c.loop-piece.before) ∙ rw none at c.loop-piece.invariant.rest
