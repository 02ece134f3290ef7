use Rattle.std.proofs.Common.{ap, ◌∙◌, ◌++◌, arith, length, length-append}
use Rattle.std.specs.Slice.Iter.{chunks_exact_rest}
use Rattle.inspect.specs.Hex.{pairs}
use Rattle.inspect.proofs.Spelled.{spelled_more, digits_behind}
use Rattle.inspect.proofs.line.put_bytes.Goals as goal

pub loop-pair-preserved : goal.loop-pair-preserved
loop-pair-preserved c =
    let rest = chunks_exact_rest c.loop-pair.pair-iterator in
    let pair = c.in-Some.pair.now in
    let behind = chunks_exact_rest c.next.new.self in
    let turn = c.in-Some.ensures.steps.1 in
    let two = turn.1 ∙ c.loop-pair.invariant.size in
    let long = ap length turn.0 ∙ length-append pair behind in
    record {
      size = c.in-Some.ensures.steps.0 ∙ c.loop-pair.invariant.size;
      digits = digits_behind rest pair behind c.loop-pair.invariant.digits turn.0;
      room = omega (arith, long, two, c.push.ensures.len, c.loop-pair.invariant.room);
      spelled =
          ap (λ bytes. bytes ++ pairs behind) c.push.ensures.items
          ∙ spelled_more c.loop-pair.bytes.items rest pair behind _ _ _ c.loop-pair.invariant.spelled turn.0 two c.value.ensures.value c.value-in-loop-pair.ensures.value;
    }
