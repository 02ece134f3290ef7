use Rattle.std.proofs.Common.{◌≡◌, ◌+◌, ◌*◌, ◌≤◌, length, get_or, sym, refl, ap, ◌∙◌, arith, length-take, length-take-le, rules, take_all}
use Rattle.gossip.specs.Numbers.{bytes, joined, put_at}
use Rattle.gossip.proofs.LittleEndian.{le_bytes_four}
use Rattle.gossip.proofs.NumberLaws.{length-bytes}
use Rattle.gossip.proofs.Written.{written_start, written_next}
use Rattle.gossip.proofs.timestamp.Timestamp.put_parts.Goals as goal

pub loop-i-init : goal.loop-i-init
loop-i-init c = written_start (bytes 4) 4 _ _ _

pub loop-i-preserved : goal.loop-i-preserved
loop-i-preserved c =
    let i = c.loop-i.i in
    let part = get_or c.prefix-part-items.result.now i 0 in
    let few : length c.prefix-part-items.result.now ≤ c.args.n = omega (arith, ap length c.prefix-part-items.ensures.answer, length-take c.args.n c.args.self.now.parts) in
    written_next (bytes 4) 4 _ _ _ _ _ part 0 _ _ c.loop-i.invariant c.loop-i-test.true refl (length-bytes 4 part) (omega arith) (omega arith)
    (c.put.ensures ∙ ap (λ z. put_at (c.args.at + 4 * i) z c.loop-i.out) (c.to_le_bytes.ensures ∙ le_bytes_four part))

pub returns : goal.returns
returns c =
    let ps = c.prefix-part-items.result.now in
    let seven : length c.args.self.now.parts ≡ 7 = search rules in
    let n : length c.prefix-part-items.result.now ≡ c.args.n = ap length c.prefix-part-items.ensures.answer ∙ length-take-le c.args.n c.args.self.now.parts (omega arith) in
    let all = take_all c.loop-i.i ps c.loop-i-test.false ∙ c.prefix-part-items.ensures.answer in
    record {
      written = c.loop-i.invariant.written ∙ ap (λ xs. put_at c.args.at (joined (bytes 4) xs) c.args.out.now) all;
      long = ap (λ xs. length (joined (bytes 4) xs)) (sym all) ∙ c.loop-i.invariant.long ∙ omega arith;
    }
