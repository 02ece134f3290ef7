use Rattle.std.proofs.Common.{◌≡◌, ◌+◌, ◌-◌, ◌*◌, cond, length, take, drop, is_ok, sym, ap, ◌∙◌, arith, length-drop, length-take}
use Rattle.gossip.specs.Format.{encode_timestamp}
use Rattle.gossip.specs.Numbers.{put_at}
use Rattle.gossip.proofs.Puts.{put_mid-put_at}
use Rattle.checkpoint.proofs.writer.put_row.Goals as goal

pub returns : goal.returns
returns c =
    let o = c.args.out.now in
    let at = c.args.at in
    let n = c.args.n in
    let spelled = encode_timestamp c.args.n c.args.row.now in
    let before = take (c.args.at + 4 * c.args.n - c.args.at) (drop c.args.at c.args.out.now) in
    let y : c.write_bytes.new.out ≡ encode_timestamp c.args.n c.args.row.now = c.write_bytes.ensures.buffer ∙ ap (λ r. cond (is_ok r) spelled before) c.unwrap.ensures in
    let k : length (take (at + 4 * n - at) (drop at o)) ≡ 4 * n = simp (length-take, length-drop) (omega arith) in
    let l : length c.write_bytes.new.out ≡ 4 * n = c.write_bytes.auto.out ∙ k in
    record {
      written = put_mid-put_at at (at + 4 * n - at) o c.write_bytes.new.out (l ∙ (omega arith)) ∙ ap (λ z. put_at at z o) y;
      long = sym (ap length y) ∙ l;
    }
