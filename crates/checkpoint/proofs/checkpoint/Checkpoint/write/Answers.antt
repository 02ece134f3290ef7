use Rattle.std.proofs.Common.{◌≡◌, ◌+◌, ◌-◌, ◌*◌, length, take, sym, ap, ◌∙◌, arith}
use borrow.Rule.Slice.PartMut.{mid_of}
use Rattle.gossip.specs.Format.{encode_timestamp}
use Rattle.gossip.specs.Numbers.{joined, put_at}
use Rattle.gossip.specs.declared.head.Head.{Head}
use Rattle.gossip.proofs.FormatTheorems.{sound_long}
use Rattle.gossip.proofs.Puts.{take_put}
use Rattle.checkpoint.specs.Checkpoints.{Saved}
use Rattle.checkpoint.specs.Format.{decode_saved, encode_saved, rows_length}
use Rattle.checkpoint.proofs.FormatTheorems.{reads_back, saved_long}
use Rattle.checkpoint.proofs.RowBytes.{length_front, rows_fit}
use Rattle.checkpoint.proofs.Rows.{saved_parts}
use Rattle.checkpoint.proofs.Written.{front_mid, saved_written}
use Rattle.checkpoint.proofs.checkpoint.Checkpoint.write.Goals as goal

pub put_rows-requires : goal.put_rows-requires
put_rows-requires g c =
    let s : Saved = record { message = c.self.inside.message; rows = c.self.inside.rows } in
    let h = c.self.inside.message.head in
    let rows = c.self.inside.rows in
    let p = saved_parts s c.self.invariant in
    let n : c.head-n.result.n ≡ c.self.inside.message.head.n = ap (λ (x : Head). x.n) c.head-n.ensures.answer in
    let l = ap length (front_mid rows _ _ n) ∙ length_front h.n h.timestamp rows p.head.most p.rows in
    let bytes : length (mid_of 0 (c.head-n.result.n - 0) c.self.inside.rows) * (4 * c.head-n.result.n) ≡ rows_length c.self.inside.message.head.n = λ i. l i * (4 * n i) in
    let fits = rows_fit h.n p.head.most in
    record { some = omega (arith, p.head.some); few = omega (arith, p.head.most); within = omega (arith, c.spell-at.ensures.fits, c.spell-at.array_long) }

pub returns : goal.returns
returns g c =
    let k = g.L.Lattice.kind in
    let s : Saved = record { message = c.self.inside.message; rows = c.self.inside.rows } in
    let h = c.self.inside.message.head in
    let sound = c.self.invariant in
    let n : c.head-n.result.n ≡ c.self.inside.message.head.n = ap (λ (x : Head). x.n) c.head-n.ensures.answer in
    let front = front_mid c.self.inside.rows _ _ n in
    let long : c.spell-at.result + rows_length c.head-n.result.n ≡ length (encode_saved k s)
    = (λ i. (c.spell-at.ensures.answer ∙ sound_long k s.message c.head-n.ensures.sound) i + rows_length (n i)) ∙ sym (saved_long k s sound) in
    let rows : c.put_rows.new.out ≡ put_at c.spell-at.result (joined (encode_timestamp h.n) (take h.n c.self.inside.rows)) c.spell-at.new.out
    = c.put_rows.ensures.written ∙ (λ i. put_at c.spell-at.result (joined (encode_timestamp (n i)) (front i)) c.spell-at.new.out) in
    let written : c.put_rows.new.out ≡ put_at 0 (encode_saved k s) c.args.out.now
    = saved_written k s c.spell-at.result _ c.spell-at.new.out _ c.spell-at.ensures.answer (omega (arith, c.spell-at.ensures.fits, c.told-out)) c.spell-at.ensures.buffer rows in
    rw (← c.self.view_is) (record {
      answer = long;
      buffer = written;
      back = λ kind. ap (decode_saved k) (take_put _ (encode_saved k s) _ _ (sym long) written) ∙ reads_back k g.met.L.Lattice.lawful s sound kind;
    })
