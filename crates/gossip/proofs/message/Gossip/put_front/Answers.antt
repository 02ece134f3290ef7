use Rattle.std.proofs.Common.{◌≡◌, ℕ, ◌<◌, [], ◌∷◌, length, ap, sym, ◌∙◌, arith}
use Rattle.gossip.specs.Format.{entries_at, message_length}
use Rattle.gossip.specs.Numbers.{bytes, put_at}
use Rattle.gossip.proofs.LittleEndian.{le_bytes_two, le_bytes_four, le_bytes_eight}
use Rattle.gossip.proofs.Sound.{head_to_parts, parts}
use Rattle.gossip.proofs.Written.{front_written}
use Rattle.gossip.proofs.message.Gossip.put_front.Goals as goal

pub returns : goal.returns
returns g c =
    let h = c.self.inside.head in
    let p = parts record { head = c.self.inside.head; entries = c.self.inside.entries } c.self.invariant in
    let q = head_to_parts h p.head in
    let n : c.self.inside.head.n < 256 = omega (arith, q.most) in
    let member : c.self.inside.head.sender < 256 = omega (arith, q.most, q.member) in
    let kind = g.met.L.Lattice.lawful.byte in
    let count : length c.entries-count.result.now ≡ length c.self.inside.entries = ap length c.entries-count.ensures.answer ∙ sym (ap (λ m. length m.entries) c.self.view_is) in
    rw (← c.self.view_is) (record {
      answer = ap (message_length h.n) count;
      written = front_written g.L.Lattice.kind h (length c.self.inside.entries) c.args.out.now c.put.new.out c.put-2.new.out c.put-3.new.out c.put-4.new.out c.put-5.new.out c.put-6.new.out _
          kind n member c.requires
          (c.put.ensures ∙ ap (λ (x : ℕ). put_at 0 (1 ∷ x ∷ h.n ∷ h.sender ∷ []) c.args.out.now) c.number.ensures.answer)
          (c.put-2.ensures ∙ ap (λ z. put_at 4 z c.put.new.out) (c.to_le_bytes.ensures ∙ le_bytes_four h.group))
          (c.put-3.ensures ∙ ap (λ z. put_at 8 z c.put-2.new.out) (c.to_le_bytes-2.ensures ∙ le_bytes_two _ ∙ ap (bytes 2) count))
          (c.put-4.ensures ∙ ap (λ z. put_at 10 z c.put-3.new.out) (c.to_le_bytes-3.ensures ∙ le_bytes_two 24))
          (c.put-5.ensures ∙ ap (λ z. put_at 12 z c.put-4.new.out) (c.to_le_bytes-4.ensures ∙ le_bytes_two (entries_at h.n)))
          (c.put-6.ensures ∙ ap (λ z. put_at 14 z c.put-5.new.out) (c.to_le_bytes-5.ensures ∙ le_bytes_two _ ∙ ap (λ j. bytes 2 (message_length h.n j)) count))
          (c.put-7.ensures ∙ ap (λ z. put_at 16 z c.put-6.new.out) (c.to_le_bytes-6.ensures ∙ le_bytes_eight h.clock));
    })
