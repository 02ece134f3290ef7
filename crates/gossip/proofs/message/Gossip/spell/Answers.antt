use Rattle.std.proofs.Common.{◌≡◌, length, ap, sym, ◌∙◌, arith}
use Rattle.gossip.specs.Format.{decode, encode, encode_entry, entries_at}
use Rattle.gossip.specs.Messages.{Message}
use Rattle.gossip.specs.Numbers.{joined, put_at}
use Rattle.gossip.proofs.FormatTheorems.{reads_back, sound_long}
use Rattle.gossip.proofs.Puts.{take_put}
use Rattle.gossip.proofs.Sound.{head_to_parts, parts}
use Rattle.gossip.proofs.Written.{message_fits, message_written}
use Rattle.gossip.proofs.message.Gossip.spell.Goals as goal

pub put_parts-requires : goal.put_parts-requires
put_parts-requires g c =
    let p = parts record { head = c.self.inside.head; entries = c.self.inside.entries } c.self.invariant in
    let few = (head_to_parts c.self.inside.head p.head).most in
    record { few = few; within = omega arith }

pub put_entries-requires : goal.put_entries-requires
put_entries-requires g c =
    let h = c.self.inside.head in
    let es = c.self.inside.entries in
    let p = parts record { head = h; entries = es } c.self.invariant in
    let few = (head_to_parts h p.head).most in
    let count = ap length (rw (← c.self.view_is) at c.entries.ensures.answer) in
    let fits = message_fits h.n (length es) few p.few in
    record { few = few; within = rw count (omega arith) }

pub returns : goal.returns
returns g c =
    let k = g.L.Lattice.kind in
    let h = c.self.inside.head in
    let m : Message = record { head = h; entries = c.self.inside.entries } in
    let o = c.args.out.now in
    let p = parts m c.self.invariant in
    let few = (head_to_parts h p.head).most in
    let front = rw (← c.self.view_is) at c.put_front-len.ensures in
    let entries = rw (← c.self.view_is) at c.entries.ensures.answer in
    let long : c.put_front-len.result ≡ length (encode k m) = front.answer ∙ sym (sound_long k m c.self.invariant) in
    let written : c.put_entries.new.out ≡ put_at 0 (encode k m) o
    = message_written k m o c.put_front-len.new.out c.put_parts.new.out _ c.put_parts.ensures.long (omega arith) front.written c.put_parts.ensures.written
    (c.put_entries.ensures ∙ ap (λ es. put_at (entries_at h.n) (joined (encode_entry h.n) es) c.put_parts.new.out) entries) in
    let fits = message_fits h.n (length m.entries) few p.few in
    rw (← c.self.view_is) (record {
      answer = long;
      buffer = written;
      back = λ kind. ap (decode k) (take_put _ (encode k m) _ _ (sym long) written) ∙ reads_back k g.met.L.Lattice.lawful m c.self.invariant kind;
      fits = omega arith;
    })
