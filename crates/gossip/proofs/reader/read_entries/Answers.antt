use Rattle.std.proofs.Common.{◌≡◌, ◌*◌, ◌/◌, ◌<◌, ◌≤◌, true, map, length, Some, None, sym, ap, ◌∙◌, arith}
use Rattle.std.proofs.lemmas.Nat.{div-add-mod'}
use Rattle.std.proofs.lemmas.List.{length_push}
use Rattle.std.specs.Slice.Iter.{chunks_exact_rest}
use Rattle.gossip.specs.Format.{entry_length, seat_at}
use Rattle.gossip.specs.Messages.{rises}
use Rattle.gossip.specs.Numbers.{whole_pieces}
use Rattle.gossip.proofs.FormatTheorems.{entries_sound}
use Rattle.gossip.proofs.Reading.{falling, few_entries, room_more, reading_stops, reading_more, reading_ends, with_entries_lem, seats_read}
use Rattle.gossip.proofs.Sound.{whole}
use Rattle.gossip.proofs.reader.read_entries.Goals as goal

pub returns-then-not-seats_rise : goal.returns-then-not-seats_rise
returns-then-not-seats_rise g c = falling g.L.Lattice.kind c.args.head _ (sym c.if-not-seats_rise.ensures)

pub returns-in_default : goal.returns-in_default
returns-in_default g c =
    let k = g.L.Lattice.kind in
    let h = c.args.head in
    let turn = c.in-Some.ensures.steps.1 in
    with_entries_lem k h _ None (sym c.if-not-seats_rise.ensures)
    (reading_stops k h.n h.timestamp _ c.loop-piece.entries _ c.loop-piece.invariant.read _ _ turn.0 (turn.1 ∙ c.loop-piece.invariant.size)
    (sym c.in_default.is ∙ c.read_state.ensures))

pub loop-piece-preserved : goal.loop-piece-preserved
loop-piece-preserved g c =
    let k = g.L.Lattice.kind in
    let h = c.args.head in
    let turn = c.in-Some.ensures.steps.1 in
    let long = turn.1 ∙ c.loop-piece.invariant.size in
    record {
      size = c.in-Some.ensures.steps.0 ∙ c.loop-piece.invariant.size;
      room = rw (c.push.ensures, length_push) (room_more (length c.loop-piece.entries) (entry_length h.n) _ _ _ _ turn.0 long c.loop-piece.invariant.room);
      read = rw c.push.ensures (reading_more k h.n h.timestamp _ c.loop-piece.entries _ c.loop-piece.invariant.read _ _ turn.0 long c.in-Some-read_state.state c.read_le-seat.result
          (sym c.in-Some-read_state.is ∙ c.read_state.ensures) c.read_le-seat.ensures);
    }

pub invariant_of-result : goal.invariant_of-result
invariant_of-result g c =
    let k = g.L.Lattice.kind in
    let h = c.args.head in
    let size = entry_length h.n in
    let ends : length (chunks_exact_rest c.loop-piece.piece-iterator) < entry_length h.n = omega (arith, c.in-None.ensures.steps.1.0, c.loop-piece.invariant.size) in
    let e = sym (reading_ends k h.n h.timestamp _ c.loop-piece.entries _ c.loop-piece.invariant.read ends) in
    let r : rises (map seat_at (whole_pieces size c.args.bytes.now)) ≡ true = sym c.if-not-seats_rise.ensures in
    let few : length c.loop-piece.entries * entry_length h.n ≤ 64 * entry_length h.n = omega (arith, c.loop-piece.invariant.room) in
    let count : length c.args.bytes.now ≡ length c.args.bytes.now / size * size = omega (arith, div-add-mod' (length c.args.bytes.now) size, c.requires.whole) in
    whole record { head = h; entries = c.loop-piece.entries }
    record {
      head = c.requires.sound;
      few = few_entries h.n _ few;
      rising = ap rises (seats_read k h.n h.timestamp _ _ e) ∙ r;
      each = entries_sound k h _ c.args.bytes.now _ (λ i. (c.type_inv.bytes i).fits) c.requires.sound count e;
    }

pub returns : goal.returns
returns g c =
    let k = g.L.Lattice.kind in
    let h = c.args.head in
    let ends : length (chunks_exact_rest c.loop-piece.piece-iterator) < entry_length h.n = omega (arith, c.in-None.ensures.steps.1.0, c.loop-piece.invariant.size) in
    with_entries_lem k h _ (Some c.loop-piece.entries) (sym c.if-not-seats_rise.ensures) (reading_ends k h.n h.timestamp _ c.loop-piece.entries _ c.loop-piece.invariant.read ends)
