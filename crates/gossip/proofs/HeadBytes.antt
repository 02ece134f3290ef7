-- The head of a message in bytes: what is written reads back, and what reads is sound and spelled in one way.
use Rattle.std.proofs.Common.{◌≡◌, ℕ, ◌+◌, ◌*◌, ◌^◌, ◌<◌, ◌≤◌, true, ◌&&◌, eqb, leb, List, ◌++◌, length, get_or, drop, Ok, sym, refl, ap, ◌∙◌, mul_comm, arith, length-append, length-drop, drop-drop, drop_at}
use Rattle.std.proofs.lemmas.Bool.{and_parts, and_from, leb-true, le-leb, eqb-true, eq-eqb}
use Rattle.gossip.specs.Format.{decode_head, encode_timestamp, entries_at, entry_length, entry_bytes, head_at, head_numbers, head_widths, layout, message_length, timestamp_at}
use Rattle.gossip.specs.Lattices.{Kind}
use Rattle.gossip.specs.Messages.{latest, origin, sound_head}
use Rattle.gossip.specs.Numbers.{field, pieces, spell, Bytes}
use Rattle.gossip.specs.declared.head.Head.{Head}
use Rattle.gossip.specs.declared.refusal.Refusal.TheVariants.{Short, Form, Origin, Layout, Clock}
use Rattle.gossip.proofs.NumberLaws.{bytes_drop, field_lt, field_one}
use Rattle.gossip.proofs.Puts.{length-spell}
use Rattle.gossip.proofs.Sound.{HeadParts, origin_parts, origin_whole, head_whole}
use Rattle.gossip.proofs.Spelling.{fields, fields_spell, spell_fields}
use Rattle.gossip.proofs.TimestampBytes.{length-encode_timestamp, timestamp_back, timestamp_at-spelled, timestamp_at_wide, timestamp_at_zeros}
use Rattle.gossip.proofs.Unless.{passed, unless_ok}
use Rattle.gossip.proofs.Written.{message_fits}

-- the bytes pass the tests of a head
pub record HeadPasses (k : Kind) (b : List ℕ) : Type 0 where
  pub form : get_or b 0 0 ≡ 1
  pub kind : get_or b 1 0 ≡ k.number
  pub origin : origin (get_or b 2 0) (get_or b 3 0) ≡ true
  pub few : field 8 2 b ≤ 64
  pub timestamp : field 10 2 b ≡ 24
  pub entries : field 12 2 b ≡ entries_at (get_or b 2 0)
  pub written : field 14 2 b ≡ message_length (get_or b 2 0) (field 8 2 b)
  pub long : length b ≡ message_length (get_or b 2 0) (field 8 2 b)
  pub clock : field 16 8 b ≤ latest

-- there are no other tests
pub head_reads : (k : Kind) (b : List ℕ) → HeadPasses k b → decode_head k b ≡ Ok (head_at b)
unfolding decode_head
head_reads k b p =
    passed _ Short _ _ (le-leb _ _ (let l = p.long in omega arith))
    (passed _ Form _ _ (eq-eqb _ _ p.form)
    (passed _ Origin _ _ (and_from _ _ (eq-eqb _ _ p.kind) p.origin)
    (passed _ Layout _ _ (and_from _ _ (le-leb _ _ p.few) (and_from _ _ (eq-eqb _ _ p.timestamp) (and_from _ _ (eq-eqb _ _ p.entries) (and_from _ _ (eq-eqb _ _ p.written) (eq-eqb _ _ p.long)))))
    (passed _ Clock _ _ (le-leb _ _ p.clock) refl))))

-- a head that reads passed them
pub head_read : (k : Kind) (b : List ℕ) (h : Head) → decode_head k b ≡ Ok h → HeadPasses k b × (head_at b ≡ h)
unfolding decode_head
head_read k b h e =
    let long = unless_ok (leb 24 (length b)) Short _ h e in
    let formed = unless_ok (eqb (get_or b 0 0) 1) Form _ h long.1 in
    let from = unless_ok (eqb (get_or b 1 0) k.number && origin (get_or b 2 0) (get_or b 3 0)) Origin _ h formed.1 in
    let laid = unless_ok (layout (get_or b 2 0) (field 8 2 b) (field 10 2 b) (field 12 2 b) (field 14 2 b) (length b)) Layout _ h from.1 in
    let timely = unless_ok (leb (field 16 8 b) latest) Clock _ h laid.1 in
    let kind = and_parts (eqb (get_or b 1 0) k.number) _ from.0 in
    let few = and_parts (leb (field 8 2 b) 64) _ laid.0 in
    let timestamp = and_parts (eqb (field 10 2 b) 24) _ few.1 in
    let entries = and_parts (eqb (field 12 2 b) (entries_at (get_or b 2 0))) _ timestamp.1 in
    let written = and_parts (eqb (field 14 2 b) (message_length (get_or b 2 0) (field 8 2 b))) _ entries.1 in
    let passes : HeadPasses k b
    = record {
      form = eqb-true _ 1 formed.0;
      kind = eqb-true _ _ kind.0;
      origin = kind.1;
      few = leb-true _ 64 few.0;
      timestamp = eqb-true _ 24 timestamp.0;
      entries = eqb-true _ _ entries.0;
      written = eqb-true _ _ written.0;
      long = eqb-true _ _ written.1;
      clock = leb-true _ _ timely.0;
    } in
    (passes, cc timely.1)

-- What is written
module _ (k : Kind) (h : Head) (count : ℕ) (rest : List ℕ) where
  -- the head of a message of so many entries, with the rest of the message behind it
  abbrev pub headed : List ℕ
  headed = spell head_widths (head_numbers k h count) ++ (encode_timestamp h.n h.timestamp ++ rest)

  length_numbers : length (spell head_widths (head_numbers k h count)) ≡ 24
  length_numbers = length-spell head_widths (head_numbers k h count) refl

  behind_numbers : drop 24 headed ≡ encode_timestamp h.n h.timestamp ++ rest
  behind_numbers = drop_at _ _ 24 length_numbers

  module _ (byte : k.number < 2 ^ 8) (sound : HeadParts h) (few : count ≤ 64) (long : length rest ≡ count * entry_length h.n) where
    numbers_back : fields 0 head_widths headed ≡ head_numbers k h count
    numbers_back =
        let l = message_fits h.n count sound.most few in
        fields_spell 0 head_widths (head_numbers k h count) _ _ (grind arith) refl

    count-back : field 8 2 headed ≡ count
    count-back = cc numbers_back

    length-timestamp : length (encode_timestamp h.n h.timestamp) ≡ 4 * h.n
    length-timestamp = length-encode_timestamp h.n h.timestamp sound.most sound.wide

    rest_back : drop (entries_at h.n) headed ≡ rest
    rest_back = sym (drop-drop (4 * h.n) 24 headed) ∙ ap (drop (4 * h.n)) behind_numbers ∙ drop_at _ rest (4 * h.n) length-timestamp

    length-headed : length headed ≡ message_length h.n count
    length-headed =
        let a = length_numbers in
        let b = length-timestamp in
        simp length-append (omega arith)

    byte_at : (i : ℕ) → i < 24 → get_or headed i 0 ≡ field i 1 headed
    byte_at i l = let a = length-headed in sym (field_one i headed (omega arith))

    n-back : get_or headed 2 0 ≡ h.n
    n-back = cc (numbers_back, byte_at 2 (omega arith))

    sender-back : get_or headed 3 0 ≡ h.sender
    sender-back = cc (numbers_back, byte_at 3 (omega arith))

    clock-back : field 16 8 headed ≡ h.clock
    clock-back = cc numbers_back

    headed-passes : HeadPasses k headed
    headed-passes =
        let numbers = numbers_back in
        let n = n-back in
        let count = count-back in
        let clock = clock-back in
        record {
          form = cc (byte_at 0 (omega arith));
          kind = cc (byte_at 1 (omega arith));
          origin = rw (n, sender-back) (origin_whole _ _ sound.some sound.most sound.member);
          few = omega arith;
          timestamp = cc;
          entries = cc;
          written = cc;
          long = cc length-headed;
          clock = omega arith;
        }

    head_at_back : head_at headed ≡ h
    head_at_back =
        let group : field 4 4 headed ≡ h.group = cc numbers_back in
        let timestamp : timestamp_at (get_or headed 2 0) (drop 24 headed) ≡ h.timestamp
        = rw (n-back, behind_numbers) (timestamp_back h.n h.timestamp sound.most sound.wide rest sound.zeros) in
        λ i. record { n = n-back i; sender = sender-back i; group = group i; clock = clock-back i; timestamp = timestamp i }

    -- the head is read back, and so are the pieces of the rest
    pub headed-back : (decode_head k headed ≡ Ok h) × (entry_bytes h.n headed ≡ pieces (entry_length h.n) count rest)
    headed-back = (head_reads k headed headed-passes ∙ ap Ok head_at_back, λ i. pieces (entry_length h.n) (count-back i) (rest_back i))

-- What reads
module _ (k : Kind) (b : List ℕ) (y : Bytes b) (p : HeadPasses k b) where
  pub head_at-sound : sound_head (head_at b) ≡ true
  head_at-sound =
      let o = origin_parts (get_or b 2 0) (get_or b 3 0) p.origin in
      head_whole (head_at b) record {
        some = o.0;
        most = o.1;
        member = o.2;
        group = field_lt 4 4 b y;
        clock = p.clock;
        wide = timestamp_at_wide (get_or b 2 0) (drop 24 b) o.1 (bytes_drop 24 b y);
        zeros = timestamp_at_zeros (get_or b 2 0) (drop 24 b) o.1;
      }

  -- the head is spelled as it was
  pub head_at-spelled : headed k (head_at b) (field 8 2 b) (drop (entries_at (get_or b 2 0)) b) ≡ b
  head_at-spelled =
      let n = get_or b 2 0 in
      let l = p.long in
      let o = origin_parts n (get_or b 3 0) p.origin in
      let b0 = field_one 0 b (omega arith) in
      let b1 = field_one 1 b (omega arith) in
      let b2 = field_one 2 b (omega arith) in
      let b3 = field_one 3 b (omega arith) in
      let numbers : head_numbers k (head_at b) (field 8 2 b) ≡ fields 0 head_widths b = cc in
      let d : drop (n * 4) (drop 24 b) ≡ drop (entries_at n) b = drop-drop (n * 4) 24 b ∙ ap (λ j. drop (24 + j) b) (mul_comm n 4) in
      let t : encode_timestamp n (head_at b).timestamp ++ drop (entries_at n) b ≡ drop 24 b
      = ap (λ z. encode_timestamp n (head_at b).timestamp ++ z) (sym d) ∙ timestamp_at-spelled n (drop 24 b) o.1 (bytes_drop 24 b y) (simp length-drop (omega arith)) in
      rw (numbers, t) (spell_fields 0 head_widths b y (omega arith))
