-- Reading and writing undo each other: a sound checkpoint is read back from its spelling, and what reads is sound and spelled in one way.
use Rattle.std.proofs.Common.{◌≡◌, ℕ, ◌+◌, true, ◌&&◌, eqb, List, ◌++◌, length, get_or, take, drop, Ok, Err, Result, sym, ap, ◌∙◌, arith, length-append, length-drop, take-append-drop, take_at, drop_at}
use lib.ListN.{get_or-append}
use lib.Seq.{take-append-le, drop-append-le}
use Rattle.std.proofs.lemmas.Bool.{and_parts, and_from, eq-eqb, eqb-true}
use Rattle.gossip.specs.Format.{decode, encode, encode_timestamp, message_length}
use Rattle.gossip.specs.Lattices.{Kind}
use Rattle.gossip.specs.Messages.{Message, of_kind}
use Rattle.gossip.specs.Numbers.{number, joined}
use Rattle.gossip.specs.Refusals.{and_then}
use Rattle.gossip.specs.declared.refusal.Refusal.{Refusal}
use Rattle.gossip.proofs.FormatTheorems as gossip
use Rattle.gossip.proofs.NumberLaws.{bytes_take, bytes_drop}
use Rattle.gossip.proofs.Sound.{parts, head_to_parts}
use Rattle.gossip.proofs.Unless.{and_then_ok, passed, unless_ok}
use Rattle.gossip.proofs.Written.{message_fits}
use Rattle.checkpoint.specs.Checkpoints.{Saved, sound_saved, rows_all_hold}
use Rattle.checkpoint.specs.Format.{decode_saved, encode_saved, front_length, rows_at, rows_length, with_rows_of}
use Rattle.checkpoint.specs.FormatLaws.{ReadsBack, SoleSpelling, ReadsSound, Lengths}
use Rattle.checkpoint.specs.Refusals.{refused}
use Rattle.checkpoint.specs.declared.unreadable.Unreadable.TheVariants.{Rows}
use Rattle.checkpoint.proofs.RowBytes.{rows_back, rows_fit, rows_long, rows_at-sound, rows_at-spelled}
use Rattle.checkpoint.proofs.Rows.{saved_parts}

-- What is written

-- a message that reads says how long it is, whatever stands behind it
front_is : (k : Kind) (b r : List ℕ) (m : Message) → decode k b ≡ Ok m → front_length (b ++ r) ≡ length b
front_is k b r m e =
    let l = gossip.reads_long k b m e in
    let n : get_or (b ++ r) 2 0 ≡ get_or b 2 0 = get_or-append b r 0 2 (omega arith) in
    let c : take 2 (drop 8 (b ++ r)) ≡ take 2 (drop 8 b) = ap (take 2) (drop-append-le 8 b r (omega arith)) ∙ take-append-le 2 (drop 8 b) r (simp length-drop (omega arith)) in
    (λ i. message_length (n i) (number (c i))) ∙ sym l

pub reads_back : ReadsBack
unfolding decode_saved encode_saved
reads_back k laws c s o =
    let m = c.message in
    let h = c.message.head in
    let p = saved_parts c s in
    let r = joined (encode_timestamp h.n) (take h.n c.rows) in
    let d = gossip.reads_back k laws m p.message o in
    let f = front_is k (encode k m) r m d in
    let front = take_at (encode k m) r _ (sym f) in
    let rest = drop_at (encode k m) r _ (sym f) in
    let long = rows_long h.n h.timestamp c.rows p.head.most p.rows in
    let back = rows_back h.n h.timestamp c.rows p.head.most p.rows p.head.zeros in
    let hold = and_from _ _ p.rows.beneath p.above in
    (λ i. and_then (refused (decode k (front i))) (λ x. with_rows_of x (rest i))) ∙ ap (λ z. and_then (refused z) (λ x. with_rows_of x r)) d
    ∙ passed _ Rows _ _ (and_from _ _ (eq-eqb _ _ long) (ap (rows_all_hold h.sender h.timestamp) back ∙ hold)) (ap (λ rows. Ok record { message = m; rows = rows }) back)

-- a checkpoint is as long as the format says
pub saved_long : (k : Kind) (c : Saved) → sound_saved c ≡ true → length (encode_saved k c) ≡ message_length c.message.head.n (length c.message.entries) + rows_length c.message.head.n
unfolding encode_saved
saved_long k c s =
    let h = c.message.head in
    let p = saved_parts c s in
    length-append (encode k c.message) (joined (encode_timestamp h.n) (take h.n c.rows))
    ∙ (λ i. gossip.sound_long k c.message p.message i + rows_long h.n h.timestamp c.rows p.head.most p.rows i)

pub lengths : Lengths
lengths = record {
  length_of = saved_long;
  at_most = λ k c s.
      let p = saved_parts c s in
      let few = (parts c.message p.message).few in
      omega (arith, saved_long k c s, message_fits c.message.head.n (length c.message.entries) p.head.most few, rows_fit c.message.head.n p.head.most);
}

-- What reads

refused_ok : {X : Type 0} (r : Result X Refusal) (x : X) → refused r ≡ Ok x → r ≡ Ok x
refused_ok (Ok y) x e = cc
refused_ok (Err e) x f = cc

-- a checkpoint is the message that the front spells, and the rows that the rest spells
record SavedRead (k : Kind) (b : List ℕ) (c : Saved) : Type 0 where
  message : Message
  front : decode k (take (front_length b) b) ≡ Ok message
  square : length (drop (front_length b) b) ≡ rows_length message.head.n
  hold : rows_all_hold message.head.sender message.head.timestamp (rows_at message.head.n (drop (front_length b) b)) ≡ true
  same : record { message = message; rows = rows_at message.head.n (drop (front_length b) b) } ≡ c

saved_read : (k : Kind) (b : List ℕ) (c : Saved) → decode_saved k b ≡ Ok c → SavedRead k b c
unfolding decode_saved
saved_read k b c e =
    let r = drop (front_length b) b in
    let a = and_then_ok (refused (decode k (take (front_length b) b))) (λ m. with_rows_of m r) c e in
    let h = a.0.head in
    let u = unless_ok (eqb (length r) (rows_length h.n) && rows_all_hold h.sender h.timestamp (rows_at h.n r)) Rows _ c a.2 in
    let t = and_parts (eqb (length r) (rows_length h.n)) _ u.0 in
    record { message = a.0; front = refused_ok _ _ a.1; square = eqb-true _ _ t.0; hold = t.1; same = cc u.1 }

pub sole_spelling : SoleSpelling
unfolding encode_saved
sole_spelling k b c y e =
    let f = front_length b in
    let r = saved_read k b c e in
    let m = r.message in
    let front = bytes_take f b y in
    let sound = (gossip.reads_sound k (take f b) m front r.front).0 in
    let most = (head_to_parts m.head (parts m sound).head).most in
    let spelled = sym (gossip.sole_spelling k (take f b) m front r.front) in
    let rows = rows_at-spelled m.head.n most (drop f b) (bytes_drop f b y) r.square in
    let s : encode_saved k record { message = m; rows = rows_at m.head.n (drop f b) } ≡ b = (λ i. spelled i ++ rows i) ∙ take-append-drop f b in
    sym s ∙ ap (encode_saved k) r.same

pub reads_sound : ReadsSound
reads_sound k b c y e =
    let f = front_length b in
    let r = saved_read k b c e in
    let h = r.message.head in
    let m = gossip.reads_sound k (take f b) r.message (bytes_take f b y) r.front in
    let most = (head_to_parts h (parts r.message m.0).head).most in
    let rows = rows_at-sound h.n most (drop f b) (bytes_drop f b y) r.square h.sender h.timestamp ∙ r.hold in
    (ap sound_saved (sym r.same) ∙ and_from _ _ m.0 rows, ap (λ (x : Saved). of_kind k x.message) (sym r.same) ∙ m.1)
