-- Reading and writing undo each other: a sound message is read back from its spelling, and what reads is sound and spelled in one way.
use Rattle.std.proofs.Common.{◌≡◌, ℕ, ◌*◌, true, List, [], map, length, get_or, drop, Some, None, Ok, Option, sym, refl, ap, ◌∙◌, append-nil, arith, length-drop}
use Rattle.std.specs.List.{list_all}
use lib.ListN.{length-map}
use Rattle.std.proofs.lemmas.List.{drop_all}
use Rattle.gossip.specs.Format.{decode, decode_entries, decode_head, encode, encode_entry, entries_at, entries_of, entry_bytes, entry_length, head_at, message_length, seat_at, with_entries}
use Rattle.gossip.specs.FormatLaws.{ReadsBack, SoleSpelling, ReadsSound}
use Rattle.gossip.specs.Lattices.{Kind}
use Rattle.gossip.specs.Messages.{Message, of_kind, rises, sound, sound_head, sound_entry}
use Rattle.gossip.specs.Numbers.{field, joined, pieces, Bytes}
use Rattle.gossip.specs.Refusals.{and_then}
use Rattle.gossip.specs.declared.entry.Entry.{Entry}
use Rattle.gossip.specs.declared.head.Head.{Head}
use Rattle.gossip.specs.declared.refusal.Refusal.TheVariants.{Order}
use Rattle.gossip.proofs.EntryBytes.{EntriesRead, entries_back, entries_long, entries_read}
use Rattle.gossip.proofs.HeadBytes.{HeadPasses, head_read, head_at-sound, head_at-spelled, headed, headed-back}
use Rattle.gossip.proofs.NumberLaws.{bytes_drop, length-pieces}
use Rattle.gossip.proofs.Sound.{Parts, head_to_parts, parts, whole}
use Rattle.gossip.proofs.Spelling.{joined-pieces, length-joined, nothing_behind, pieces-joined, pieces_whole}
use Rattle.gossip.proofs.TimestampBytes.{length-encode_timestamp}
use Rattle.gossip.proofs.Unless.{and_then_ok, passed, unless_ok}
use Rattle.gossip.proofs.Written.{message_long}

-- a head that reads is sound
pub head-sound : (k : Kind) (b : List ℕ) (h : Head) → Bytes b → decode_head k b ≡ Ok h → sound_head h ≡ true
head-sound k b h y e = let r = head_read k b h e in ap sound_head (sym r.1) ∙ head_at-sound k b y r.0

-- entries that read are sound beside the head's timestamp
pub entries_sound : (k : Kind) (h : Head) (count : ℕ) (b : List ℕ) (es : List Entry) → Bytes b → sound_head h ≡ true → length b ≡ count * entry_length h.n
    → entries_of k h.n h.timestamp (pieces (entry_length h.n) count b) ≡ Some es → list_all (sound_entry h.timestamp) es ≡ true
entries_sound k h count b es y s l e =
    let ps = pieces_whole (entry_length h.n) count b y (omega arith) in
    (entries_read k h.n h.timestamp (head_to_parts h s).most _ es ps e).sound

pub reads_back : ReadsBack
unfolding decode decode_entries encode
reads_back k laws m s o =
    let n = m.head.n in
    let es = m.entries in
    let rest = joined (encode_entry n) es in
    let p = parts m s in
    let h = head_to_parts m.head p.head in
    let long = entries_long n m.head.timestamp h.most es p.each in
    let e = entries_back k laws n m.head.timestamp h.most h.zeros es p.each o in
    let b = headed-back k m.head (length es) rest laws.byte h p.few (length-joined (encode_entry n) (entry_length n) es long) in
    let c : entry_bytes n (encode k m) ≡ map (encode_entry n) es
    = b.1 ∙ ap (pieces (entry_length n) (length es)) (sym (append-nil rest)) ∙ pieces-joined (encode_entry n) (entry_length n) es [] long in
    ap (λ r. and_then r (λ h. decode_entries k h (entry_bytes h.n (encode k m)))) b.0
    ∙ ap (decode_entries k m.head) c
    ∙ passed _ Order _ _ (ap rises e.seats ∙ p.rising) (ap (with_entries m.head) e.read)

-- a sound message is as long as the format says
pub sound_long : (k : Kind) (m : Message) → sound m ≡ true → length (encode k m) ≡ message_length m.head.n (length m.entries)
sound_long k m s =
    let n = m.head.n in
    let p = parts m s in
    let h = head_to_parts m.head p.head in
    message_long k m (length-encode_timestamp n m.head.timestamp h.most h.wide)
    (length-joined (encode_entry n) (entry_length n) m.entries (entries_long n m.head.timestamp h.most m.entries p.each))

-- What reads

-- a message that reads is as long as its head says
pub reads_long : (k : Kind) (b : List ℕ) (m : Message) → decode k b ≡ Ok m → length b ≡ message_length (get_or b 2 0) (field 8 2 b)
unfolding decode
reads_long k b m e = let a = and_then_ok (decode_head k b) _ m e in (head_read k b a.0 a.1).0.long

with_entries_ok : (h : Head) (o : Option (List Entry)) (m : Message) → with_entries h o ≡ Ok m → (es : List Entry) × (o ≡ Some es) × (record { head = h; entries = es } ≡ m)
with_entries_ok h (Some es) m e = (es, refl, cc)
with_entries_ok h None m e = absurd (grind arith)

-- a message is the head that the bytes spell, and the entries that its pieces spell
record MessageRead (k : Kind) (b : List ℕ) (m : Message) : Type 0 where
  passes : HeadPasses k b
  rising : rises (map seat_at (entry_bytes (head_at b).n b)) ≡ true
  entries : List Entry
  read : EntriesRead k (head_at b).n (head_at b).timestamp (entry_bytes (head_at b).n b) entries
  same : record { head = head_at b; entries = entries } ≡ m

message_read : (k : Kind) (b : List ℕ) (m : Message) → Bytes b → decode k b ≡ Ok m → MessageRead k b m
unfolding decode decode_entries
message_read k b m y e =
    let n = (head_at b).n in
    let a = and_then_ok (decode_head k b) _ m e in
    let h = head_read k b a.0 a.1 in
    let l = h.0.long in
    let ps = pieces_whole (entry_length n) (field 8 2 b) (drop (entries_at n) b) (bytes_drop (entries_at n) b y) (simp length-drop (omega arith)) in
    let d : decode_entries k (head_at b) (entry_bytes n b) ≡ Ok m = ap (λ x. decode_entries k x (entry_bytes x.n b)) h.1 ∙ a.2 in
    let c = unless_ok (rises (map seat_at (entry_bytes n b))) Order _ m d in
    let w = with_entries_ok (head_at b) _ m c.1 in
    record {
      passes = h.0;
      rising = c.0;
      entries = w.0;
      read = entries_read k n (head_at b).timestamp (head_to_parts (head_at b) (head_at-sound k b y h.0)).most _ w.0 ps w.1;
      same = w.2;
    }

module _ (k : Kind) (b : List ℕ) (m : Message) (r : MessageRead k b m) where
  count_is : length r.entries ≡ field 8 2 b
  count_is = sym (length-map r.entries (encode_entry (head_at b).n)) ∙ ap length r.read.spelled ∙ length-pieces _ (field 8 2 b) _

  entries_spelled : joined (encode_entry (head_at b).n) r.entries ≡ drop (entries_at (head_at b).n) b
  entries_spelled =
      let size = entry_length (head_at b).n in
      let rest = drop (entries_at (head_at b).n) b in
      let l = r.passes.long in
      let d : drop (field 8 2 b * size) rest ≡ [] = drop_all (field 8 2 b * size) rest (simp length-drop (omega arith)) in
      nothing_behind _ _ _ d (joined-pieces (encode_entry (head_at b).n) r.entries size (field 8 2 b) rest r.read.spelled)

pub sole_spelling : SoleSpelling
unfolding encode
sole_spelling k b m y e =
    let r = message_read k b m y e in
    let s : encode k record { head = head_at b; entries = r.entries } ≡ b
    = (λ i. headed k (head_at b) (count_is k b m r i) (entries_spelled k b m r i)) ∙ head_at-spelled k b y r.passes in
    sym s ∙ ap (encode k) r.same

pub reads_sound : ReadsSound
reads_sound k b m y e =
    let r = message_read k b m y e in
    let c = count_is k b m r in
    let f = r.passes.few in
    let p : Parts record { head = head_at b; entries = r.entries }
    = record { head = head_at-sound k b y r.passes; few = omega arith; rising = ap rises r.read.seats ∙ r.rising; each = r.read.sound } in
    (ap sound (sym r.same) ∙ whole _ p, ap (of_kind k) (sym r.same) ∙ r.read.kind)
