-- What is written in steps, and how long it is.
use Rattle.std.proofs.Common.{◌≡◌, ℕ, ◌+◌, ◌*◌, ◌<◌, ◌≤◌, List, [], ◌∷◌, ◌++◌, length, get_or, take, w32, w64, sym, refl, ap, ◌∙◌, append_assoc, suc-mul, mul-le-mul, zero-mul, add-one, lit<, arith, length-append}
use Rattle.std.specs.Int.{to_le_bytes}
use Rattle.gossip.specs.Format.{encode, encode_entry, encode_timestamp, entries_at, entry_length, entry_widths, head_numbers, head_widths, mark_of, message_length, timestamp_of, word_of}
use Rattle.gossip.specs.Lattices.{Kind}
use Rattle.gossip.specs.Messages.{Message}
use Rattle.gossip.specs.Numbers.{bytes, joined, put_at, spell, total}
use Rattle.gossip.specs.declared.entry.Entry.{Entry}
use Rattle.gossip.specs.declared.head.Head.{Head}
use Rattle.gossip.proofs.LittleEndian.{le_bytes_four, le_bytes_eight}
use Rattle.gossip.proofs.Puts.{put_none, put_then, joined_push, length-spell, spell_push}

-- a message of at most 64 entries has at most 3,124 bytes
pub message_fits : (n count : ℕ) → n ≤ 7 → count ≤ 64 → message_length n count ≤ 3124
message_fits n count h k =
    let e : entry_length n ≤ 48 = omega arith in
    let m : count * entry_length n ≤ 64 * 48 = mul-le-mul k e in
    omega arith

module _ {X : Type 0} (f : X → List ℕ) (s at : ℕ) (xs : List X) (o : List ℕ) where
  -- the first i of xs are written over o, one behind another, at s bytes each
  pub record Written (i : ℕ) (out : List ℕ) : Type 0 where
    pub written : out ≡ put_at at (joined f (take i xs)) o
    pub long : length (joined f (take i xs)) ≡ i * s

  -- before the first, nothing is written
  pub written_start : Written 0 o
  unfolding joined
  written_start = record { written = sym (put_none at o); long = sym (zero-mul s) }

  -- one more is written where those before it end
  pub written_next : (i k : ℕ) (x d : X) (out out' : List ℕ) → Written i out → i < length xs → x ≡ get_or xs i d → length (f x) ≡ s → k ≡ at + i * s → k ≤ length o
      → out' ≡ put_at k (f x) out → Written (i + 1) out'
  written_next i k x d out out' w h e l p b q =
      let j : joined f (take (i + 1) xs) ≡ joined f (take i xs) ++ f x = joined_push f xs i d h ∙ ap (λ z. joined f (take i xs) ++ f z) (sym e) in
      let n : (i + 1) * s ≡ i * s + s = ap (λ z. z * s) (add-one i) ∙ suc-mul i s in
      let a = length-append (joined f (take i xs)) (f x) in
      record {
        written = put_then at k (joined f (take i xs)) (f x) o out out' (omega arith) b w.written q ∙ ap (λ z. put_at at z o) (sym j);
        long = ap length j ∙ (omega arith);
      }

-- Numbers of several widths, written one behind another.
module _ (at : ℕ) (o : List ℕ) where
  -- the numbers vs of the widths ws are written over o
  pub record Spelled (ws vs out : List ℕ) : Type 0 where
    pub written : out ≡ put_at at (spell ws vs) o
    pub as_many : length ws ≡ length vs

  -- before the first, nothing is written
  pub spelled_start : Spelled [] [] o
  unfolding spell
  spelled_start = record { written = sym (put_none at o); as_many = refl }

  -- one more is written where those before it end
  pub spelled_next : {ws vs out : List ℕ} (k w v : ℕ) (out' : List ℕ) → Spelled ws vs out → at + total ws ≡ k → k ≤ length o → out' ≡ put_at k (bytes w v) out
      → Spelled (ws ++ w ∷ []) (vs ++ v ∷ []) out'
  spelled_next {ws} {vs} {out} k w v out' s e b p =
      let l = length-spell ws vs s.as_many in
      record {
        written = put_then at k (spell ws vs) (bytes w v) o out out' (omega arith) b s.written p ∙ ap (λ z. put_at at z o) (sym (spell_push ws vs w v s.as_many));
        as_many = simp length-append (omega arith);
      }

-- a small number in one byte
byte_one : (n : ℕ) → n < 256 → bytes 1 n ≡ n ∷ []
unfolding bytes
byte_one n h = ap (λ (b : ℕ). b ∷ []) (omega arith)

-- the front of a message, written field by field, of which the first four are written at once
pub front_written : (k : Kind) (h : Head) (count : ℕ) (o a b c d e f g : List ℕ) → k.number < 256 → h.n < 256 → h.sender < 256 → 24 ≤ length o
    → a ≡ put_at 0 (1 ∷ k.number ∷ h.n ∷ h.sender ∷ []) o → b ≡ put_at 4 (bytes 4 h.group) a → c ≡ put_at 8 (bytes 2 count) b → d ≡ put_at 10 (bytes 2 24) c
    → e ≡ put_at 12 (bytes 2 (entries_at h.n)) d → f ≡ put_at 14 (bytes 2 (message_length h.n count)) e → g ≡ put_at 16 (bytes 8 h.clock) f
    → g ≡ put_at 0 (spell head_widths (head_numbers k h count)) o
unfolding spell
front_written k h count o a b c d e f g number few member room p q r s t u v =
    let four : spell (1 ∷ 1 ∷ 1 ∷ 1 ∷ []) (1 ∷ k.number ∷ h.n ∷ h.sender ∷ []) ≡ 1 ∷ k.number ∷ h.n ∷ h.sender ∷ []
    = rw (byte_one 1 (lit< tt), byte_one k.number number, byte_one h.n few, byte_one h.sender member) refl in
    let origin : Spelled 0 o (1 ∷ 1 ∷ 1 ∷ 1 ∷ []) (1 ∷ k.number ∷ h.n ∷ h.sender ∷ []) a = record { written = p ∙ ap (λ z. put_at 0 z o) (sym four); as_many = refl } in
    let group = spelled_next 0 o 4 4 h.group b origin refl (omega arith) q in
    let entries = spelled_next 0 o 8 2 count c group refl (omega arith) r in
    let timestamp_offset = spelled_next 0 o 10 2 24 d entries refl (omega arith) s in
    let entries_offset = spelled_next 0 o 12 2 (entries_at h.n) e timestamp_offset refl (omega arith) t in
    let long = spelled_next 0 o 14 2 (message_length h.n count) f entries_offset refl (omega arith) u in
    (spelled_next 0 o 16 8 h.clock g long refl (omega arith) v).written

-- an entry has 20 bytes, and its timestamp
pub length_entry : (n : ℕ) (e : Entry) → length (encode_entry n e) ≡ 20 + length (encode_timestamp n (timestamp_of e.state))
length_entry n e =
    let front = e.seat ∷ word_of e.state ∷ mark_of e.state ∷ [] in
    length-append (spell entry_widths front) _ ∙ ap (λ k. k + length (encode_timestamp n (timestamp_of e.state))) (length-spell entry_widths front refl)

-- an entry, written field by field
pub entry_written : (n at : ℕ) (e : Entry) (o o₁ o₂ o₃ o₄ : List ℕ) → at + 20 ≤ length o → o₁ ≡ put_at at (to_le_bytes w64 e.seat) o → o₂ ≡ put_at (at + 8) (to_le_bytes w64 (word_of e.state)) o₁
    → o₃ ≡ put_at (at + 16) (to_le_bytes w32 (mark_of e.state)) o₂ → o₄ ≡ put_at (at + 20) (encode_timestamp n (timestamp_of e.state)) o₃ → o₄ ≡ put_at at (encode_entry n e) o
entry_written n at e o o₁ o₂ o₃ o₄ b p q r s =
    let front = e.seat ∷ word_of e.state ∷ mark_of e.state ∷ [] in
    let seat = spelled_next at o at 8 e.seat o₁ (spelled_start at o) (omega arith) (omega arith) (p ∙ ap (λ z. put_at at z o) (le_bytes_eight e.seat)) in
    let word = spelled_next at o (at + 8) 8 (word_of e.state) o₂ seat (omega arith) (omega arith) (q ∙ ap (λ z. put_at (at + 8) z o₁) (le_bytes_eight _)) in
    let mark = spelled_next at o (at + 16) 4 (mark_of e.state) o₃ word (omega arith) (omega arith) (r ∙ ap (λ z. put_at (at + 16) z o₂) (le_bytes_four _)) in
    let l = length-spell entry_widths front refl in
    put_then at (at + 20) (spell entry_widths front) _ o o₃ o₄ (omega arith) b mark.written s

-- A message in its three parts: the head's numbers, the timestamp and the entries.
module _ (k : Kind) (m : Message) where
  abbrev front : List ℕ
  front = spell head_widths (head_numbers k m.head (length m.entries))

  abbrev timestamp : List ℕ
  timestamp = encode_timestamp m.head.n m.head.timestamp

  abbrev entries : List ℕ
  entries = joined (encode_entry m.head.n) m.entries

  -- the head's numbers have 24 bytes
  length_front : length front ≡ 24
  length_front = length-spell head_widths (head_numbers k m.head (length m.entries)) refl

  -- its parts, written one behind another, are the message
  pub message_written : (o o₁ o₂ o₃ : List ℕ) → length timestamp ≡ 4 * m.head.n → entries_at m.head.n ≤ length o
      → o₁ ≡ put_at 0 front o → o₂ ≡ put_at 24 timestamp o₁ → o₃ ≡ put_at (entries_at m.head.n) entries o₂ → o₃ ≡ put_at 0 (encode k m) o
  unfolding encode
  message_written o o₁ o₂ o₃ l b p q r =
      let h = length_front in
      let a = length-append front timestamp in
      let t = put_then 0 24 front timestamp o o₁ o₂ (omega arith) (omega arith) p q in
      put_then 0 (entries_at m.head.n) (front ++ timestamp) entries o o₂ o₃ (omega arith) b t r ∙ ap (λ z. put_at 0 z o) (append_assoc front timestamp entries)

  -- a message is as long as the format says, if its timestamp and its entries are
  pub message_long : length timestamp ≡ 4 * m.head.n → length entries ≡ length m.entries * entry_length m.head.n → length (encode k m) ≡ message_length m.head.n (length m.entries)
  unfolding encode
  message_long l r =
      let h = length_front in
      simp length-append (omega arith)
