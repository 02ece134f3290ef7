-- The entries of a message in bytes: what reads is sound and spelled in one way, and what is written reads back.
use Rattle.std.proofs.Common.{◌≡◌, ℕ, ◌*◌, ◌^◌, ◌<◌, ◌≤◌, Bool, true, false, cond, ◌&&◌, eqb, leb, List, [], ◌∷◌, ◌++◌, map, length, drop, Some, None, Option, sym, refl, ap, ◌∙◌, subst, append-nil, arith, length-append, length-drop, drop_at}
use Rattle.std.specs.List.{list_all, AllByRecursion as All}
use Rattle.std.proofs.lemmas.List.{drop_all}
use Rattle.std.proofs.lemmas.Bool.{and_parts, and_from, leb-true, eqb-true, lt-ltb}
use Rattle.gossip.specs.Format.{alongside, encode_entry, encode_timestamp, entries_of, entry_length, entry_widths, mark_of, marked, seat_at, state_at, timestamp_at, timestamp_of, tombstone_at, value_at, word_of}
use Rattle.gossip.specs.Lattices.{Kind, Laws}
use Rattle.gossip.specs.Messages.{allowed, latest, of_kind_state, seats, sound_entry, wide_state, wide_timestamp}
use Rattle.gossip.specs.Numbers.{field, Bytes}
use Rattle.gossip.specs.Timestamps.{under, zero_from}
use Rattle.gossip.specs.declared.timestamp.Timestamp.{Timestamp}
use Rattle.gossip.specs.declared.entry.Entry.{Entry}
use Rattle.gossip.specs.declared.entry.State.{State}
use Rattle.gossip.specs.declared.entry.State.TheVariants.{Value, Tombstone}
use Rattle.gossip.proofs.NumberLaws.{bytes_drop, field_lt}
use Rattle.gossip.proofs.Puts.{length-spell}
use Rattle.gossip.proofs.Sound.{entry_to_parts}
use Rattle.gossip.proofs.Spelling.{fields, fields_spell, nothing_behind, spell_fields}
use Rattle.gossip.proofs.TimestampBytes.{length-encode_timestamp, padded-take, timestamp_back, timestamp_at-spelled, timestamp_at_wide, zero_from-under, zero_from_zeros}

-- What reads

cond_some : {X : Type 0} (t : Bool) (y x : X) → cond t (Some y) None ≡ Some x → (t ≡ true) × (y ≡ x)
cond_some true y x e = (refl, cc)
cond_some false y x e = absurd (grind arith)

module _ (k : Kind) (top : Timestamp) (m w : ℕ) (s : Timestamp) where
  -- a state has the mark m, the word w and the timestamp s, and keeps its mark's rule
  record StateRead (state : State) : Type 0 where
    mark : mark_of state ≡ m
    word : word_of state ≡ w
    timestamp : timestamp_of state ≡ s
    wide : wide_state state ≡ true
    allowed : allowed top state ≡ true
    kind : of_kind_state k state ≡ true

  module _ (wide : wide_timestamp s ≡ true) (state : State) where
    value_read : m ≡ 1 → value_at k w s ≡ Some state → StateRead state
    value_read e r =
        let a = cond_some (k.valid w && zero_from 0 s.parts) (Value w) state r in
        let v = and_parts (k.valid w) _ a.0 in
        let l = eqb-true _ 7 (and_parts (eqb (length s.parts) 7) _ wide).0 in
        let z = padded-take 0 s.parts (omega arith) l v.1 in
        subst StateRead a.1 record { mark = sym e; word = refl; timestamp = ap (λ x. record { parts = x }) z; wide = refl; allowed = refl; kind = v.0 }

    tombstone-read : m ≡ 2 → tombstone_at top w s ≡ Some state → StateRead state
    tombstone-read e r =
        let a = cond_some (leb w latest && under s.parts top.parts) (Tombstone w s) state r in
        subst StateRead a.1 record { mark = sym e; word = refl; timestamp = refl; wide = wide; allowed = a.0; kind = refl }

    marked-read : marked k top m w s ≡ Some state → StateRead state
    marked-read = by_mark (eqb m 1) (eqb m 2) refl refl
      where
        by_mark : (one two : Bool) → eqb m 1 ≡ one → eqb m 2 ≡ two → cond one (value_at k w s) (cond two (tombstone_at top w s) None) ≡ Some state → StateRead state
        by_mark true two p q r = value_read (eqb-true m 1 p) r
        by_mark false true p q r = tombstone-read (eqb-true m 2 q) r
        by_mark false false p q r = absurd (grind arith)

-- entries are what the pieces spell, and keep the rules
pub record EntriesRead (k : Kind) (n : ℕ) (top : Timestamp) (ps : List (List ℕ)) (es : List Entry) : Type 0 where
  pub spelled : map (encode_entry n) es ≡ ps
  pub seats : seats es ≡ map seat_at ps
  pub sound : list_all (sound_entry top) es ≡ true
  pub kind : list_all (λ e. of_kind_state k e.state) es ≡ true

module _ (k : Kind) (n : ℕ) (top : Timestamp) (most : n ≤ 7) where
  state_read : (p : List ℕ) (state : State) → Bytes p → state_at k n top p ≡ Some state → StateRead k top (field 16 4 p) (field 8 8 p) (timestamp_at n (drop 20 p)) state
  unfolding state_at
  state_read p state y r = marked-read k top _ _ _ (timestamp_at_wide n (drop 20 p) most (bytes_drop 20 p y)) state r

  -- an entry that reads is spelled as it was
  entry-spelled : (p : List ℕ) (state : State) → length p ≡ entry_length n → Bytes p → state_at k n top p ≡ Some state → encode_entry n record { seat = seat_at p; state = state } ≡ p
  entry-spelled p state l y r =
      let a = state_read p state y r in
      let t : length (drop 20 p) ≡ n * 4 = simp length-drop (omega arith) in
      let d : drop (n * 4) (drop 20 p) ≡ [] = drop_all (n * 4) (drop 20 p) (omega arith) in
      let e : encode_timestamp n (timestamp_at n (drop 20 p)) ≡ drop 20 p
      = nothing_behind _ _ _ d (timestamp_at-spelled n (drop 20 p) most (bytes_drop 20 p y) (omega arith)) in
      rw (a.mark, a.word, a.timestamp, e) (spell_fields 0 entry_widths p y (omega arith))

  -- one entry more, at the front
  entries_read_more : (p : List ℕ) (ps : List (List ℕ)) (o : Option State) (os : Option (List Entry)) (es : List Entry) → length p ≡ entry_length n → Bytes p → state_at k n top p ≡ o
      → ((rest : List Entry) → os ≡ Some rest → EntriesRead k n top ps rest) → alongside o (seat_at p) os ≡ Some es → EntriesRead k n top (p ∷ ps) es
  entries_read_more p ps (Some state) (Some rest) es l y r f e =
      let a = state_read p state y r in
      let c = f rest refl in
      let same : record { seat = seat_at p; state = state } ∷ rest ≡ es = cc in
      subst (EntriesRead k n top (p ∷ ps)) same record {
        spelled = let s = entry-spelled p state l y r in cc c.spelled;
        seats = ap (λ z. seat_at p ∷ z) c.seats;
        sound = and_from _ _ (and_from _ _ (lt-ltb _ (2 ^ 64) (field_lt 0 8 p y)) (and_from _ _ a.wide a.allowed)) c.sound;
        kind = and_from _ _ a.kind c.kind;
      }
  entries_read_more p ps (Some state) None es l y r f e = absurd (grind arith)
  entries_read_more p ps None os es l y r f e = absurd (grind arith)

  pub entries_read : (ps : List (List ℕ)) (es : List Entry) → All (λ p. (length p ≡ entry_length n) × Bytes p) ps → entries_of k n top ps ≡ Some es → EntriesRead k n top ps es
  entries_read [] es h e = let same : [] ≡ es = cc in subst (EntriesRead k n top []) same record { spelled = refl; seats = refl; sound = refl; kind = refl }
  entries_read (p ∷ ps) es h e = entries_read_more p ps _ _ es h.0.0 h.0.1 refl (λ rest. entries_read ps rest h.1) e

-- What is written

-- entries are read back from their spellings
pub record EntriesBack (k : Kind) (n : ℕ) (top : Timestamp) (es : List Entry) : Type 0 where
  pub seats : map seat_at (map (encode_entry n) es) ≡ seats es
  pub read : entries_of k n top (map (encode_entry n) es) ≡ Some es

abbrev entry_numbers : Entry → List ℕ
entry_numbers e = e.seat ∷ word_of e.state ∷ mark_of e.state ∷ []

mark_fits : (state : State) → mark_of state < 2 ^ 32
mark_fits (Value v) = omega arith
mark_fits (Tombstone t s) = omega arith

timestamp_of_wide : (state : State) → wide_state state ≡ true → wide_timestamp (timestamp_of state) ≡ true
timestamp_of_wide (Value v) w = refl
timestamp_of_wide (Tombstone t s) w = w

timestamp_of_zeros : (n : ℕ) (top : Timestamp) (state : State) → zero_from n top.parts ≡ true → allowed top state ≡ true → zero_from n (timestamp_of state).parts ≡ true
timestamp_of_zeros n top (Value v) z a = zero_from_zeros n 7
timestamp_of_zeros n top (Tombstone t s) z a = zero_from-under n s.parts top.parts (and_parts (leb t latest) _ a).1 z

-- entries are all of one length
module _ (n : ℕ) (top : Timestamp) (most : n ≤ 7) where
  length-encode_entry : (e : Entry) → sound_entry top e ≡ true → length (encode_entry n e) ≡ entry_length n
  length-encode_entry e sound =
      let a = length-spell entry_widths (entry_numbers e) refl in
      let b = length-encode_timestamp n (timestamp_of e.state) most (timestamp_of_wide e.state (entry_to_parts top e sound).1) in
      simp length-append (omega arith)

  pub entries_long : (es : List Entry) → list_all (sound_entry top) es ≡ true → All (λ e. length (encode_entry n e) ≡ entry_length n) es
  entries_long [] s = tt
  entries_long (e ∷ es) s = let a = and_parts (sound_entry top e) _ s in (length-encode_entry e a.0, entries_long es a.1)

module _ (k : Kind) (top : Timestamp) where
  word_fits : Laws k → (state : State) → allowed top state ≡ true → of_kind_state k state ≡ true → word_of state < 2 ^ 64
  word_fits laws (Value v) a o = laws.word v o
  word_fits laws (Tombstone t s) a o = let l = leb-true t latest (and_parts (leb t latest) _ a).0 in omega arith

  marked_back : (state : State) → allowed top state ≡ true → of_kind_state k state ≡ true → marked k top (mark_of state) (word_of state) (timestamp_of state) ≡ Some state
  marked_back (Value v) a o = rw o
  marked_back (Tombstone t s) a o = rw a

module _ (k : Kind) (laws : Laws k) (n : ℕ) (top : Timestamp) (most : n ≤ 7) (zeros : zero_from n top.parts ≡ true) where
  module _ (e : Entry) (sound : sound_entry top e ≡ true) (kind : of_kind_state k e.state ≡ true) where
    numbers_back : fields 0 entry_widths (encode_entry n e) ≡ entry_numbers e
    numbers_back =
        let s = entry_to_parts top e sound in
        fields_spell 0 entry_widths (entry_numbers e) _ _ (s.0, (word_fits k top laws e.state s.2 kind, (mark_fits e.state, tt))) refl

    seat-back : seat_at (encode_entry n e) ≡ e.seat
    seat-back = cc numbers_back

    state-back : state_at k n top (encode_entry n e) ≡ Some e.state
    unfolding state_at
    state-back =
        let s = entry_to_parts top e sound in
        let t = timestamp_of e.state in
        let numbers = numbers_back in
        let word : field 8 8 (encode_entry n e) ≡ word_of e.state = cc in
        let mark : field 16 4 (encode_entry n e) ≡ mark_of e.state = cc in
        let d : drop 20 (encode_entry n e) ≡ encode_timestamp n t ++ [] = drop_at _ _ 20 (length-spell entry_widths (entry_numbers e) refl) ∙ sym (append-nil _) in
        let timestamp : timestamp_at n (drop 20 (encode_entry n e)) ≡ t
        = ap (timestamp_at n) d ∙ timestamp_back n t most (timestamp_of_wide e.state s.1) [] (timestamp_of_zeros n top e.state zeros s.2) in
        (λ i. marked k top (mark i) (word i) (timestamp i)) ∙ marked_back k top e.state s.2 kind

  pub entries_back : (es : List Entry) → list_all (sound_entry top) es ≡ true → list_all (λ e. of_kind_state k e.state) es ≡ true → EntriesBack k n top es
  entries_back [] s o = record { seats = refl; read = refl }
  entries_back (e ∷ es) s o =
      let a = and_parts (sound_entry top e) _ s in
      let b = and_parts (of_kind_state k e.state) _ o in
      let r = entries_back es a.1 b.1 in
      record {
        seats = λ i. seat-back e a.0 b.0 i ∷ r.seats i;
        read = λ i. alongside (state-back e a.0 b.0 i) (seat-back e a.0 b.0 i) (r.read i);
      }
