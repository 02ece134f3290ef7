-- The steps of the reader, test by test and entry by entry.
use Rattle.std.proofs.Common.{◌≡◌, ℕ, ◌+◌, ◌-◌, ◌*◌, ◌%◌, ◌<◌, ◌≤◌, Bool, true, false, cond, ◌&&◌, eqb, leb, ◌⊎◌, inl, inr, List, [], ◌∷◌, ◌++◌, map, length, get_or, take, drop, Some, None, Ok, Err, Option, Result, sym, refl, ap, ◌∙◌, append_assoc, append-nil, add-one, suc-mul, mul-le-mul_right, length-append, length-drop, arith}
use Rattle.std.proofs.Math.Nat.{mul-mod_left}
use Rattle.std.proofs.lemmas.List.{take_rest, drop-drop}
use Rattle.std.proofs.lemmas.Bool.{cases_lt, and_parts, and_from, and_left, and_right, leb-true, eqb-true, le-leb, lt-leb, eq-eqb, ne_eqb}
use Rattle.gossip.specs.Format.{decode, entry_bytes, entry_length, decode_head, head_at, layout, entries_at, message_length, timestamp_at, marked, state_at, value_at, tombstone_at, seat_at, alongside, entries_of, with_entries, decode_entries}
use Rattle.gossip.specs.Lattices.{Kind}
use Rattle.gossip.specs.Messages.{origin, latest, rises, seats}
use Rattle.gossip.specs.Numbers.{number, field, whole_pieces}
use Rattle.gossip.specs.Refusals.{unless, and_then}
use Rattle.gossip.specs.declared.entry.Entry.{Entry}
use Rattle.gossip.specs.declared.entry.State.{State}
use Rattle.gossip.specs.declared.head.Head.{Head}
use Rattle.gossip.specs.declared.timestamp.Timestamp.{Timestamp}
use Rattle.gossip.specs.declared.refusal.Refusal.{Refusal}
use Rattle.gossip.specs.declared.refusal.Refusal.TheVariants.{Short, Form, Origin, Layout, Clock, Order}
use Rattle.gossip.proofs.NumberLaws.{whole_pieces-count, whole_pieces-next, whole_pieces_none}
use Rattle.gossip.proofs.Unless.{passed, failed}

-- The head

-- a field behind the first k bytes, as the code reads it
pub field-rest : (k at w : ℕ) (b : List ℕ) → field at w (take (length b - k) (drop k b)) ≡ field (k + at) w b
field-rest k at w b = ap (λ t. number (take w (drop at t))) (take_rest b k) ∙ ap (λ t. number (take w t)) (drop-drop at k b)

-- the timestamp behind the first k bytes
pub timestamp_rest : (k n : ℕ) (b : List ℕ) → timestamp_at n (take (length b - k) (drop k b)) ≡ timestamp_at n (drop k b)
timestamp_rest k n b = ap (timestamp_at n) (take_rest b k)

-- what is left of the head's tests after each of them
module _ (k : Kind) (b : List ℕ) where
  abbrev is_laid_out : Bool
  is_laid_out = layout (get_or b 2 0) (field 8 2 b) (field 10 2 b) (field 12 2 b) (field 14 2 b) (length b)

  abbrev from_clock : Result Head Refusal
  from_clock = unless (leb (field 16 8 b) latest) Clock (Ok (head_at b))

  abbrev from_layout : Result Head Refusal
  from_layout = unless is_laid_out Layout from_clock

  abbrev from_origin : Result Head Refusal
  from_origin = unless (eqb (get_or b 1 0) k.number && origin (get_or b 2 0) (get_or b 3 0)) Origin from_layout

  abbrev from_form : Result Head Refusal
  from_form = unless (eqb (get_or b 0 0) 1) Form from_origin

  all_tests : decode_head k b ≡ unless (leb 24 (length b)) Short from_form
  unfolding decode_head
  all_tests = refl

  pub short : length b < 24 → Err Short ≡ decode_head k b
  short h = sym (all_tests ∙ failed _ Short from_form (lt-leb 24 _ h))

-- each refusal follows from the tests before it and its own
module _ (k : Kind) (b : List ℕ) (long : 24 ≤ length b) where
  at_form : decode_head k b ≡ from_form k b
  at_form = all_tests k b ∙ passed _ Short _ _ (le-leb 24 _ long) refl

  pub misformed : (get_or b 0 0 ≡ 1 → ⊥) → Err Form ≡ decode_head k b
  misformed f = sym (at_form ∙ failed _ Form (from_origin k b) (ne_eqb _ 1 f))

module _ (k : Kind) (b : List ℕ) (long : 24 ≤ length b) (formed : get_or b 0 0 ≡ 1) where
  at_origin : decode_head k b ≡ from_origin k b
  at_origin = at_form k b long ∙ passed _ Form _ _ (eq-eqb _ 1 formed) refl

  pub other_kind : (get_or b 1 0 ≡ k.number → ⊥) → Err Origin ≡ decode_head k b
  other_kind n = sym (at_origin ∙ failed _ Origin (from_layout k b) (and_left _ _ (ne_eqb _ _ n)))

  pub no_origin : origin (get_or b 2 0) (get_or b 3 0) ≡ false → Err Origin ≡ decode_head k b
  no_origin o = sym (at_origin ∙ failed _ Origin (from_layout k b) (and_right _ _ o))

module _ (k : Kind) (b : List ℕ) (long : 24 ≤ length b) (formed : get_or b 0 0 ≡ 1) (kind : get_or b 1 0 ≡ k.number) (from : origin (get_or b 2 0) (get_or b 3 0) ≡ true) where
  at_layout : decode_head k b ≡ from_layout k b
  at_layout = at_origin k b long formed ∙ passed _ Origin _ _ (and_from _ _ (eq-eqb _ _ kind) from) refl

  pub mislaid : is_laid_out k b ≡ false → Err Layout ≡ decode_head k b
  mislaid l = sym (at_layout ∙ failed _ Layout (from_clock k b) l)

  pub too_late : is_laid_out k b ≡ true → latest < field 16 8 b → Err Clock ≡ decode_head k b
  too_late l c = sym (at_layout ∙ passed _ Layout _ _ l (failed _ Clock (Ok (head_at b)) (lt-leb _ _ c)))

  pub head_read : is_laid_out k b ≡ true → field 16 8 b ≤ latest → Ok (head_at b) ≡ decode_head k b
  head_read l c = sym (at_layout ∙ passed _ Layout _ _ l (passed _ Clock _ _ (le-leb _ _ c) refl))

-- the layout test on what the code reads behind the first four bytes is that of the bytes
pub laid_out_is : (k : Kind) (b : List ℕ) {n count t e w : ℕ} {r : Bool} → r ≡ layout n count t e w (length b) → n ≡ get_or b 2 0
    → count ≡ field 4 2 (take (length b - 4) (drop 4 b)) → t ≡ field 6 2 (take (length b - 4) (drop 4 b))
    → e ≡ field 8 2 (take (length b - 4) (drop 4 b)) → w ≡ field 10 2 (take (length b - 4) (drop 4 b)) → is_laid_out k b ≡ r
laid_out_is k b h p q r s u =
    let q' = q ∙ field-rest 4 4 2 b in
    let r' = r ∙ field-rest 4 6 2 b in
    let s' = s ∙ field-rest 4 8 2 b in
    let u' = u ∙ field-rest 4 10 2 b in
    rw (← p, ← q', ← r', ← s', ← u') (sym h)

-- what a layout that holds says of the count and the length
module _ (k : Kind) (b : List ℕ) (laid : is_laid_out k b ≡ true) where
  pub laid_count : field 8 2 b ≤ 64
  laid_count = leb-true _ 64 (and_parts (leb (field 8 2 b) 64) _ laid).0

  pub laid_length : length b ≡ message_length (get_or b 2 0) (field 8 2 b)
  laid_length =
      let n = get_or b 2 0 in
      let p = (and_parts (leb (field 8 2 b) 64) _ laid).1 in
      let q = (and_parts (eqb (field 10 2 b) 24) _ p).1 in
      let r = (and_parts (eqb (field 12 2 b) (entries_at n)) _ q).1 in
      eqb-true _ _ (and_parts (eqb (field 14 2 b) (message_length n (field 8 2 b))) _ r).1

-- a head whose fields are those of the bytes
pub head_at_lem : (b : List ℕ) (h : Head) → h.n ≡ get_or b 2 0 → h.sender ≡ get_or b 3 0 → h.group ≡ field 4 4 b → h.clock ≡ field 16 8 b → h.timestamp ≡ timestamp_at h.n (drop 24 b) → h ≡ head_at b
head_at_lem b h p q r s t =
    let u = t ∙ ap (λ n. timestamp_at n (drop 24 b)) p in
    λ i. record { n = p i; sender = q i; group = r i; clock = s i; timestamp = u i }

-- An entry

-- the state in an entry's bytes, mark by mark
module _ (k : Kind) (n : ℕ) (top : Timestamp) (p : List ℕ) {word : ℕ} {s : Timestamp} (w : word ≡ field 8 8 p) (t : s ≡ timestamp_at n (drop 20 p)) where
  by_mark : marked k top (field 16 4 p) word s ≡ state_at k n top p
  unfolding state_at
  by_mark = rw (w, t)

  pub state_value : field 16 4 p ≡ 1 → value_at k word s ≡ state_at k n top p
  state_value m = sym (ap (λ b. cond b (value_at k word s) (cond (eqb (field 16 4 p) 2) (tombstone_at top word s) None)) (eq-eqb _ 1 m)) ∙ by_mark

  pub state_tombstone : field 16 4 p ≡ 2 → tombstone_at top word s ≡ state_at k n top p
  state_tombstone m = sym (ap (λ x. marked k top x word s) m) ∙ by_mark

pub state_none : (k : Kind) (n : ℕ) (top : Timestamp) (p : List ℕ) → (field 16 4 p ≡ 1 → ⊥) → (field 16 4 p ≡ 2 → ⊥) → None ≡ state_at k n top p
unfolding state_at
state_none k n top p a b = rw (ne_eqb _ 1 a, ne_eqb _ 2 b)

-- The entries

-- entries that are read, before those that are still to come
abbrev pub before : List Entry → Option (List Entry) → Option (List Entry)
before es (Some fs) = Some (es ++ fs)
before es None = None

-- one entry more before the others
pub before_more : (es : List Entry) (s : State) (seat : ℕ) (o : Option (List Entry)) → before (es ++ record { seat = seat; state = s } ∷ []) o ≡ before es (alongside (Some s) seat o)
before_more es s seat (Some fs) = ap Some (append_assoc es _ fs)
before_more es s seat None = refl

-- one turn of a loop over the pieces: es are read, the bytes r are left, and p is the piece at their front
module _ (k : Kind) (n : ℕ) (top : Timestamp) (all : List (List ℕ)) (es : List Entry) (r : List ℕ) (so_far : before es (entries_of k n top (whole_pieces (entry_length n) r)) ≡ entries_of k n top all) where
  module _ (p r' : List ℕ) (cut : r ≡ p ++ r') (long : length p ≡ entry_length n) where
    next : before es (alongside (state_at k n top p) (seat_at p) (entries_of k n top (whole_pieces (entry_length n) r'))) ≡ entries_of k n top all
    next = sym (ap (λ ps. before es (entries_of k n top ps)) (whole_pieces-next (entry_length n) r p r' (omega arith) cut long)) ∙ so_far

    -- a piece that spells no entry stops it
    pub reading_stops : None ≡ state_at k n top p → None ≡ entries_of k n top all
    reading_stops e = ap (λ s. before es (alongside s (seat_at p) (entries_of k n top (whole_pieces (entry_length n) r')))) e ∙ next

    -- another adds its entry
    pub reading_more : (s : State) (seat : ℕ) → Some s ≡ state_at k n top p → seat ≡ seat_at p
        → before (es ++ record { seat = seat; state = s } ∷ []) (entries_of k n top (whole_pieces (entry_length n) r')) ≡ entries_of k n top all
    reading_more s seat e f =
        let rest = entries_of k n top (whole_pieces (entry_length n) r') in
        before_more es s seat rest ∙ ap (λ x. before es (alongside x seat rest)) e ∙ ap (λ x. before es (alongside (state_at k n top p) x rest)) f ∙ next

  -- where no whole piece is left, all are read
  pub reading_ends : length r < entry_length n → Some es ≡ entries_of k n top all
  reading_ends h = ap Some (sym (append-nil es)) ∙ sym (ap (λ ps. before es (entries_of k n top ps)) (whole_pieces_none (entry_length n) r h)) ∙ so_far

-- another entry takes the room of its piece
pub room_more : (m s room : ℕ) (r p r' : List ℕ) → r ≡ p ++ r' → length p ≡ s → m * s + length r ≤ room → (m + 1) * s + length r' ≤ room
room_more m s room r p r' cut long h =
    let e : (m + 1) * s ≡ m * s + s = ap (λ (j : ℕ). j * s) (add-one m) ∙ suc-mul m s in
    let l : length r ≡ length p + length r' = ap length cut ∙ length-append p r' in
    omega arith

-- entries that take at most the room of 64 are at most 64
pub few_entries : (n count : ℕ) → count * entry_length n ≤ 64 * entry_length n → count ≤ 64
few_entries n count h = pick (cases_lt 64 count)
  where
    pick : (64 < count) ⊎ (count ≤ 64) → count ≤ 64
    pick (inl l) = let m : 65 * entry_length n ≤ count * entry_length n = mul-le-mul_right (entry_length n) l in absurd (omega arith)
    pick (inr l) = l

-- the seats of the entries that are read are those in the pieces
pub seats_read : (k : Kind) (n : ℕ) (top : Timestamp) (ps : List (List ℕ)) (es : List Entry) → entries_of k n top ps ≡ Some es → seats es ≡ map seat_at ps
seats_read k n top [] es e = ap seats (some_same es [] (sym e))
  where
    some_same : (xs ys : List Entry) → ◌≡◌ {A = Option (List Entry)} (Some xs) (Some ys) → xs ≡ ys
    some_same xs ys e = cc
seats_read k n top (p ∷ ps) es e = split (state_at k n top p) (entries_of k n top ps) (seats_read k n top ps) e
  where
    split : (o : Option State) (rest : Option (List Entry)) → ((ys : List Entry) → rest ≡ Some ys → seats ys ≡ map seat_at ps) → alongside o (seat_at p) rest ≡ Some es → seats es ≡ seat_at p ∷ map seat_at ps
    split (Some s) (Some ys) ih e = let q : es ≡ record { seat = seat_at p; state = s } ∷ ys = cc in ap seats q ∙ ap (λ t. seat_at p ∷ t) (ih ys refl)
    split (Some s) None ih e = absurd (let z : ◌≡◌ {A = ℕ} 0 1 = cc in omega arith)
    split None (Some ys) ih e = absurd (let z : ◌≡◌ {A = ℕ} 0 1 = cc in omega arith)
    split None None ih e = absurd (let z : ◌≡◌ {A = ℕ} 0 1 = cc in omega arith)

-- the message with a head, once the seats rise
module _ (k : Kind) (h : Head) (ps : List (List ℕ)) where
  pub falling : rises (map seat_at ps) ≡ false → Err Order ≡ decode_entries k h ps
  unfolding decode_entries
  falling r = rw r

  pub with_entries_lem : (o : Option (List Entry)) → rises (map seat_at ps) ≡ true → o ≡ entries_of k h.n h.timestamp ps → with_entries h o ≡ decode_entries k h ps
  unfolding decode_entries
  with_entries_lem o r e = rw r (ap (with_entries h) e)

-- The message

module _ (k : Kind) (b : List ℕ) where
  -- a refusal of the head is one of the message
  pub refused_head : (e : Refusal) → Err e ≡ decode_head k b → Err e ≡ decode k b
  unfolding decode
  refused_head e r = ap (λ x. and_then x (λ h. decode_entries k h (entry_bytes h.n b))) r

  -- behind a head that reads, the entries decide
  pub with-head : (h : Head) → Ok h ≡ decode_head k b → length b ≡ message_length h.n (field 8 2 b)
      → decode_entries k h (whole_pieces (entry_length h.n) (take (length b - entries_at h.n) (drop (entries_at h.n) b))) ≡ decode k b
  unfolding decode
  with-head h r l =
      ap (λ t. decode_entries k h (whole_pieces (entry_length h.n) t)) (take_rest b (entries_at h.n))
      ∙ ap (decode_entries k h) (whole_pieces-count (entry_length h.n) (field 8 2 b) (drop (entries_at h.n) b) (omega arith) (simp length-drop (omega arith)))
      ∙ ap (λ x. and_then x (λ h. decode_entries k h (entry_bytes h.n b))) r

-- behind the head of a message stand whole entries, as many as it counts
module _ (n count : ℕ) (b : List ℕ) (l : length b ≡ message_length n count) where
  pub length-entries : length (take (length b - entries_at n) (drop (entries_at n) b)) ≡ count * entry_length n
  length-entries = rw take_rest (simp length-drop (omega arith))

  pub entries_are_whole : length (take (length b - entries_at n) (drop (entries_at n) b)) % entry_length n ≡ 0
  entries_are_whole = ap (λ (j : ℕ). j % entry_length n) length-entries ∙ mul-mod_left count (entry_length n)

  pub entries_are_few : count ≤ 64 → length (take (length b - entries_at n) (drop (entries_at n) b)) ≤ 64 * entry_length n
  entries_are_few h = let m : count * entry_length n ≤ 64 * entry_length n = mul-le-mul_right (entry_length n) h in omega (arith, length-entries)
