-- What a sound message says part by part, and how it stays sound.
use Rattle.std.proofs.Common.{◌≡◌, ℕ, suc, ◌-◌, ◌^◌, ◌<◌, ◌≤◌, true, ◌&&◌, eqb, ltb, leb, List, [], ◌∷◌, ◌++◌, length, Some, None, Option, sym, refl, ap, ◌∙◌, arith}
use native.Mathlib.Numerals.{unary_clauses}
use Rattle.std.specs.List.{list_all, slice_get}
use Rattle.std.proofs.lemmas.List.{length_push, map_push}
use Rattle.std.proofs.lemmas.Bool.{and_parts, and_from, leb-true, le-leb, ltb-true, lt-ltb}
use Rattle.gossip.specs.Messages.{Message, rises, seats, sound, sound_head, sound_entry, wide_timestamp, wide_state, allowed, origin, latest}
use Rattle.gossip.specs.Timestamps.{group_size, under, zero_from}
use Rattle.gossip.specs.declared.entry.Entry.{Entry}
use Rattle.gossip.specs.declared.head.Head.{Head}
use Rattle.gossip.specs.declared.timestamp.Timestamp.{Timestamp}
use Rattle.gossip.proofs.Loops.{every_push}
use Rattle.gossip.proofs.Bools.{and_true}

-- a seat behind rising ones: the last of them decides
pub rises_last : (es : List Entry) (e : Entry) (seat : ℕ) → Some e ≡ slice_get es (length es - 1) → rises (seats es) ≡ true → ltb e.seat seat ≡ rises (seats es ++ seat ∷ [])
rises_last [] e seat l r = absurd (let z : ◌≡◌ {A = Option Entry} (Some e) None = l in cc)
rises_last (y ∷ []) e seat l r = let same : e ≡ y = cc in ap (λ (d : Entry). ltb d.seat seat) same ∙ sym (and_true (ltb y.seat seat))
rises_last (y ∷ (z ∷ zs)) e seat l r =
    let a = and_parts (ltb y.seat z.seat) (rises (seats (z ∷ zs))) r in
    let l' : Some e ≡ slice_get (z ∷ zs) (length (z ∷ zs) - 1) = simp unary_clauses (simp unary_clauses at l) in
    rw a.0 (rises_last (z ∷ zs) e seat l' a.1)

-- where there is no last entry, there is none
pub no_last : (es : List Entry) → ◌≡◌ {A = Option Entry} None (slice_get es (length es - 1)) → es ≡ []
no_last [] l = refl
no_last (y ∷ []) l = absurd (let z : ◌≡◌ {A = Option Entry} None (Some y) = l in cc)
no_last (y ∷ (z ∷ zs)) l =
    let l' : ◌≡◌ {A = Option Entry} None (slice_get (z ∷ zs) (length (z ∷ zs) - 1)) = simp unary_clauses (simp unary_clauses at l) in
    absurd (let e : z ∷ zs ≡ [] = no_last (z ∷ zs) l' in cc)

-- what is at or under a timestamp of narrow parts has narrow parts
pub narrow_under : (w : ℕ) (s t : List ℕ) → under s t ≡ true → list_all (λ x. ltb x (suc w)) t ≡ true → list_all (λ x. ltb x (suc w)) s ≡ true
narrow_under w [] t u e = refl
narrow_under w (x ∷ s) [] u e =
    let a = and_parts (leb x 0) (under s []) u in
    let l = leb-true x 0 a.0 in
    and_from (ltb x (suc w)) _ (lt-ltb x (suc w) (omega arith)) (narrow_under w s [] a.1 refl)
narrow_under w (x ∷ s) (y ∷ t) u e =
    let a = and_parts (leb x y) (under s t) u in
    let b = and_parts (ltb y (suc w)) (list_all (λ x. ltb x (suc w)) t) e in
    let l = leb-true x y a.0 in
    let m = ltb-true y (suc w) b.0 in
    and_from (ltb x (suc w)) _ (lt-ltb x (suc w) (omega arith)) (narrow_under w s t a.1 b.1)

-- what is at or under a wide timestamp, and has as many parts, is wide
pub wide_beneath : (s top : Timestamp) → length s.parts ≡ length top.parts → under s.parts top.parts ≡ true → wide_timestamp top ≡ true → wide_timestamp s ≡ true
wide_beneath s top l u w =
    let a = and_parts (eqb (length top.parts) 7) _ w in
    and_from _ _ (ap (λ k. eqb k 7) l ∙ a.0) (narrow_under 4294967295 s.parts top.parts u a.1)

-- a tombstone that is allowed beside a wide timestamp has one
pub wide_under : (t : ℕ) (s top : Timestamp) → length s.parts ≡ length top.parts → (leb t latest && under s.parts top.parts) ≡ true → wide_timestamp top ≡ true → wide_timestamp s ≡ true
wide_under t s top l u w = wide_beneath s top l (and_parts (leb t latest) _ u).1 w

-- the parts of a sound message
pub record Parts (m : Message) : Type 0 where
  pub head : sound_head m.head ≡ true
  pub few : length m.entries ≤ 64
  pub rising : rises (seats m.entries) ≡ true
  pub each : list_all (sound_entry m.head.timestamp) m.entries ≡ true

pub parts : (m : Message) → sound m ≡ true → Parts m
parts m s =
    let a = and_parts (sound_head m.head) _ s in
    let b = and_parts (leb (length m.entries) 64) _ a.1 in
    let c = and_parts (rises (seats m.entries)) _ b.1 in
    record { head = a.0; few = leb-true _ 64 b.0; rising = c.0; each = c.1 }

pub whole : (m : Message) → Parts m → sound m ≡ true
whole m p = and_from _ _ p.head (and_from _ _ (le-leb _ 64 p.few) (and_from _ _ p.rising p.each))

pub group_size-parts : (n : ℕ) → group_size n ≡ true → (1 ≤ n) × (n ≤ 7)
group_size-parts n e = let a = and_parts (leb 1 n) (leb n 7) e in (leb-true 1 n a.0, leb-true n 7 a.1)

pub origin_parts : (n sender : ℕ) → origin n sender ≡ true → (1 ≤ n) × (n ≤ 7) × (sender < n)
origin_parts n sender o =
    let a = and_parts (group_size n) _ o in
    let b = group_size-parts n a.0 in
    (b.0, b.1, ltb-true sender n a.1)

pub origin_whole : (n sender : ℕ) → 1 ≤ n → n ≤ 7 → sender < n → origin n sender ≡ true
origin_whole n sender some most member = and_from _ _ (and_from _ _ (le-leb 1 n some) (le-leb n 7 most)) (lt-ltb sender n member)

-- the parts of a sound head
pub record HeadParts (h : Head) : Type 0 where
  pub some : 1 ≤ h.n
  pub most : h.n ≤ 7
  pub member : h.sender < h.n
  pub group : h.group < 2 ^ 32
  pub clock : h.clock ≤ latest
  pub wide : wide_timestamp h.timestamp ≡ true
  pub zeros : zero_from h.n h.timestamp.parts ≡ true

pub head_to_parts : (h : Head) → sound_head h ≡ true → HeadParts h
head_to_parts h s =
    let a = and_parts (origin h.n h.sender) _ s in
    let b = and_parts (ltb h.group (2 ^ 32)) _ a.1 in
    let c = and_parts (leb h.clock latest) _ b.1 in
    let d = and_parts (wide_timestamp h.timestamp) _ c.1 in
    let o = origin_parts h.n h.sender a.0 in
    record { some = o.0; most = o.1; member = o.2; group = ltb-true _ _ b.0; clock = leb-true _ _ c.0; wide = d.0; zeros = d.1 }

pub head_whole : (h : Head) → HeadParts h → sound_head h ≡ true
head_whole h p =
    and_from _ _ (origin_whole _ _ p.some p.most p.member)
    (and_from _ _ (lt-ltb _ _ p.group) (and_from _ _ (le-leb _ _ p.clock) (and_from _ _ p.wide p.zeros)))

pub entry_to_parts : (top : Timestamp) (e : Entry) → sound_entry top e ≡ true → (e.seat < 2 ^ 64) × (wide_state e.state ≡ true) × (allowed top e.state ≡ true)
entry_to_parts top e s =
    let a = and_parts (ltb e.seat (2 ^ 64)) _ s in
    let b = and_parts (wide_state e.state) _ a.1 in
    (ltb-true _ (2 ^ 64) a.0, b.0, b.1)

-- one sound entry more, behind the others
pub sound_push : (h : Head) (es : List Entry) (e : Entry) → sound record { head = h; entries = es } ≡ true → length es < 64
    → rises (seats es ++ e.seat ∷ []) ≡ true → sound_entry h.timestamp e ≡ true → sound record { head = h; entries = es ++ e ∷ [] } ≡ true
sound_push h es e s l r f =
    let p = parts record { head = h; entries = es } s in
    let n = length_push es e in
    whole record { head = h; entries = es ++ e ∷ [] }
    record { head = p.head; few = omega arith; rising = ap rises (map_push (λ x. x.seat) es e) ∙ r; each = every_push (sound_entry h.timestamp) es e p.each f }
