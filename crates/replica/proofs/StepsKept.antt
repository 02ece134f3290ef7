-- What every step leaves: the memory as it was, or a changed one that is as sound, and of the kind.
use Rattle.replica.specs.declared.refusal.Refusal.TheVariants.{Value as BadValue, Full, Group, Late, Spent, Time}
use Rattle.replica.specs.declared.refusal.Refusal.{Refusal}
use Rattle.std.proofs.Common.{◌≡◌, ℕ, ◌^◌, Bool, true, false, cond, not, ◌&&◌, eqb, ltb, leb, ◌⊎◌, take, Some, None, Ok, Option, Result, sym, refl, ap, ◌∙◌, inl, inr}
use Rattle.std.proofs.lemmas.Bool.{and_parts, and_from}
use Rattle.gossip.specs.Lattices.{Kind, Laws}
use Rattle.gossip.specs.Messages.{Message, sound_entry, wide_state, of_kind_state, latest}
use Rattle.gossip.specs.Refusals.{unless}
use Rattle.gossip.specs.Timestamps.{part, under}
use Rattle.gossip.specs.declared.entry.State.{State}
use Rattle.gossip.specs.declared.entry.State.TheVariants.{Value, Tombstone}
use Rattle.gossip.specs.UnderLemmas.{under_refl}
use Rattle.gossip.proofs.Unless.{unless_ok, and_then_ok}
use Rattle.table.specs.Entries.{entry, find, put, fits, merge, added}
use Rattle.replica.specs.Answers.{old, new, Step}
use Rattle.replica.specs.Memories.{Memory, sound_memory, of_kind_memory}
use Rattle.replica.specs.StepLaws.{Possible, OfKind, KeepsSound, KeepsKind}
use Rattle.replica.specs.Steps.{Deed, enters, deletes, receives, sweeps, step, clock_now, is_late, stays, raised, raise, stored, change, change_to, entered, has_tombstone, together, learnt, is_of, swept_of}
use Rattle.replica.specs.declared.membership.Membership.{Membership}
use Rattle.replica.proofs.EntriesKept.{every-put, every-swept, added-passes, entries_wider, sound-combine, kind_added, kind_merge}
use Rattle.replica.proofs.MemoriesKept.{memory_parts, raised_wide, stored-sound, learnt-sound, swept-sound}
use Rattle.replica.proofs.TimestampBounds.{under-bumped}

-- an accepted change that gives the seat u the state x
pub record Changed (p : Membership) (m : Memory) (c u : ℕ) (x : State) (after : Memory) : Type 0 where
  pub room : fits (put m.entries u x) ≡ true
  pub unspent : ltb (part m.timestamp.parts p.replica) 4294967295 ≡ true
  pub is : after ≡ stored p m c u x (raised p m)

-- a message with news
pub record Learnt (k : Kind) (p : Membership) (m : Memory) (g : Message) (c : ℕ) (after : Memory) : Type 0 where
  pub ours : is_of p g ≡ true
  pub room : fits (merge k.join m.entries g.entries) ≡ true
  pub is : after ≡ learnt k p m g c

-- what a deed leaves that is not refused
abbrev pub Leaves : Kind → Membership → Memory → Deed → Memory → Type 0
Leaves k p m (enters u x t c) after =
    (leb c latest ≡ true) × (k.valid x ≡ true) × ((after ≡ m) ⊎ Changed p m c u (added k.join (find m.entries u) (Value x)) after)
Leaves k p m (deletes u t c) after =
    (leb t latest ≡ true) × (leb c latest ≡ true) × ((after ≡ m) ⊎ Changed p m c u (Tombstone t (raised p m)) after)
Leaves k p m (receives g c) after = (leb c latest ≡ true) × ((after ≡ m) ⊎ Learnt k p m g c after)
Leaves k p m (sweeps c) after =
    (leb c latest ≡ true) × (after ≡ swept_of p m c)

module _ (k : Kind) (p : Membership) (m : Memory) (s : Step) where
  leaves : (r : Step) → ◌≡◌ {A = Result Step Refusal} (Ok r) (Ok s) → s.memory ≡ r.memory
  leaves r e = let f : r ≡ s = cc in ap (λ (z : Step). z.memory) (sym f)

  change_leaves : (c u : ℕ) (x : State) → change p m c u x ≡ Ok s → Changed p m c u x s.memory
  change_leaves c u x e =
      let a = and_then_ok (raise p m u x) _ s e in
      let b = unless_ok (fits (put m.entries u x)) Full _ a.0 a.1 in
      let d = unless_ok (ltb (part m.timestamp.parts p.replica) 4294967295) Spent _ a.0 b.1 in
      let f : a.0 ≡ raised p m = cc in
      record { room = b.0; unspent = d.0; is = leaves _ a.2 ∙ ap (stored p m c u x) f }

  entered_leaves : (u x c : ℕ) (o : Option State) → change_to p m c u (entered k x o) ≡ Ok s → (s.memory ≡ m) ⊎ Changed p m c u (added k.join o (Value x)) s.memory
  entered_leaves u x c None e = inr (change_leaves c u (Value x) e)
  entered_leaves u x c (Some (Value y)) e = joins (eqb (k.join y x) y) e
    where
      joins : (b : Bool) → change_to p m c u (cond b None (Some (Value (k.join y x)))) ≡ Ok s → (s.memory ≡ m) ⊎ Changed p m c u (Value (k.join y x)) s.memory
      joins true e = inl (leaves _ e)
      joins false e = inr (change_leaves c u (Value (k.join y x)) e)
  entered_leaves u x c (Some (Tombstone t r)) e = inl (leaves _ e)

  deleted_leaves : (u c : ℕ) (x : State) (b : Bool) → change_to p m c u (cond b None (Some x)) ≡ Ok s → (s.memory ≡ m) ⊎ Changed p m c u x s.memory
  deleted_leaves u c x true e = inl (leaves _ e)
  deleted_leaves u c x false e = inr (change_leaves c u x e)

  hearing_leaves : (g : Message) (c : ℕ) → is_of p g ≡ true → (b : Bool)
      → cond b (stays m old) (unless (fits (merge k.join m.entries g.entries)) Full (Ok (record { answer = new (together m.timestamp g.head.timestamp); memory = learnt k p m g c }))) ≡ Ok s
      → (s.memory ≡ m) ⊎ Learnt k p m g c s.memory
  hearing_leaves g c o true e = inl (leaves _ e)
  hearing_leaves g c o false e =
      let a = unless_ok (fits (merge k.join m.entries g.entries)) Full _ s e in
      inr record { ours = o; room = a.0; is = leaves _ a.1 }

  pub step_leaves : (d : Deed) → step k p m d ≡ Ok s → Leaves k p m d s.memory
  unfolding step
  step_leaves (enters u x t c) e =
      let a = unless_ok (leb t latest && leb c latest) Time _ s e in
      let b = unless_ok (k.valid x) BadValue _ s a.1 in
      let d = unless_ok (not (is_late p m t c)) Late _ s b.1 in
      ((and_parts (leb t latest) _ a.0).1, b.0, entered_leaves u x c (find m.entries u) d.1)
  step_leaves (deletes u t c) e =
      let a = unless_ok (leb t latest && leb c latest) Time _ s e in
      let b = unless_ok (not (is_late p m t c)) Late _ s a.1 in
      let d = and_parts (leb t latest) _ a.0 in
      (d.0, d.1, deleted_leaves u c (Tombstone t (raised p m)) (has_tombstone (find m.entries u)) b.1)
  step_leaves (receives g c) e =
      let a = unless_ok (leb c latest) Time _ s e in
      let b = unless_ok (is_of p g) Group _ s a.1 in
      (a.0, hearing_leaves g c b.0 (under g.head.timestamp.parts m.timestamp.parts) b.1)
  step_leaves (sweeps c) e =
      let a = unless_ok (leb c latest) Time _ s e in
      (a.0, leaves _ a.1)

-- A sound memory stays sound

module _ (p : Membership) (m : Memory) (whole : sound_memory p m ≡ true) where
  changed-sound : (c u : ℕ) (x : State) (after : Memory) → leb c latest ≡ true → sound_entry (raised p m) (entry u x) ≡ true → Changed p m c u x after → sound_memory p after ≡ true
  changed-sound c u x after reading fine a =
      let b = and_parts (ltb u (2 ^ 64)) _ fine in
      let d = and_parts (wide_state x) _ b.1 in
      ap (sound_memory p) a.is ∙ stored-sound p m c u x whole reading b.0 d.0 d.1 a.room a.unspent

  -- a value joined to what is known of its seat
  added-sound : (join : ℕ → ℕ → ℕ) (u x : ℕ) → ltb u (2 ^ 64) ≡ true → sound_entry (raised p m) (entry u (added join (find m.entries u) (Value x))) ≡ true
  added-sound join u x seat =
      let es = entries_wider m.timestamp (raised p m) m.entries (under-bumped m.timestamp.parts p.replica) (memory_parts p m whole).each in
      added-passes (sound_entry (raised p m)) join (sound-combine join (raised p m)) m.entries u (Value x) es (and_from _ _ seat refl)

  left-sound : (k : Kind) (d : Deed) (after : Memory) → Possible d ≡ true → Leaves k p m d after → sound_memory p after ≡ true
  left-sound k (enters u x t c) after seat (reading, valid, inl e) = ap (sound_memory p) e ∙ whole
  left-sound k (enters u x t c) after seat (reading, valid, inr a) = changed-sound c u _ after reading (added-sound k.join u x seat) a
  left-sound k (deletes u t c) after seat (time, reading, inl e) = ap (sound_memory p) e ∙ whole
  left-sound k (deletes u t c) after seat (time, reading, inr a) =
      changed-sound c u _ after reading (and_from _ _ seat (and_from _ _ (raised_wide p m whole a.unspent) (and_from _ _ time (under_refl (raised p m).parts)))) a
  left-sound k (receives g c) after told (reading, inl e) = ap (sound_memory p) e ∙ whole
  left-sound k (receives g c) after told (reading, inr a) = ap (sound_memory p) a.is ∙ learnt-sound k p m g c whole told a.ours reading a.room
  left-sound k (sweeps c) after possible (reading, e) = ap (sound_memory p) e ∙ swept-sound p m c whole reading

pub keeps_sound : KeepsSound
keeps_sound k p m d s whole possible e = left-sound p m whole k d s.memory possible (step_leaves k p m s d e)

-- Values stay of the kind

module _ (k : Kind) (p : Membership) (m : Memory) (L : Laws k) (fine : of_kind_memory k m ≡ true) where
  changed_kind : (c u : ℕ) (x : State) (after : Memory) → of_kind_state k x ≡ true → Changed p m c u x after → of_kind_memory k after ≡ true
  changed_kind c u x after h a = ap (of_kind_memory k) a.is ∙ every-put (λ e. of_kind_state k e.state) m.entries u x fine h

  left_kind : (d : Deed) (after : Memory) → OfKind k d ≡ true → Leaves k p m d after → of_kind_memory k after ≡ true
  left_kind (enters u x t c) after h (reading, valid, inl e) = ap (of_kind_memory k) e ∙ fine
  left_kind (enters u x t c) after h (reading, valid, inr a) = changed_kind c u _ after (kind_added k L m.entries u (Value x) fine valid) a
  left_kind (deletes u t c) after h (time, reading, inl e) = ap (of_kind_memory k) e ∙ fine
  left_kind (deletes u t c) after h (time, reading, inr a) = changed_kind c u _ after refl a
  left_kind (receives g c) after h (reading, inl e) = ap (of_kind_memory k) e ∙ fine
  left_kind (receives g c) after h (reading, inr a) = ap (of_kind_memory k) a.is ∙ kind_merge k L m.entries g.entries fine h
  left_kind (sweeps c) after h (reading, e) =
      ap (of_kind_memory k) e ∙ every-swept (λ e. of_kind_state k e.state) p.grace (clock_now m c) (take p.n m.rows) m.entries fine

pub keeps_kind : KeepsKind
keeps_kind k p m d s L fine h e = left_kind k p m L fine d s.memory h (step_leaves k p m s d e)
