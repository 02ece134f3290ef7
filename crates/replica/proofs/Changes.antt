-- Enter and delete, test by test.
use Rattle.replica.specs.declared.refusal.Refusal.TheVariants.{Value as BadValue, Full, Late, Spent, Time}
use Rattle.replica.specs.declared.refusal.Refusal.{Refusal}
use Rattle.std.proofs.Common.{◌≡◌, ℕ, ◌^◌, ◌<◌, Bool, true, false, cond, not, ◌&&◌, eqb, ltb, leb, Some, None, Ok, Err, Option, Result, sym, ap, ◌∙◌, arith}
use Rattle.std.proofs.lemmas.Bool.{lt-ltb}
use Rattle.gossip.specs.Lattices.{Kind}
use Rattle.gossip.specs.Messages.{latest, wide_state, allowed}
use Rattle.gossip.specs.Timestamps.{part}
use Rattle.gossip.specs.declared.entry.State.{State}
use Rattle.gossip.specs.declared.entry.State.TheVariants.{Value, Tombstone}
use Rattle.gossip.specs.declared.timestamp.Timestamp.{Timestamp}
use Rattle.gossip.proofs.Unless.{passed, failed, unless_ok}
use Rattle.table.specs.Entries.{find, put, fits}
use Rattle.replica.specs.Answers.{set, Step}
use Rattle.replica.specs.Memories.{Memory, sound_memory}
use Rattle.replica.specs.Steps.{enters, deletes, step, is_late, raised, raise, stored, change, change_to, entered, deleted}
use Rattle.replica.specs.declared.membership.Membership.{Membership}
use Rattle.replica.proofs.MemoriesKept.{stored-sound}

module _ (p : Membership) (m : Memory) (c u : ℕ) (x : State) where
  pub change_refused : (e : Refusal) → Err e ≡ raise p m u x → change p m c u x ≡ Err e
  change_refused e r = rw (← r)

  pub change-set : (s : Timestamp) → Ok s ≡ raise p m u x → change p m c u x ≡ Ok (record { answer = set s; memory = stored p m c u x s })
  change-set s r = rw (← r)

  -- a change that is not refused fits, and the own part can rise
  pub raise_ok : (s : Timestamp) → raise p m u x ≡ Ok s → (fits (put m.entries u x) ≡ true) × (ltb (part m.timestamp.parts p.replica) 4294967295 ≡ true) × (raised p m ≡ s)
  raise_ok s r =
      let a = unless_ok (fits (put m.entries u x)) Full _ s r in
      let b = unless_ok (ltb (part m.timestamp.parts p.replica) 4294967295) Spent _ s a.1 in
      (a.0, b.0, cc b.1)

  -- and it leaves a sound memory
  pub change-sound : (s : Timestamp) → sound_memory p m ≡ true → leb c latest ≡ true → u < 2 ^ 64 → wide_state x ≡ true → allowed s x ≡ true → raise p m u x ≡ Ok s → sound_memory p (stored p m c u x s) ≡ true
  change-sound s whole reading seat wide fine r =
      let a = raise_ok s r in
      let fine' : allowed (raised p m) x ≡ true = ap (λ (t : Timestamp). allowed t x) a.2 ∙ fine in
      ap (λ t. sound_memory p (stored p m c u x t)) (sym a.2) ∙ stored-sound p m c u x whole reading (lt-ltb u (2 ^ 64) seat) wide fine' a.0 a.1

module _ (k : Kind) (p : Membership) (m : Memory) (u x t c : ℕ) where
  pub enter_untimely : (leb t latest && leb c latest) ≡ false → step k p m (enters u x t c) ≡ Err Time
  unfolding step
  enter_untimely a = failed _ Time _ a

  module _ (times : (leb t latest && leb c latest) ≡ true) where
    pub enter-foreign : k.valid x ≡ false → step k p m (enters u x t c) ≡ Err BadValue
    unfolding step
    enter-foreign v = passed _ Time _ _ times (failed _ BadValue _ v)

    module _ (valid : k.valid x ≡ true) where
      pub enter-late : is_late p m t c ≡ true → step k p m (enters u x t c) ≡ Err Late
      unfolding step
      enter-late l = passed _ Time _ _ times (passed _ BadValue _ _ valid (failed _ Late _ (ap not l)))

      pub enter-changes : is_late p m t c ≡ false → (o : Option State) → o ≡ entered k x (find m.entries u) → (r : Result Step Refusal) → change_to p m c u o ≡ r → step k p m (enters u x t c) ≡ r
      unfolding step
      enter-changes l o e r q = passed _ Time _ _ times (passed _ BadValue _ _ valid (passed _ Late _ _ (ap not l) (ap (change_to p m c u) (sym e) ∙ q)))

module _ (k : Kind) (p : Membership) (m : Memory) (u t c : ℕ) where
  pub delete_untimely : (leb t latest && leb c latest) ≡ false → step k p m (deletes u t c) ≡ Err Time
  unfolding step
  delete_untimely a = failed _ Time _ a

  module _ (times : (leb t latest && leb c latest) ≡ true) where
    pub delete-late : is_late p m t c ≡ true → step k p m (deletes u t c) ≡ Err Late
    unfolding step
    delete-late l = passed _ Time _ _ times (failed _ Late _ (ap not l))

    pub delete-changes : is_late p m t c ≡ false → (o : Option State) → o ≡ deleted (Tombstone t (raised p m)) (find m.entries u) → (r : Result Step Refusal) → change_to p m c u o ≡ r → step k p m (deletes u t c) ≡ r
    unfolding step
    delete-changes l o e r q = passed _ Time _ _ times (passed _ Late _ _ (ap not l) (ap (change_to p m c u) (sym e) ∙ q))

-- an enter gives a value, which may stand beside every timestamp
pub entered_plain : (k : Kind) (v : ℕ) (o : Option State) (x : State) (t : Timestamp) → Some x ≡ entered k v o → (wide_state x ≡ true) × (allowed t x ≡ true)
entered_plain k v None x t e = let q : Value v ≡ x = cc in (ap wide_state (sym q), ap (allowed t) (sym q))
entered_plain k v (Some (Value y)) x t e = by-join (eqb (k.join y v) y) e
  where
    by-join : (b : Bool) → Some x ≡ cond b None (Some (Value (k.join y v))) → (wide_state x ≡ true) × (allowed t x ≡ true)
    by-join true e = absurd (let z : ◌≡◌ {A = ℕ} 0 1 = cc in omega arith)
    by-join false e = let q : Value (k.join y v) ≡ x = cc in (ap wide_state (sym q), ap (allowed t) (sym q))
entered_plain k v (Some (Tombstone d r)) x t e = absurd (let z : ◌≡◌ {A = ℕ} 0 1 = cc in omega arith)
