-- What a put, a merge and a sweep keep of entries that all pass a test, such as to be sound or of a kind.
use Rattle.std.proofs.Common.{◌≡◌, ℕ, ◌^◌, max, Bool, true, not, eqb, ltb, leb, List, [], ◌∷◌, sym, refl, ap, ◌∙◌, ⊎_elim, arith}
use Rattle.std.specs.List.{list_all}
use Rattle.std.proofs.lemmas.Bool.{and_parts, and_from, cases_Bool, eqb-true, leb-true, le-leb}
use Rattle.gossip.specs.Lattices.{Kind, Laws}
use Rattle.gossip.specs.Messages.{wide_state, allowed, sound_entry, of_kind_state, latest}
use Rattle.gossip.specs.Timestamps.{under}
use Rattle.gossip.specs.declared.entry.Entry.{Entry}
use Rattle.gossip.specs.declared.entry.State.{State}
use Rattle.gossip.specs.declared.entry.State.TheVariants.{Value, Tombstone}
use Rattle.gossip.specs.declared.timestamp.Timestamp.{Timestamp}
use Rattle.gossip.specs.UnderLemmas.{under_trans}
use Rattle.gossip.proofs.TimestampLaws.{merged_least}
use Rattle.table.specs.Entries.{entry, find, put, combine, added, absorbed, merge, expired, swept}
use Rattle.replica.proofs.EveryKept.{every_weaker, every_kept}
use Rattle.replica.proofs.TimestampBounds.{wide_merged}

-- Any test

module _ (q : Entry → Bool) where
  pub every-put : (es : List Entry) (u : ℕ) (x : State) → list_all q es ≡ true → q (entry u x) ≡ true → list_all q (put es u x) ≡ true
  every-put [] u x h k = and_from _ _ k refl
  every-put (e ∷ es) u x h k =
      let a = and_parts (q e) (list_all q es) h in
      ⊎_elim
      (λ t. rw t (and_from _ _ a.0 (every-put es u x a.1 k)))
      (λ t. rw t (⊎_elim (λ r. rw r (and_from _ _ k a.1)) (λ r. rw r (and_from _ _ k h)) (cases_Bool (eqb e.seat u))))
      (cases_Bool (ltb e.seat u))

  pub every-swept : (grace clock : ℕ) (rows : List Timestamp) (es : List Entry) → list_all q es ≡ true → list_all q (swept grace clock rows es) ≡ true
  every-swept grace clock rows es h = every_kept q (λ e. not (expired grace clock rows e.state)) es h

  -- two states of one seat that pass combine to one that passes
  module _ (join : ℕ → ℕ → ℕ) (closed : (u : ℕ) (x y : State) → q (entry u x) ≡ true → q (entry u y) ≡ true → q (entry u (combine join x y)) ≡ true) where
    pub added-passes : (es : List Entry) (u : ℕ) (y : State) → list_all q es ≡ true → q (entry u y) ≡ true → q (entry u (added join (find es u) y)) ≡ true
    added-passes [] u y h k = k
    added-passes (e ∷ es) u y h k =
        let a = and_parts (q e) (list_all q es) h in
        ⊎_elim
        (λ t. rw t (closed u e.state y (ap (λ v. q (entry v e.state)) (sym (eqb-true e.seat u t)) ∙ a.0) k))
        (λ t. rw t (added-passes es u y a.1 k))
        (cases_Bool (eqb e.seat u))

    pub every-merge : (es fs : List Entry) → list_all q es ≡ true → list_all q fs ≡ true → list_all q (merge join es fs) ≡ true
    every-merge es [] h k = h
    every-merge es (f ∷ fs) h k =
        let a = and_parts (q f) (list_all q fs) k in
        every-merge (absorbed join es f.seat f.state) fs (every-put es f.seat _ h (added-passes es f.seat f.state h a.0)) a.1

-- Sound entries

pub allowed_wider : (s t : Timestamp) (x : State) → under s.parts t.parts ≡ true → allowed s x ≡ true → allowed t x ≡ true
allowed_wider s t (Value v) u a = refl
allowed_wider s t (Tombstone d r) u a =
    let b = and_parts (leb d latest) _ a in
    and_from _ _ b.0 (under_trans r.parts s.parts t.parts b.1 u)

pub entry_wider : (s t : Timestamp) (e : Entry) → under s.parts t.parts ≡ true → sound_entry s e ≡ true → sound_entry t e ≡ true
entry_wider s t e u h =
    let a = and_parts (ltb e.seat (2 ^ 64)) _ h in
    let b = and_parts (wide_state e.state) _ a.1 in
    and_from _ _ a.0 (and_from _ _ b.0 (allowed_wider s t e.state u b.1))

pub entries_wider : (s t : Timestamp) (es : List Entry) → under s.parts t.parts ≡ true → list_all (sound_entry s) es ≡ true → list_all (sound_entry t) es ≡ true
entries_wider s t es u h = every_weaker (sound_entry s) (sound_entry t) es (λ e. entry_wider s t e u) h

module _ (join : ℕ → ℕ → ℕ) where
  pub wide_combine : (x y : State) → wide_state x ≡ true → wide_state y ≡ true → wide_state (combine join x y) ≡ true
  wide_combine (Value a) (Value b) v w = refl
  wide_combine (Value a) (Tombstone d s) v w = w
  wide_combine (Tombstone d s) (Value b) v w = v
  wide_combine (Tombstone d s) (Tombstone d' s') v w = wide_merged s s' v w

  pub allowed-combine : (t : Timestamp) (x y : State) → allowed t x ≡ true → allowed t y ≡ true → allowed t (combine join x y) ≡ true
  allowed-combine t (Value a) (Value b) v w = refl
  allowed-combine t (Value a) (Tombstone d s) v w = w
  allowed-combine t (Tombstone d s) (Value b) v w = v
  allowed-combine t (Tombstone d s) (Tombstone d' s') v w =
      let a = and_parts (leb d latest) _ v in
      let b = and_parts (leb d' latest) _ w in
      let h = leb-true d latest a.0 in
      let k = leb-true d' latest b.0 in
      and_from _ _ (le-leb (max d d') latest (omega arith)) (merged_least s.parts s'.parts t.parts a.1 b.1)

  pub sound-combine : (t : Timestamp) (u : ℕ) (x y : State) → sound_entry t (entry u x) ≡ true → sound_entry t (entry u y) ≡ true → sound_entry t (entry u (combine join x y)) ≡ true
  sound-combine t u x y h k =
      let a = and_parts (ltb u (2 ^ 64)) _ h in
      let b = and_parts (wide_state x) _ a.1 in
      let c = and_parts (wide_state y) _ (and_parts (ltb u (2 ^ 64)) _ k).1 in
      and_from _ _ a.0 (and_from _ _ (wide_combine x y b.0 c.0) (allowed-combine t x y b.1 c.1))

  pub sound-merge : (t : Timestamp) (es fs : List Entry) → list_all (sound_entry t) es ≡ true → list_all (sound_entry t) fs ≡ true → list_all (sound_entry t) (merge join es fs) ≡ true
  sound-merge t = every-merge (sound_entry t) join (sound-combine t)

-- Entries of a kind

module _ (k : Kind) (L : Laws k) where
  pub kind_combine : (x y : State) → of_kind_state k x ≡ true → of_kind_state k y ≡ true → of_kind_state k (combine k.join x y) ≡ true
  kind_combine (Value a) (Value b) v w = L.closed a b v w
  kind_combine (Value a) (Tombstone d s) v w = refl
  kind_combine (Tombstone d s) (Value b) v w = refl
  kind_combine (Tombstone d s) (Tombstone d' s') v w = refl

  pub kind_added : (es : List Entry) (u : ℕ) (y : State) → list_all (λ e. of_kind_state k e.state) es ≡ true → of_kind_state k y ≡ true → of_kind_state k (added k.join (find es u) y) ≡ true
  kind_added = added-passes (λ e. of_kind_state k e.state) k.join (λ u. kind_combine)

  pub kind_merge : (es fs : List Entry) → list_all (λ e. of_kind_state k e.state) es ≡ true → list_all (λ e. of_kind_state k e.state) fs ≡ true → list_all (λ e. of_kind_state k e.state) (merge k.join es fs) ≡ true
  kind_merge = every-merge (λ e. of_kind_state k e.state) k.join (λ u. kind_combine)
