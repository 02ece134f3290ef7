-- Taking in another list's entries.
use Rattle.std.proofs.Common.{◌≡◌, ℕ, ◌+◌, ◌<◌, ◌≤◌, true, cond, List, [], ◌∷◌, ◌++◌, length, get_or, drop, is_none, Some, None, Option, sym, refl, ap, ◌∙◌, append_assoc, append-nil, arith}
use Rattle.std.proofs.lemmas.List.{at_drop_more, at_drop_all}
use Rattle.std.proofs.lemmas.List.Sums.{sum_by-cons}
use Rattle.std.proofs.lemmas.Bool.{ltb-true, le-leb}
use Rattle.std.proofs.lemmas.Bool.Decides.{nat_tests}
use Rattle.gossip.specs.Messages.{Message, sound, rises, below, seats}
use Rattle.gossip.specs.declared.entry.Entry.{Entry}
use Rattle.gossip.specs.declared.entry.State.{State}
use Rattle.table.specs.Entries.{find, put, fits, added, absorbed, merge, fresh, both}
use Rattle.gossip.proofs.Sound.{parts}
use Rattle.table.proofs.Puts.{rises_parts, below_lower, find-below, find-put, rises-put, length-put}

fresh-cons : (es : List Entry) (f : Entry) (fs : List Entry) → fresh es (f ∷ fs) ≡ cond (is_none (find es f.seat)) 1 0 + fresh es fs
fresh-cons es f fs = sum_by-cons (λ g. cond (is_none (find es g.seat)) 1 0) f fs

-- a put of a seat below them all makes no other seat less fresh
fresh-put : (es fs : List Entry) (u : ℕ) (x : State) → rises (seats fs) ≡ true → below u (seats fs) ≡ true → fresh (put es u x) fs ≡ fresh es fs
fresh-put es [] u x h b = refl
fresh-put es (f ∷ fs) u x h b =
    let p = rises_parts f.seat (seats fs) h in
    let i = fresh-put es fs u x p.1 (below_lower u f.seat (seats fs) (ltb-true u f.seat b) p.0) in
    grind (arith, nat_tests, find-put es u x f.seat, fresh-cons (put es u x) f fs, fresh-cons es f fs)

-- the entries of a message
pub told_entries : (m : Message) (fs : List Entry) → fs ≡ m.entries → sound m ≡ true → (rises (seats fs) ≡ true) × (length fs ≤ 64)
told_entries m fs e s = let p = parts m s in (ap (λ l. rises (seats l)) e ∙ p.rising, omega (arith, ap length e))

module _ (join : ℕ → ℕ → ℕ) where
  pub rises_absorbed : (es : List Entry) (f : Entry) → rises (seats es) ≡ true → rises (seats (absorbed join es f.seat f.state)) ≡ true
  rises_absorbed es f h = rises-put es f.seat (added join (find es f.seat) f.state) h

  pub rises_merge : (es fs : List Entry) → rises (seats es) ≡ true → rises (seats (merge join es fs)) ≡ true
  rises_merge es [] h = h
  rises_merge es (f ∷ fs) h = rises_merge (absorbed join es f.seat f.state) fs (rises_absorbed es f h)

  length-merge_le : (es fs : List Entry) → rises (seats es) ≡ true → length es ≤ length (merge join es fs)
  length-merge_le es [] h = omega arith
  length-merge_le es (f ∷ fs) h =
      let k = length-merge_le (absorbed join es f.seat f.state) fs (rises_absorbed es f h) in
      let m = length-put es f.seat (added join (find es f.seat) f.state) h in
      omega arith

  pub length-merge : (es fs : List Entry) → rises (seats es) ≡ true → rises (seats fs) ≡ true → length (merge join es fs) ≡ length es + fresh es fs
  length-merge es [] h k = omega arith
  length-merge es (f ∷ fs) h k =
      let x = added join (find es f.seat) f.state in
      let p = rises_parts f.seat (seats fs) k in
      let i = length-merge (put es f.seat x) fs (rises-put es f.seat x h) p.1 in
      grind (arith, nat_tests, length-put es f.seat x h, fresh-put es fs f.seat x p.1 p.0, fresh-cons es f fs)

  both_none : (o : Option State) → o ≡ both join o None
  both_none None = refl
  both_none (Some x) = refl

  both_some : (o : Option State) (y : State) → Some (added join o y) ≡ both join o (Some y)
  both_some None y = refl
  both_some (Some x) y = refl

  pub find-merge : (es fs : List Entry) (u : ℕ) → rises (seats fs) ≡ true → find (merge join es fs) u ≡ both join (find es u) (find fs u)
  find-merge es [] u h = both_none (find es u)
  find-merge es (f ∷ fs) u h =
      let x = added join (find es f.seat) f.state in
      let p = rises_parts f.seat (seats fs) h in
      let i = find-merge (put es f.seat x) fs u p.1 in
      let q = find-put es f.seat x u in
      let n = find-below f.seat fs p.1 p.0 in
      let b = both_some (find es f.seat) f.state in
      let o = both_none (Some x) in
      grind (arith, nat_tests)

  -- one turn of the loop that takes entries in, and its end
  pub merge_more : (es fs : List Entry) (i : ℕ) (d : Entry) (xs : List Entry) → i < length fs → xs ≡ absorbed join es (get_or fs i d).seat (get_or fs i d).state → merge join xs (drop (i + 1) fs) ≡ merge join es (drop i fs)
  merge_more es fs i d xs h e = ap (λ l. merge join l (drop (i + 1) fs)) e ∙ sym (at_drop_more (merge join es) fs i d h)

  pub merge_all : (es fs : List Entry) (i : ℕ) → length fs ≤ i → merge join es (drop i fs) ≡ es
  merge_all es fs i h = at_drop_all (merge join es) fs i h

  -- each step of a merge fits where the whole does
  pub absorbed-fits : (es fs : List Entry) (i : ℕ) (d : Entry) → rises (seats es) ≡ true → i < length fs → length (merge join es (drop i fs)) ≤ 64 → fits (absorbed join es (get_or fs i d).seat (get_or fs i d).state) ≡ true
  absorbed-fits es fs i d r h n =
      let f = get_or fs i d in
      let xs = absorbed join es f.seat f.state in
      let k = length-merge_le xs (drop (i + 1) fs) (rises_absorbed es f r) in
      le-leb (length xs) 64 (omega (arith, ap length (merge_more es fs i d xs h refl)))

  -- entries behind those that are there, in the order of their seats, are added as they stand
  first_below : (v : ℕ) (es : List Entry) (f : Entry) (fs : List Entry) → rises (v ∷ seats (es ++ f ∷ fs)) ≡ true → v < f.seat
  first_below v [] f fs h = grind (arith, nat_tests)
  first_below v (e ∷ es) f fs h = let i = first_below e.seat es f fs in grind (arith, nat_tests)

  absorbed_last : (es : List Entry) (f : Entry) (fs : List Entry) → rises (seats (es ++ f ∷ fs)) ≡ true → absorbed join es f.seat f.state ≡ es ++ f ∷ []
  absorbed_last [] f fs h = refl
  absorbed_last (e ∷ es) f fs h =
      let l = first_below e.seat es f fs h in
      let i = absorbed_last es f fs (rises_parts e.seat (seats (es ++ f ∷ fs)) h).1 in
      grind (arith, nat_tests)

  merge_behind : (es fs : List Entry) → rises (seats (es ++ fs)) ≡ true → merge join es fs ≡ es ++ fs
  merge_behind es [] h = sym (append-nil es)
  merge_behind es (f ∷ fs) h =
      let e = sym (append_assoc es (f ∷ []) fs) in
      ap (λ z. merge join z fs) (absorbed_last es f fs h) ∙ merge_behind (es ++ f ∷ []) fs (ap (λ z. rises (seats z)) (sym e) ∙ h) ∙ sym e

  pub merge_none : (fs : List Entry) → rises (seats fs) ≡ true → merge join [] fs ≡ fs
  merge_none fs h = merge_behind [] fs h
