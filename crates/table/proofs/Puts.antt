-- Rising seats, and what a look-up, a change and a put make of them.
use Rattle.std.proofs.Common.{◌≡◌, ℕ, ◌+◌, ◌<◌, true, cond, eqb, List, [], ◌∷◌, length, is_some, Some, None, nat_lt, refl, arith}
use Rattle.std.proofs.lemmas.Bool.{ltb-true, leb-true, and_parts, and_from}
use Rattle.std.proofs.lemmas.Bool.Decides.{nat_tests}
use Rattle.gossip.specs.Messages.{rises, below, seats}
use Rattle.gossip.specs.declared.entry.Entry.{Entry}
use Rattle.gossip.specs.declared.entry.State.{State}
use Rattle.table.specs.Entries.{find, changed, put, fits}
use Rattle.table.specs.Tables.{Sorted}

-- the first of rising numbers is below the next, and the rest rise
pub rises_parts : (v : ℕ) (vs : List ℕ) → rises (v ∷ vs) ≡ true → (below v vs ≡ true) × (rises vs ≡ true)
rises_parts v vs h = and_parts (below v vs) (rises vs) h

pub rises_cons : (v : ℕ) (vs : List ℕ) → below v vs ≡ true → rises vs ≡ true → rises (v ∷ vs) ≡ true
rises_cons v vs b h = and_from (below v vs) (rises vs) b h

pub below_lower : (v u : ℕ) (us : List ℕ) → v < u → below u us ≡ true → below v us ≡ true
below_lower v u [] l h = refl
below_lower v u (w ∷ us) l h = grind (arith, nat_tests)

-- a seat below all others is not found
pub find-below : (v : ℕ) (es : List Entry) → rises (seats es) ≡ true → below v (seats es) ≡ true → find es v ≡ None
find-below v [] h b = refl
find-below v (e ∷ es) h b =
    let l = ltb-true v e.seat b in
    let p = rises_parts e.seat (seats es) h in
    let i = find-below v es p.1 (below_lower v e.seat (seats es) l p.0) in
    grind (arith, nat_tests)

-- a seat found behind an entry is higher
found_higher : (e : Entry) (es : List Entry) (u : ℕ) → rises (seats (e ∷ es)) ≡ true → is_some (find es u) ≡ true → e.seat < u
found_higher e [] u h k = grind (arith, nat_tests)
found_higher e (f ∷ fs) u h k =
    let p = rises_parts e.seat (seats (f ∷ fs)) h in
    let i = found_higher f fs u p.1 in
    grind (arith, nat_tests)

pub find-put : (es : List Entry) (u : ℕ) (x : State) (v : ℕ) → find (put es u x) v ≡ cond (eqb u v) (Some x) (find es v)
find-put [] u x v = refl
find-put (e ∷ es) u x v = let h = find-put es u x v in grind (arith, nat_tests)

-- a put changes the entry that is there
pub put-found : (es : List Entry) (u : ℕ) (x : State) → rises (seats es) ≡ true → is_some (find es u) ≡ true → put es u x ≡ changed es u x
put-found [] u x h k = grind (arith, nat_tests)
put-found (e ∷ es) u x h k =
    let q = found_higher e es u h in
    let i = put-found es u x (rises_parts e.seat (seats es) h).1 in
    grind (arith, nat_tests)

below_put : (v : ℕ) (es : List Entry) (u : ℕ) (x : State) → v < u → below v (seats es) ≡ true → below v (seats (put es u x)) ≡ true
below_put v [] u x l h = grind (arith, nat_tests)
below_put v (e ∷ es) u x l h = grind (arith, nat_tests)

pub rises-put : (es : List Entry) (u : ℕ) (x : State) → rises (seats es) ≡ true → rises (seats (put es u x)) ≡ true
rises-put [] u x h = refl
rises-put (e ∷ es) u x h =
    let p = rises_parts e.seat (seats es) h in
    let b = below_put e.seat es u x in
    let i = rises-put es u x p.1 in
    grind (arith, nat_tests)

pub length-put : (es : List Entry) (u : ℕ) (x : State) → rises (seats es) ≡ true → length (put es u x) ≡ length es + cond (is_some (find es u)) 0 1
length-put [] u x h = refl
length-put (e ∷ es) u x h =
    let i = length-put es u x (rises_parts e.seat (seats es) h).1 in
    let k = found_higher e es u h in
    grind (arith, nat_tests)

-- a put of a seat that is there adds none, and one of a seat that is not adds one
module _ (es : List Entry) (s : Sorted es) (u : ℕ) (x : State) where
  pub fits-found : is_some (find es u) ≡ true → fits (put es u x) ≡ true
  fits-found k = grind (arith, nat_tests, length-put es u x s.rising, s.few)

  pub fits-new : find es u ≡ None → fits (put es u x) ≡ nat_lt (length es) 64
  fits-new k = grind (arith, nat_tests, length-put es u x s.rising, s.few)

  pub sorted-put : fits (put es u x) ≡ true → Sorted (put es u x)
  sorted-put k = record { rising = rises-put es u x s.rising; few = leb-true (length (put es u x)) 64 k }
