-- Where a seat stands among rising seats, and what a look, a change and an insertion there make of the entries.
use Rattle.std.proofs.Common.{◌≡◌, ℕ, zero, suc, ◌<◌, ◌≤◌, ◌≢◌, true, List, [], ◌∷◌, length, get_or, set, is_some, Some, None, Result, Ok, Err, IfOk, IfErr, sym, refl, ap, ◌∙◌, arith}
use Rattle.std.specs.List.{insert}
use Rattle.std.specs.List.Sorted.{IsSearchInRange, IsBinarySearchResult, IsNonDecreasingBy}
use Rattle.std.specs.Result.{result_ok}
use Rattle.std.specs.Ordering.{nat_cmp, ordering_index}
use Rattle.std.proofs.lemmas.List.{length-set}
use Rattle.std.proofs.lemmas.Bool.Decides.{nat_tests}
use Rattle.std.proofs.lemmas.Cmp.{ranked}
use Rattle.gossip.specs.Messages.{rises, seats}
use Rattle.gossip.specs.declared.entry.Entry.{Entry}
use Rattle.gossip.specs.declared.entry.State.{State}
use Rattle.table.specs.Entries.{entry, find, changed, put}
use Rattle.table.specs.Tables.{Sorted, IsPlace, IsGap}
use Rattle.table.proofs.Puts.{rises_parts, put-found}

-- the first of rising seats is below every other
first_lowest : (e : Entry) (es : List Entry) (i : ℕ) (d : Entry) → rises (seats (e ∷ es)) ≡ true → i < length es → e.seat < (get_or es i d).seat
first_lowest e [] i d h l = absurd (omega arith)
first_lowest e (f ∷ fs) zero d h l = grind (arith, nat_tests)
first_lowest e (f ∷ fs) (suc i) d h l = let b = first_lowest f fs i d in grind (arith, nat_tests)

-- a later seat is no lower
seat_le : (es : List Entry) (i j : ℕ) (d : Entry) → rises (seats es) ≡ true → i ≤ j → j < length es → (get_or es i d).seat ≤ (get_or es j d).seat
seat_le [] i j d h le l = absurd (omega arith)
seat_le (e ∷ es) zero zero d h le l = omega arith
seat_le (e ∷ es) zero (suc j) d h le l = let k = first_lowest e es j d h (omega arith) in omega arith
seat_le (e ∷ es) (suc i) zero d h le l = absurd (omega arith)
seat_le (e ∷ es) (suc i) (suc j) d h le l = seat_le es i j d (rises_parts e.seat (seats es) h).1 (omega arith) (omega arith)

-- a binary search by seat ends at the seat's place, or at the gap for it
module _ (es : List Entry) (u : ℕ) (rising : rises (seats es) ≡ true) where
  comparisons_rise : IsNonDecreasingBy (λ e. ordering_index (nat_cmp e.seat u)) es
  comparisons_rise i j d le l = let k = seat_le es i j d rising le l in grind (arith, nat_tests)

  pub searched : (r : Result ℕ ℕ) → IsSearchInRange r (length es) → IsBinarySearchResult (λ e. nat_cmp e.seat u) es r → record { found : IfOk r (IsPlace es u); absent : IfErr r (IsGap es u) }
  searched (Ok i) within equal = record { found = record { within = within; here = λ d. ranked _ u _ (sym (equal d)) }; absent = tt }
  searched (Err i) within parted = record {
    found = tt;
    absent = record {
      within = within;
      lower = λ k d a b. ranked _ u _ (sym ((parted comparisons_rise).0 k d a b));
      higher = λ k d a b. ranked _ u _ (sym ((parted comparisons_rise).1 k d a b));
    };
  }

-- in the entries behind the first, a place is one lower, and so is a gap
place_behind : (e : Entry) (es : List Entry) (u i : ℕ) → IsPlace (e ∷ es) u (suc i) → IsPlace es u i
place_behind e es u i p = record { within = let w = p.within in omega arith; here = p.here }

gap_behind : (e : Entry) (es : List Entry) (u i : ℕ) → IsGap (e ∷ es) u (suc i) → IsGap es u i
gap_behind e es u i g = record {
  within = let w = g.within in omega arith;
  lower = λ k d a b. g.lower (suc k) d (omega arith) (omega arith);
  higher = λ k d a b. g.higher (suc k) d (omega arith) (omega arith);
}

-- the entries before a place have lower seats
before_place : (e : Entry) (es : List Entry) (u i : ℕ) → rises (seats (e ∷ es)) ≡ true → IsPlace (e ∷ es) u (suc i) → e.seat < u
before_place e es u i h p =
    let w = p.within in
    let l = first_lowest e es i e h (omega arith) in
    let k = p.here e in
    omega arith

find-place : (es : List Entry) (u i : ℕ) (d : Entry) → rises (seats es) ≡ true → IsPlace es u i → find es u ≡ Some (get_or es i d).state
find-place [] u i d h p = absurd (let w = p.within in omega arith)
find-place (e ∷ es) u zero d h p = let k = p.here e in grind (arith, nat_tests)
find-place (e ∷ es) u (suc i) d h p =
    let l = before_place e es u i h p in
    let k = find-place es u i d (rises_parts e.seat (seats es) h).1 (place_behind e es u i p) in
    grind (arith, nat_tests)

changed-place : (es : List Entry) (u i : ℕ) (x : State) → rises (seats es) ≡ true → IsPlace es u i → set es i (entry u x) ≡ changed es u x
changed-place [] u i x h p = absurd (let w = p.within in omega arith)
changed-place (e ∷ es) u zero x h p = let k = p.here e in grind (arith, nat_tests)
changed-place (e ∷ es) u (suc i) x h p =
    let l = before_place e es u i h p in
    let k = changed-place es u i x (rises_parts e.seat (seats es) h).1 (place_behind e es u i p) in
    grind (arith, nat_tests)

-- a seat that no entry has is not found
find_absent : (es : List Entry) (u : ℕ) → ((k : ℕ) (d : Entry) → k < length es → (get_or es k d).seat ≢ u) → find es u ≡ None
find_absent [] u h = refl
find_absent (e ∷ es) u h =
    let a = h 0 e (omega arith) in
    let k = find_absent es u (λ k d l. h (suc k) d (omega arith)) in
    grind (arith, nat_tests)

pub find-gap : (es : List Entry) (u i : ℕ) → IsGap es u i → find es u ≡ None
find-gap es u i g = find_absent es u (λ k d l q. grind (arith, g.lower k d, g.higher k d))

pub put-gap : (es : List Entry) (u i : ℕ) (x : State) → IsGap es u i → insert es i (entry u x) ≡ put es u x
put-gap [] u zero x g = refl
put-gap [] u (suc i) x g = absurd (let w = g.within in omega arith)
put-gap (e ∷ es) u zero x g = let k = g.higher 0 e (omega arith) (omega arith) in grind (arith, nat_tests)
put-gap (e ∷ es) u (suc i) x g =
    let l = g.lower 0 e (omega arith) (omega arith) in
    let k = put-gap es u i x (gap_behind e es u i g) in
    grind (arith, nat_tests)

-- there is nothing to change where a seat has no entry
pub changed_none : (es : List Entry) (u : ℕ) (x : State) → None ≡ find es u → es ≡ changed es u x
changed_none [] u x n = refl
changed_none (e ∷ es) u x n = let i = changed_none es u x in grind (arith, nat_tests)

-- another state for an entry leaves every seat
seats-set : (es : List Entry) (i : ℕ) (held : Entry) (x : State) → held ≡ get_or es i held → seats (set es i (entry held.seat x)) ≡ seats es
seats-set [] zero held x r = refl
seats-set [] (suc i) held x r = refl
seats-set (e ∷ es) zero held x r = ap (λ (f : Entry). f.seat ∷ seats es) r
seats-set (e ∷ es) (suc i) held x r = ap (λ l. e.seat ∷ l) (seats-set es i held x r)

pub sorted-set : (es : List Entry) → Sorted es → (i : ℕ) (held : Entry) (x : State) → held ≡ get_or es i held → Sorted (set es i (entry held.seat x))
sorted-set es s i held x r = record {
  rising = ap rises (seats-set es i held x r) ∙ s.rising;
  few = omega (arith, s.few, length-set es i (entry held.seat x));
}

-- a search that did not end at a place ended at a gap, and the other way
pub find_none : (es : List Entry) (u : ℕ) (r : Result ℕ ℕ) → IfErr r (IsGap es u) → result_ok r ≡ None → None ≡ find es u
find_none es u (Ok i) g n = grind arith
find_none es u (Err i) g n = sym (find-gap es u i g)

pub place_found : (es : List Entry) (u i : ℕ) (r : Result ℕ ℕ) → IfOk r (IsPlace es u) → result_ok r ≡ Some i → IsPlace es u i
place_found es u i (Ok j) p n = let e : j ≡ i = cc in rw (← e) p
place_found es u i (Err j) p n = grind arith

-- the entry that stands at a seat's place, and another state for it
module _ (es : List Entry) (s : Sorted es) (u i : ℕ) (p : IsPlace es u i) (held : Entry) (read : held ≡ get_or es i held) where
  pub find-held : Some held.state ≡ find es u
  find-held = ap (λ (e : Entry). Some e.state) read ∙ sym (find-place es u i held s.rising p)

  pub found : is_some (find es u) ≡ true
  found = ap is_some (sym find-held)

  pub set-held : (x : State) → set es i (entry held.seat x) ≡ changed es u x
  set-held x =
      let seat : held.seat ≡ u = ap (λ (e : Entry). e.seat) read ∙ p.here held in
      ap (λ v. set es i (entry v x)) seat ∙ changed-place es u i x s.rising p

  pub put-held : (x : State) → set es i (entry held.seat x) ≡ put es u x
  put-held x = set-held x ∙ sym (put-found es u x s.rising found)
