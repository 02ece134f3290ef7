-- What a sweep leaves.
use Rattle.std.proofs.Common.{◌≡◌, ℕ, ◌+◌, Bool, true, not, List, [], ◌∷◌, length, filter, refl, arith}
use Rattle.std.proofs.lemmas.List.Filters.{length-filter_both}
use Rattle.std.proofs.lemmas.Bool.{ltb-true}
use Rattle.std.proofs.lemmas.Bool.Decides.{nat_tests}
use Rattle.gossip.specs.Messages.{rises, below, seats}
use Rattle.gossip.specs.declared.entry.Entry.{Entry}
use Rattle.gossip.specs.declared.timestamp.Timestamp.{Timestamp}
use Rattle.table.specs.Entries.{find, expired, swept, removable, survivor}
use Rattle.table.specs.Tables.{Sorted}
use Rattle.table.proofs.Puts.{rises_parts, below_lower, find-below}

-- some of rising seats rise
below_kept : (p : Entry → Bool) (v : ℕ) (es : List Entry) → rises (seats es) ≡ true → below v (seats es) ≡ true → below v (seats (filter p es)) ≡ true
below_kept p v [] h b = refl
below_kept p v (e ∷ es) h b =
    let q = rises_parts e.seat (seats es) h in
    let i = below_kept p v es q.1 (below_lower v e.seat (seats es) (ltb-true v e.seat b) q.0) in
    grind (arith, nat_tests)

rises_kept : (p : Entry → Bool) (es : List Entry) → rises (seats es) ≡ true → rises (seats (filter p es)) ≡ true
rises_kept p [] h = refl
rises_kept p (e ∷ es) h =
    let q = rises_parts e.seat (seats es) h in
    let b = below_kept p e.seat es q.1 q.0 in
    let i = rises_kept p es q.1 in
    grind (arith, nat_tests)

module _ (grace clock : ℕ) (rows : List Timestamp) where
  pub rises-swept : (es : List Entry) → rises (seats es) ≡ true → rises (seats (swept grace clock rows es)) ≡ true
  rises-swept es h = rises_kept (λ e. not (expired grace clock rows e.state)) es h

  pub length-swept : (es : List Entry) → length (removable grace clock rows es) + length (swept grace clock rows es) ≡ length es
  length-swept es = length-filter_both (λ e. expired grace clock rows e.state) (λ e. not (expired grace clock rows e.state)) (λ e. refl) es

  pub sorted-swept : (es : List Entry) → Sorted es → Sorted (swept grace clock rows es)
  sorted-swept es s = record { rising = rises-swept es s.rising; few = omega (arith, length-swept es, s.few) }

  -- what a sweep leaves of a seat
  pub find-swept : (es : List Entry) (u : ℕ) → rises (seats es) ≡ true → find (swept grace clock rows es) u ≡ survivor grace clock rows (find es u)
  find-swept [] u h = refl
  find-swept (e ∷ es) u h =
      let p = rises_parts e.seat (seats es) h in
      let n = find-below e.seat es p.1 p.0 in
      let i = find-swept es u p.1 in
      grind (arith, nat_tests)
