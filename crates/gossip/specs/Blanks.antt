-- How the entries of a message lie in their 64 places.
--
-- blank               what stands in a place that no entry has taken
-- padded_blank es     the places with the entries es at the front, and blanks behind them
-- are_blank_from n p  the places from the n-th on are blank
use Rattle.std.specs.Prelude.{◌≡◌, ℕ, ◌-◌, ◌≤◌, List, ◌++◌, length, take, drop, replicate}
use Rattle.std.proofs.Common.{ap₂, take-append-drop, length-take-le, arith}
use Rattle.gossip.specs.declared.entry.Entry.{Entry}
use Rattle.gossip.specs.declared.entry.State.TheVariants.{Value}

abbrev pub blank : Entry
blank = record { seat = 0; state = Value 0 }

abbrev pub padded_blank : List Entry → List Entry
padded_blank es = es ++ replicate (64 - length es) blank

abbrev pub are_blank_from : ℕ → List Entry → Type 0
are_blank_from n p = drop n p ≡ replicate (64 - n) blank

-- the entries at the front give back the places and their own number
pub places_back : {R : Type 0} (f : List Entry → ℕ → R) (n : ℕ) (p : List Entry) → n ≤ 64 → length p ≡ 64 → are_blank_from n p → f (padded_blank (take n p)) (length (take n p)) ≡ f p n
places_back f n p few long blanks =
    let k : length (take n p) ≡ n = length-take-le n p (omega arith) in
    let q : padded_blank (take n p) ≡ p = rw (k, ← blanks) (take-append-drop n p) in
    ap₂ f q k
