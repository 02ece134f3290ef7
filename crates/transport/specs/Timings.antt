-- That the layer over a lawful transport is lawful.
use Rattle.std.specs.Prelude.{◌≡◌, ℕ, suc, ◌-◌, ◌≤◌, List, ◌∷◌, ◌++◌, filter, length, take, drop, Contains, refl}
use Rattle.std.proofs.Common.{arith, length-drop}
use Rattle.std.proofs.Math.Seq.{split_at}
use Rattle.std.proofs.lemmas.Bool.{leb-true, le-leb}
use Rattle.std.proofs.lemmas.Bool.Decides.{nat_tests}
use Rattle.std.proofs.lemmas.List.{map-append}
use Rattle.std.proofs.lemmas.List.Elements.{All-map, All-filter, filter_passes, filter-append, Contains-append_right}
use Rattle.transport.specs.Parcels.{Parcel, parcel, Fit, Lawful}
use Rattle.transport.specs.Timed.{has_message, untimed, fresh}

pub untimed-append : (ps qs : List Parcel) → untimed (ps ++ qs) ≡ untimed ps ++ untimed qs
untimed-append ps qs = simp (filter-append, map-append)

-- each message that is held above fits the room that the reading leaves
pub Fit-untimed : (n : ℕ) (ps : List Parcel) → Fit n ps → Fit (n - 8) (untimed ps)
Fit-untimed n ps h =
    All-map (λ p. (1 ≤ length p.bytes) × (length p.bytes ≤ n - 8)) (λ p. parcel p.to (drop 8 p.bytes)) (filter (λ p. has_message p.bytes) ps) (λ k d lt.
    let fits = All-filter (λ p. has_message p.bytes) (λ p. (1 ≤ length p.bytes) × (length p.bytes ≤ n)) ps h k d lt in
    let long = leb-true 9 _ (filter_passes (λ p. has_message p.bytes) ps k d lt) in
    simp length-drop (omega arith, omega arith))

-- what is held below with something behind its reading is held above without it
pub Contains-untimed : (ps : List Parcel) (n : ℕ) (bs : List ℕ) → 9 ≤ length bs → Contains ps (parcel n bs) → Contains (untimed ps) (parcel n (drop 8 bs))
Contains-untimed ps n bs long (k, lt, at) =
    let e = split_at ps k (parcel n bs) lt in
    let after = drop (suc k) ps in
    let first : untimed (parcel n bs ∷ after) ≡ parcel n (drop 8 bs) ∷ untimed after = rw (le-leb 9 _ long) refl in
    rw (e, at, untimed-append) (Contains-append_right (untimed (take k ps)) (untimed (parcel n bs ∷ after)) (parcel n (drop 8 bs)) (rw first (0, omega arith, refl)))

-- what is given had something behind its reading
pub fresh_long : (grace clock : ℕ) (bs : List ℕ) → 1 ≤ length (fresh grace clock bs) → (9 ≤ length bs) × (fresh grace clock bs ≡ drop 8 bs)
fresh_long grace clock bs h = grind (arith, nat_tests)

pub untimed_lawful : {held : List Parcel} {longest : ℕ} {next : ℕ → ℕ → List ℕ} (grace : ℕ) → Lawful held longest next → Lawful (untimed held) (longest - 8) (λ n reading. fresh grace reading (next n reading))
untimed_lawful {held} {longest} {next} grace h =
    record {
      bounded = let b = h.bounded in omega arith;
      fitting = Fit-untimed longest held h.fitting;
      pending = λ n reading some.
          let f = fresh_long grace reading (next n reading) some in
          rw f.1 (Contains-untimed held n (next n reading) f.0 (h.pending n reading (omega (arith, f.0))));
    }
