-- What a post and a take lose: nothing, one message, or above a layer what is lost below it.
use Rattle.std.proofs.Common.{◌≡◌, ℕ, zero, suc, ◌≤◌, List, [], ◌∷◌, ◌++◌, length, Result, sym, refl, ap, ◌∙◌, inl, inr, arith}
use mathlib.Core.List.Sublistᴰ
use Rattle.std.specs.List.{remove}
use Rattle.std.proofs.lemmas.List.{append-nil}
use Rattle.std.proofs.lemmas.Bool.{cases_Bool}
use Rattle.std.proofs.lemmas.Bool.Decides.{nat_tests}
use Rattle.transport.specs.Parcels.{Parcel, parcel, Kept, Posted}
use Rattle.transport.specs.Refusals.{taken}
use Rattle.transport.specs.Timed.{eight, has_message, untimed}
use Rattle.transport.specs.Timings.{untimed-append}
use Rattle.transport.specs.declared.refusal.Refusal.{Refusal}

pub kept_all : (ps : List Parcel) → Kept ps ps
kept_all = Sublistᴰ.refl

-- all but one, in the same order
pub kept_remove : (ps : List Parcel) (i : ℕ) → Kept ps (remove ps i)
kept_remove [] zero = Sublistᴰ.slnil
kept_remove [] (suc i) = Sublistᴰ.slnil
kept_remove (p ∷ ps) zero = Sublistᴰ.cons (Sublistᴰ.refl ps)
kept_remove (p ∷ ps) (suc i) = Sublistᴰ.cons-cons refl (kept_remove ps i)

pub kept_untimed : {ps qs : List Parcel} → Kept ps qs → Kept (untimed ps) (untimed qs)
kept_untimed Sublistᴰ.slnil = Sublistᴰ.slnil
kept_untimed (Sublistᴰ.cons {a} s) =
    elim (cases_Bool (has_message a.bytes)) [
      | inl e ↦ rw e (Sublistᴰ.cons (kept_untimed s))
      | inr e ↦ rw e (kept_untimed s)
    ]
kept_untimed (Sublistᴰ.cons-cons {a} {b} {l₁} {l₂} p s) =
    let rest = kept_untimed s in
    rw p
    (elim (cases_Bool (has_message b.bytes)) [
      | inl e ↦ rw e (Sublistᴰ.cons-cons refl rest)
      | inr e ↦ rw e rest
    ])

pub posted_all : (before new after : List Parcel) → after ≡ before ++ new → Posted before new after
posted_all before new after e = record { kept = before; some = kept_all before; is = e }

pub posted_none : (ps : List Parcel) → Posted ps [] ps
posted_none ps = posted_all ps [] ps (sym (append-nil ps))

-- a post below with the reading in front is a post of the rest
pub posted_untimed : (before after : List Parcel) (n reading : ℕ) (bs : List ℕ) (r : Result (Unit {0}) Refusal) → 1 ≤ length bs → Posted before (taken r (parcel n (eight reading ++ bs))) after → Posted (untimed before) (taken r (parcel n bs)) (untimed after)
posted_untimed before after n reading bs r h p =
    let new : untimed (taken r (parcel n (eight reading ++ bs))) ≡ taken r (parcel n bs) = grind (arith, nat_tests) in
    record { kept = untimed p.kept; some = kept_untimed p.some; is = ap untimed p.is ∙ untimed-append p.kept _ ∙ ap (λ l. untimed p.kept ++ l) new }
