-- Timestamps of one length compare as they do once they are filled up with zeros.
use Rattle.std.proofs.Common.{◌≡◌, ℕ, ◌-◌, ◌&&◌, leb, List, [], ◌∷◌, ◌++◌, length, replicate, sym, refl, ap, ◌∙◌, length-append, arith}
use Rattle.std.proofs.lemmas.Bool.{eq-eqb}
use Rattle.std.proofs.lemmas.List.{length-replicate}
use Rattle.gossip.specs.Timestamps.{under, padded}
use Rattle.gossip.specs.Comparing.{compared, ordered}
use Rattle.gossip.specs.UnderLemmas.{under_refl}
use Rattle.gossip.proofs.Bools.{and_assoc, and_true}

-- two parts each, compared one behind the other
under-append : (s t x y : List ℕ) → length s ≡ length t → under (s ++ x) (t ++ y) ≡ (under s t && under x y)
under-append [] [] x y l = refl
under-append [] (b ∷ t) x y l = absurd (omega arith)
under-append (a ∷ s) [] x y l = absurd (omega arith)
under-append (a ∷ s) (b ∷ t) x y l = ap (λ r. leb a b && r) (under-append s t x y (omega arith)) ∙ sym (and_assoc (leb a b) _ _)

pub under-padded : (s t : List ℕ) → length s ≡ length t → under (padded s) (padded t) ≡ under s t
under-padded s t l =
    under-append s t _ _ l
    ∙ ap (λ k. under s t && under (replicate (7 - length s) 0) (replicate (7 - k) 0)) (sym l)
    ∙ ap (λ b. under s t && b) (under_refl (replicate (7 - length s) 0))
    ∙ and_true (under s t)

-- and so have the same order
pub compared-padded : (s t : List ℕ) → length s ≡ length t → compared (record { parts = padded s }) (record { parts = padded t }) ≡ ordered (under s t) (under t s)
compared-padded s t l =
    let k : length (padded s) ≡ length (padded t) = simp (length-append, length-replicate) (omega arith) in
    rw (eq-eqb _ _ k, under-padded s t l, under-padded t s (sym l))
