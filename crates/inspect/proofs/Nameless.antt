-- A message that names another kind than the one that it is read as.
use Rattle.std.proofs.Common.{◌≡◌, ℕ, Bool, true, false, cond, ◌&&◌, eqb, leb, List, length, get_or, Err, Result, refl, ap}
use Rattle.std.proofs.lemmas.Bool.{ne_eqb}
use Rattle.gossip.specs.Format.{decode, decode_head}
use Rattle.gossip.specs.Lattices.{Kind}
use Rattle.gossip.specs.Refusals.{unless, and_then}
use Rattle.gossip.specs.declared.refusal.Refusal.{Refusal}
use Rattle.gossip.specs.declared.refusal.Refusal.TheVariants.{Short, Form, Origin}
use Rattle.inspect.specs.Kinds.{nameless}

-- a chain of tests whose third fails
third : {X Y : Type 0} (f : X → Result Y Refusal) (rest : Result X Refusal) (a b c d : Bool) → c ≡ false
    → and_then (unless a Short (unless b Form (unless (c && d) Origin rest))) f ≡ unless a Short (unless b Form (Err Origin))
third f rest true true c d e = ap (λ t. and_then (cond (t && d) rest (Err Origin)) f) e
third f rest true false c d e = refl
third f rest false b c d e = refl

pub refused_nameless : (k : Kind) (b : List ℕ) → (get_or b 1 0 ≡ k.number → ⊥) → decode k b ≡ nameless b
unfolding decode decode_head
refused_nameless k b h = third _ _ (leb 24 (length b)) (eqb (get_or b 0 0) 1) (eqb (get_or b 1 0) k.number) _ (ne_eqb (get_or b 1 0) k.number h)
