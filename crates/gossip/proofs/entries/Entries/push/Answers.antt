use Rattle.std.proofs.Common.{◌≡◌, ℕ, suc, ◌+◌, ◌-◌, ◌<◌, ◌∷◌, length, get_or, drop, replicate, ap, sym, ◌∙◌, arith, length-set, length-take-le}
use Rattle.std.proofs.lemmas.List.{drop_more, drop-set-lt}
use Rattle.gossip.specs.Blanks.{blank}
use Rattle.gossip.proofs.entries.Entries.push.Goals as goal

pub invariant_of-self : goal.invariant_of-self
invariant_of-self c =
    let p = c.self.inside.places in
    let n = c.self.inside.count in
    let few : n < 64 = omega (arith, length-take-le n p (omega arith), ap length c.self.view_is) in
    let k : 64 - n ≡ suc (64 - (n + 1)) = omega arith in
    let blanks : get_or p n blank ∷ drop (n + 1) p ≡ replicate (suc (64 - (n + 1))) blank
    = sym (drop_more p n blank (omega arith)) ∙ c.self.invariant.2 ∙ ap (λ (j : ℕ). replicate j blank) k in
    let rest : drop (n + 1) p ≡ replicate (64 - (n + 1)) blank = cc in
    let here : n < n + 1 = omega arith in
    (omega arith, simp length-set c.self.invariant.1, drop-set-lt (n + 1) p n c.args.entry here ∙ rest)
