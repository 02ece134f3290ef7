use Rattle.std.proofs.Common.{◌≡◌, ◌^◌, ◌<◌, [], ◌∷◌, ◌++◌, Ok, sym, refl, ap, arith}
use Rattle.std.proofs.lemmas.Bool.{and_from, lt-ltb}
use Rattle.gossip.specs.Contents.{pushed, after}
use Rattle.gossip.proofs.Sound.{sound_push, parts, head_to_parts}
use Rattle.gossip.proofs.message.Gossip.push.Goals as goal

pub invariant_of-self : goal.invariant_of-self
invariant_of-self c =
    let h = c.self.inside.head in
    let es = c.self.inside.entries in
    let e = c.args.entry in
    let w = (head_to_parts h (parts record { head = h; entries = es } c.self.invariant).head).wide in
    let b : c.args.entry.seat < 2 ^ 64 = omega arith in
    let few = rw (c.entries.ensures.answer, ← c.self.view_is) at c.if-entries-ge-ENTRIES.false in
    let r = rw (← c.self.view_is) at c.if-not-rises_to.ensures.answer in
    let a = c.if-not-is_allowed.ensures in
    rw c.push.ensures (sound_push h es e c.self.invariant few (sym r) (and_from _ _ (lt-ltb _ _ b) (and_from _ _ (a.wide refl w) (sym a.answer))))

pub returns : goal.returns
returns c =
    let h = c.self.inside.head in
    let es = c.self.inside.entries in
    let e = c.args.entry in
    let few = rw (c.entries.ensures.answer, ← c.self.view_is) at c.if-entries-ge-ENTRIES.false in
    let r = rw (← c.self.view_is) at c.if-not-rises_to.ensures.answer in
    let p : pushed (record { head = h; entries = es }) e ≡ Ok record { head = h; entries = es ++ e ∷ [] }
    = rw (lt-ltb _ _ few, ← r, ← c.if-not-is_allowed.ensures.answer) in
    rw (← c.self.view_is, c.push.ensures) (record { answer = sym p; after = sym (ap (λ x. after x (record { head = h; entries = es })) p) })
