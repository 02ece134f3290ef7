use Rattle.std.proofs.Common.{[], ◌∷◌, ◌++◌, sym, ap}
use Rattle.gossip.specs.Messages.{rises, seats}
use Rattle.gossip.proofs.Sound.{rises_last, no_last, parts}
use Rattle.gossip.proofs.message.Gossip.rises_to.Goals as goal

pub returns-in-Some : goal.returns-in-Some
returns-in-Some c =
    let m = c.args.self.now in
    let es = c.entries.ensures.answer in
    let last = rw (c.in-Some.is, c.entries.ensures.answer) at c.last.ensures.value in
    record { answer = rises_last m.entries c.in-Some.last.now c.args.seat last (parts m c.entries.ensures.sound).rising }

pub returns-in-None : goal.returns-in-None
returns-in-None c =
    let m = c.args.self.now in
    let none = rw (c.in-None.is, c.entries.ensures.answer) at c.last.ensures.value in
    record { answer = sym (ap (λ es. rises (seats es ++ c.args.seat ∷ [])) (no_last m.entries none)) }
