use Rattle.std.proofs.Common.{◌≡◌, true, sym, ap, ◌∙◌, subst}
use Rattle.gossip.specs.Messages.{allowed, wide_state}
use Rattle.gossip.specs.declared.entry.State.{State}
use Rattle.gossip.proofs.Sound.{wide_under}
use Rattle.gossip.proofs.message.building.is_allowed.Goals as goal

pub returns-in-Tombstone : goal.returns-in-Tombstone
returns-in-Tombstone c =
    let top = c.args.top.now in
    let e = c.is_covered.ensures.answer in
    record {
      answer = e ∙ ap (allowed top) (sym c.in-Tombstone.is);
      wide = λ r w. subst (λ (s : State). wide_state s ≡ true) (sym c.in-Tombstone.is) (wide_under c.in-Tombstone.time c.in-Tombstone.timestamp top c.is_covered.ensures.alike (sym e ∙ r) w);
    }
