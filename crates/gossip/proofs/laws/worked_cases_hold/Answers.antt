use Rattle.std.proofs.Common.{length, refl, arith}
use Rattle.gossip.proofs.FormatTheorems.{sound_long}
use Rattle.gossip.proofs.Sound.{parts, head_to_parts}
use Rattle.gossip.proofs.Written.{message_fits}
use Rattle.gossip.proofs.laws.worked_cases_hold.Goals as goal

pub returns : goal.returns
returns c = record {
  ordered = (refl, refl);
  incomparable = (refl, refl);
  together = refl;
  union = refl;
  larger = refl;
  length_of = sound_long;
  at_most = λ k m s. let p = parts m s in omega (arith, sound_long k m s, message_fits m.head.n (length m.entries) (head_to_parts m.head p.head).most p.few);
  shortest = refl;
  longest = refl;
}
