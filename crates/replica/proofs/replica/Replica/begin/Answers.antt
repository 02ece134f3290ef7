use Rattle.replica.specs.declared.refusal.Refusal.TheVariants.{Replica, Size}
use Rattle.std.proofs.Common.{◌≡◌, ◌^◌, ◌<◌, replicate, sym, refl, ap, ◌∙◌, rules}
use Rattle.std.proofs.lemmas.Bool.{lt-ltb}
use Rattle.gossip.proofs.Sound.{group_size-parts, origin_whole}
use Rattle.gossip.proofs.Unless.{passed}
use Rattle.checkpoint.specs.Checkpoints.{zero}
use Rattle.replica.specs.Contents.{memory}
use Rattle.replica.specs.Memories.{sound_memory}
use Rattle.replica.proofs.MemoriesKept.{fresh-sound}
use Rattle.replica.proofs.Taken.{of_parts, same_memory}
use Rattle.replica.proofs.replica.Replica.begin.Goals as goal

pub invariant_of-self : goal.invariant_of-self
invariant_of-self c =
    let p = c.args.membership in
    let z : c.zero-zero.result ≡ zero = of_parts _ _ c.zero-zero.ensures.answer in
    let size = group_size-parts p.n (sym c.if-not-is_group_size.ensures.answer) in
    let group : p.group < 2 ^ 32 = search rules in
    record { sound = ap (sound_memory p) (same_memory {c = 0} refl z c.clear.ensures.after (ap (replicate 7) z)) ∙ fresh-sound p (origin_whole _ _ size.0 size.1 c.if-membership.false) (lt-ltb _ _ group) }

pub returns : goal.returns
unfolding memory
returns c =
    let p = c.args.membership in
    let z : c.zero-zero.result ≡ zero = of_parts _ _ c.zero-zero.ensures.answer in
    record {
      answer = sym (passed _ Size _ _ (sym c.if-not-is_group_size.ensures.answer) (passed _ Replica _ _ (lt-ltb _ _ c.if-membership.false) refl));
      after = same_memory refl z c.clear.ensures.after (ap (replicate 7) z);
      member = refl;
    }
