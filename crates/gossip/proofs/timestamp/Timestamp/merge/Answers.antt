use Rattle.std.proofs.Common.{◌≡◌, ℕ, max, length, get_or, sym, ◌∙◌, rules}
use Rattle.gossip.proofs.Arrays.{made_list}
use Rattle.gossip.proofs.TimestampSteps.{merged-list}
use Rattle.gossip.proofs.timestamp.Timestamp.merge.Goals as goal

pub returns : goal.returns
returns c =
    let s = c.args.self.now.parts in
    let t = c.args.other.now.parts in
    let l : length c.args.self.now.parts ≡ 7 = search rules in
    let m : length c.args.other.now.parts ≡ 7 = search rules in
    record { after = made_list _ _ (λ (i : ℕ). max (get_or s i 0) (get_or t i 0)) (λ i x q h. search rules) _ 7 0 c.from_fn-self.ensures.items ∙ sym (merged-list s t 7 l m) }
