use Rattle.std.proofs.Common.{◌≤◌, length, sym, rules}
use Rattle.std.proofs.lemmas.List.{take_all}
use Rattle.gossip.proofs.timestamp.Timestamp.prefix.Goals as goal

pub returns-else-n-lt-MOST : goal.returns-else-n-lt-MOST
returns-else-n-lt-MOST c =
    let h : length c.args.self.now.parts ≤ c.args.n = search rules in
    record { answer = sym (take_all c.args.n c.args.self.now.parts h) }
