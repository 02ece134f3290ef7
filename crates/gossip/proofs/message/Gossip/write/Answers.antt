use Rattle.std.proofs.Common.{◌≡◌, true, Ok, ap}
use Rattle.gossip.specs.Messages.{of_kind}
use Rattle.gossip.proofs.message.Gossip.write.Goals as goal

pub returns : goal.returns
returns g c =
    let entries = c.entries.ensures.answer in
    let test = c.if-not-are_of_kind.ensures in
    let kind : of_kind g.L.Lattice.kind c.args.self.now ≡ true = cc in
    record {
      answer = rw kind (ap Ok c.spell.ensures.answer);
      buffer = rw kind c.spell.ensures.buffer;
      back = c.spell.ensures.back kind;
    }
