use Rattle.gossip.specs.Kinds.{lattice_of}
use Rattle.inspect.proofs.Nameless.{refused_nameless}
use Rattle.inspect.proofs.kind_of.Goals as goal

pub returns-in-len2-up-clause-nameless : goal.returns-in-len2-up-clause-nameless
returns-in-len2-up-clause-nameless c k = refused_nameless (lattice_of k) c.args.bytes.now

pub returns-in_default-clause-nameless : goal.returns-in_default-clause-nameless
returns-in_default-clause-nameless c k = refused_nameless (lattice_of k) c.args.bytes.now
