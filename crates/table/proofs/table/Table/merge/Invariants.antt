use Rattle.std.proofs.Common.{◌≡◌, true, drop}
use Rattle.gossip.specs.Messages.{rises, seats}
use Rattle.table.specs.Entries.{merge}
use Rattle.table.proofs.table.Table.merge.Given as goal

-- the entries that are left make the rest of the merge
abbrev pub invariant-loop-entry : goal.invariant-loop-entry
invariant-loop-entry g l = let join = g.L.Lattice.kind.join in
    record {
      rest : merge join l.self (drop l.entry-index l.entries) ≡ merge join l.initial.self l.entries;
      rising : rises (seats l.self) ≡ true;
    }
