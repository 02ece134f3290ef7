use Rattle.std.proofs.Common.{◌≡◌, true, take, drop}
use Rattle.std.specs.List.{list_all}
use Rattle.gossip.specs.Messages.{wide_timestamp}
use Rattle.gossip.specs.Timestamps.{under}
use Rattle.checkpoint.proofs.checkpoint.building.rows_hold.Given as goal

abbrev pub invariant-loop-row : goal.invariant-loop-row
invariant-loop-row l = record {
  under : list_all (λ row. under row.parts l.top.parts) (drop l.row-index l.rows) ≡ list_all (λ row. under row.parts l.top.parts) l.rows;
  wide : wide_timestamp l.top ≡ true → list_all wide_timestamp (take l.row-index l.rows) ≡ true;
}
