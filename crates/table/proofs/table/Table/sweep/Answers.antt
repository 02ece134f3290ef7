use Rattle.std.proofs.Common.{◌≡◌, not, rules, ap, length, arith}
use Rattle.std.proofs.lemmas.Fn.{filter_same}
use Rattle.table.specs.Entries.{expired, swept}
use Rattle.table.proofs.Sweeps.{sorted-swept, length-swept}
use Rattle.table.proofs.table.Table.sweep.Goals as goal

-- the closure keeps what has not expired
kept : (c : goal.After-len) → c.retain.new.self.items ≡ swept c.args.grace c.args.clock c.args.rows.now c.self.inside.entries.items
kept c = filter_same _ (λ e. not (expired c.args.grace c.args.clock c.args.rows.now e.state)) _ (λ e b f called. search rules) _ _ c.retain.ensures.filtered

pub invariant_of-self : goal.invariant_of-self
invariant_of-self c = record {
  sorted = rw (kept c) (sorted-swept c.args.grace c.args.clock c.args.rows.now _ c.self.invariant.sorted);
  room = omega (arith, c.self.invariant.room, c.retain.ensures.capacity);
}

pub returns : goal.returns
returns c = rw (← c.self.view_is) (record {
  answer = omega (arith, ap length (kept c), length-swept c.args.grace c.args.clock c.args.rows.now c.self.inside.entries.items);
  after = kept c;
  sorted = rw (kept c) (sorted-swept c.args.grace c.args.clock c.args.rows.now _ c.self.invariant.sorted);
})
