use Rattle.std.proofs.Common.{◌≡◌, true, Some, None, Option, sym, ap, ◌∙◌, arith}
use Rattle.std.proofs.lemmas.Grind.{common_steps}
use Rattle.std.proofs.lemmas.Bool.{cond-true, cond-false}
use Rattle.gossip.specs.Timestamps.{under}
use Rattle.gossip.specs.declared.entry.State.{State}
use Rattle.gossip.specs.declared.entry.State.TheVariants.{Value}
use Rattle.gossip.specs.declared.timestamp.Timestamp.{Timestamp}
use Rattle.table.specs.Entries.{find}
use Rattle.replica.specs.Contents.{memory}
use Rattle.replica.specs.Memories.{Memory}
use Rattle.replica.specs.Steps.{lookup, reply}
use Rattle.replica.specs.declared.outcome.Lookup.TheVariants.{Behind}
use Rattle.replica.proofs.replica.Replica.lookup.Goals as goal

-- what is found is replied where the asked timestamp is at or under the replica's
replied : (m : Memory) (u : _) (asked : Timestamp) (o : Option State) → under asked.parts m.timestamp.parts ≡ true → o ≡ find m.entries u → reply m.timestamp o ≡ lookup m u asked
replied m u asked o t e = ap (reply m.timestamp) e ∙ sym (cond-true (under asked.parts m.timestamp.parts) _ Behind t)

pub returns-then-not-is_under : goal.returns-then-not-is_under
unfolding memory
returns-then-not-is_under c =
    let m = memory c.args.self.now in
    record { answer = sym (cond-false (under c.args.asked.now.parts m.timestamp.parts) _ _ (sym c.if-not-is_under.ensures.answer)) }

pub returns-in-Some-Value : goal.returns-in-Some-Value
unfolding memory
returns-in-Some-Value c =
    let m = memory c.args.self.now in
    record { answer = replied m c.args.seat c.args.asked.now (Some (Value c.in-Some-Value.value)) (sym c.if-not-is_under.ensures.answer) (ap Some (sym c.in-Some-Value.field-0-is) ∙ c.in-Some-Value.ensures.answer) }

pub returns-in-Some-Tombstone : goal.returns-in-Some-Tombstone
unfolding memory
returns-in-Some-Tombstone c =
    let m = memory c.args.self.now in
    record { answer = grind (arith, common_steps) }

pub returns-in-Some-Tombstone-2 : goal.returns-in-Some-Tombstone-2
unfolding memory
returns-in-Some-Tombstone-2 c =
    let m = memory c.args.self.now in
    record { answer = replied m c.args.seat c.args.asked.now None (sym c.if-not-is_under.ensures.answer) (grind (arith, common_steps)) }
