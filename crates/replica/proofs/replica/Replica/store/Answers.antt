use Rattle.std.proofs.Common.{◌≡◌, ℕ, ◌<◌, true, set as update, is_ok, Ok, Result, refl, ap, ◌∙◌, arith}
use Rattle.std.proofs.lemmas.Bool.{cond-true}
use Rattle.table.specs.Entries.{put, fits}
use Rattle.table.specs.declared.full.Full.{Full}
use Rattle.gossip.specs.declared.entry.State.{State}
use Rattle.gossip.specs.declared.timestamp.Timestamp.{Timestamp}
use Rattle.replica.specs.Contents.{memory}
use Rattle.replica.specs.Memories.{Memory, sound_memory}
use Rattle.replica.specs.Steps.{raise}
use Rattle.replica.specs.declared.membership.Membership.{Membership}
use Rattle.replica.proofs.Changes.{raise_ok, change-sound}
use Rattle.replica.proofs.MemoriesKept.{memory_parts}
use Rattle.replica.proofs.Taken.{same_memory}
use Rattle.replica.proofs.replica.Replica.store.Goals as goal

-- the replica's number is that of a row
within : (c : goal.After-max-self) → c.args.self.now.membership.replica < 7
unfolding memory
within c = let s = c.args.self.now in let h = memory_parts s.membership (memory s) s.sound in omega (arith, h.member, h.most)

pub offset_bounds-self-self : goal.offset_bounds-self-self
offset_bounds-self-self c = let h = within c in omega arith

pub bounds-self-self : goal.bounds-self-self
bounds-self-self c = within c

-- a put that cannot be refused leaves what the rule says
left : (p : Membership) (m : Memory) (c u : ℕ) (x : State) (s : Timestamp) → raise p m u x ≡ Ok s → (r : Result (Unit {0}) Full) → is_ok r ≡ fits (put m.entries u x) → is_ok r ≡ true
left p m c u x s e r q = q ∙ (raise_ok p m c u x s e).0

pub invariant_of-self : goal.invariant_of-self
unfolding memory
invariant_of-self c =
    let r = c.args.self.now in
    let m = memory r in
    let ok = left r.membership m c.args.reading c.args.seat c.args.state c.args.raised c.requires.raised c.put.result c.put.ensures.answer in
    record {
      sound = ap (sound_memory r.membership) (same_memory {s = c.args.raised} {rs = update r.rows r.membership.replica c.args.raised} c.max-self.ensures refl (c.put.ensures.after ∙ cond-true _ _ _ ok) refl)
          ∙ change-sound r.membership m c.args.reading c.args.seat c.args.state c.args.raised r.sound c.requires.reading c.ranges.seat.fits c.requires.wide c.requires.allowed c.requires.raised;
    }

pub returns : goal.returns
unfolding memory
returns c =
    let r = c.args.self.now in
    let ok = left r.membership (memory r) c.args.reading c.args.seat c.args.state c.args.raised c.requires.raised c.put.result c.put.ensures.answer in
    record { after = same_memory c.max-self.ensures refl (c.put.ensures.after ∙ cond-true _ _ _ ok) refl; kept = refl }
