use Rattle.replica.specs.declared.refusal.Refusal.TheVariants.{Time}
use Rattle.std.proofs.Common.{◌≡◌, ◌-◌, length, take, Ok, sym, refl, ap, ◌∙◌, arith}
use Rattle.std.proofs.lemmas.Bool.{le-leb, lt-leb}
use Rattle.gossip.proofs.Unless.{passed, failed}
use Rattle.table.specs.Entries as entries
use Rattle.table.specs.Entries.{removable}
use Rattle.replica.specs.Answers.{swept}
use Rattle.replica.specs.Contents.{memory}
use Rattle.replica.specs.Memories.{sound_memory}
use Rattle.replica.specs.Steps.{step, swept_of}
use Rattle.replica.proofs.MemoriesKept.{swept-sound}
use Rattle.replica.proofs.Taken.{same_memory, refused, took}
use Rattle.replica.proofs.replica.Replica.sweep.Goals as goal

pub returns-then-reading-gt-LATEST : goal.returns-then-reading-gt-LATEST
unfolding step
returns-then-reading-gt-LATEST c = record { step = λ k. refused _ _ Time _ (failed _ Time _ (lt-leb _ _ c.if-reading-gt-LATEST.true)) refl refl }

-- what the table's sweep leaves, at the rule's clock and grace
pub invariant_of-self : goal.invariant_of-self
unfolding memory
invariant_of-self c =
    let r = c.args.self.now in
    let clock = c.max-clock.ensures in
    let grace = c.from.ensures in
    let whole : r.membership.n - 0 ≡ r.membership.n = omega arith in
    let entries = c.sweep-removed.ensures.after ∙ (λ i. entries.swept (grace i) (clock i) (take (whole i) r.rows) r.table) in
    record { sound = ap (sound_memory r.membership) (same_memory {s = r.timestamp} {rs = r.rows} clock refl entries refl) ∙ swept-sound r.membership (memory r) c.args.reading r.sound (le-leb _ _ c.if-reading-gt-LATEST.false) }

pub returns : goal.returns
unfolding memory step
returns c =
    let r = c.args.self.now in
    let clock = c.max-clock.ensures in
    let grace = c.from.ensures in
    let whole : r.membership.n - 0 ≡ r.membership.n = omega arith in
    let entries = c.sweep-removed.ensures.after ∙ (λ i. entries.swept (grace i) (clock i) (take (whole i) r.rows) r.table) in
    let removed = c.sweep-removed.ensures.answer ∙ (λ i. length (removable (grace i) (clock i) (take (whole i) r.rows) r.table)) in
    record {
      step = λ k. took _ _ (swept c.sweep-removed.result) (swept_of r.membership (memory r) c.args.reading) _
          (passed _ Time _ _ (le-leb _ _ c.if-reading-gt-LATEST.false) (ap (λ n. Ok (record { answer = swept n; memory = swept_of r.membership (memory r) c.args.reading })) (sym removed)))
          (same_memory clock refl entries refl) refl;
    }
