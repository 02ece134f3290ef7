use Rattle.std.proofs.Common.{◌≡◌, ℕ, ◌+◌, ◌≤◌, List, length, drop, is_ok, true, refl, sym, ap, ◌∙◌, arith}
use Rattle.std.proofs.lemmas.Bool.{cond-true}
use Rattle.std.proofs.lemmas.Bool.Decides.{nat_tests}
use Rattle.gossip.specs.Messages.{Message, sound}
use Rattle.gossip.specs.declared.entry.Entry.{Entry}
use Rattle.table.specs.Entries.{merge, fresh}
use Rattle.table.specs.Tables.{Sorted}
use Rattle.table.proofs.Merges.{length-merge, told_entries, merge_more, merge_all, absorbed-fits, rises_absorbed}
use Rattle.table.proofs.table.Table.merge.Goals as goal

-- how many entries there are with those of a message
size : (join : ℕ → ℕ → ℕ) (es : List Entry) (m : Message) (fs : List Entry) → Sorted es → fs ≡ m.entries → sound m ≡ true → length (merge join es fs) ≡ length es + fresh es fs
size join es m fs s e h = length-merge join es fs s.rising (told_entries m fs e h).0

pub returns-then-len-fresh-gt-ENTRIES : goal.returns-then-len-fresh-gt-ENTRIES
returns-then-len-fresh-gt-ENTRIES g c =
    let e = c.entries-entries.ensures.answer in
    let n = size g.L.Lattice.kind.join c.args.self.now c.args.message.now _ c.len.ensures.sorted e c.entries-entries.ensures.sound in
    rw (← e) (record { answer = grind (arith, nat_tests, n); after = refl; sorted = c.len.ensures.sorted })

-- each entry is taken in, since all fit
pub loop-entry-preserved : goal.loop-entry-preserved
loop-entry-preserved g c =
    let j = g.L.Lattice.kind.join in
    let es = c.loop-entry.self in
    let fs = c.entries-entries.result.now in
    let i = c.loop-entry.entry-index in
    let n = size j c.args.self.now c.args.message.now fs c.len.ensures.sorted c.entries-entries.ensures.answer c.entries-entries.ensures.sound in
    let few : length (merge j es (drop i fs)) ≤ 64 = omega (arith, n, ap length c.loop-entry.invariant.rest) in
    let ok : is_ok c.absorb.result ≡ true = c.absorb.ensures.answer ∙ absorbed-fits j es fs i _ c.loop-entry.invariant.rising c.loop-entry-test.true few in
    let new = c.absorb.ensures.after ∙ cond-true _ _ _ ok in
    record {
      rest = merge_more j es fs i _ _ c.loop-entry-test.true new ∙ c.loop-entry.invariant.rest;
      rising = rw new (rises_absorbed j es _ c.loop-entry.invariant.rising);
    }

pub returns : goal.returns
returns g c =
    let j = g.L.Lattice.kind.join in
    let fs = c.entries-entries.result.now in
    let e = c.entries-entries.ensures.answer in
    let n = size j c.args.self.now c.args.message.now fs c.len.ensures.sorted e c.entries-entries.ensures.sound in
    let after = sym (merge_all j c.loop-entry.self fs c.loop-entry.entry-index c.loop-entry-test.false) ∙ c.loop-entry.invariant.rest in
    rw (← e) (record {
      answer = grind (arith, nat_tests, n);
      after = after;
      sorted = record { rising = c.loop-entry.invariant.rising; few = omega (arith, n, ap length after) };
    })
