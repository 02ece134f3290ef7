use Rattle.std.proofs.Common.{◌≡◌, true, is_ok, sym, refl, arith}
use Rattle.std.proofs.lemmas.Bool.Decides.{nat_tests}
use Rattle.table.specs.Entries.{put, fits}
use Rattle.table.specs.Tables.{IsPlace, IsGap}
use Rattle.table.proofs.Puts.{fits-found, fits-new, sorted-put}
use Rattle.table.proofs.Places.{found, put-held, sorted-set, find-gap, put-gap}
use Rattle.table.proofs.table.Table.put.Goals as goal

-- another state for the entry that is there
pub invariant_of-self : goal.invariant_of-self
invariant_of-self c = record { sorted = sorted-set _ c.self.invariant.sorted _ c.index_mut.result.now _ c.index_mut.ensures.value; room = c.self.invariant.room }

pub returns-in-Ok : goal.returns-in-Ok
returns-in-Ok c =
    let es = c.self.inside.entries.items in
    let s = c.self.invariant.sorted in
    let at : IsPlace es c.args.seat c.in-Ok.place = rw c.self.view_is c.in-Ok.ensures.found in
    let there = found es s _ _ at c.index_mut.result.now c.index_mut.ensures.value in
    rw (← c.self.view_is) (record {
      answer = sym (fits-found es s _ c.args.state there);
      after = put-held es s _ _ at c.index_mut.result.now c.index_mut.ensures.value c.args.state;
      sorted = sorted-set es s _ c.index_mut.result.now _ c.index_mut.ensures.value;
    })

-- no room for one more
pub returns-then-len-ge-ENTRIES : goal.returns-then-len-ge-ENTRIES
returns-then-len-ge-ENTRIES c =
    let es = c.self.inside.entries.items in
    let gap : IsGap es c.args.seat c.in-Err.place = rw c.self.view_is c.in-Err.ensures.absent in
    rw (← c.self.view_is) (record {
      answer = grind (arith, nat_tests, fits-new es c.self.invariant.sorted _ c.args.state (find-gap es _ _ gap), c.self.inside.entries.ok.0);
      after = refl;
      sorted = c.self.invariant.sorted;
    })

-- an entry in the gap, for which there is room, and memory
added : (c : goal.After-insert)
    → let es = c.self.inside.entries.items in
    (c.insert.new.self.items ≡ put es c.args.seat c.args.state) × (fits (put es c.args.seat c.args.state) ≡ true)
added c =
    let es = c.self.inside.entries.items in
    let gap : IsGap es c.args.seat c.in-Err.place = rw c.self.view_is c.in-Err.ensures.absent in
    let ok : is_ok c.insert.result ≡ true = c.insert.ensures.succeeds (omega (arith, c.self.invariant.room)) in
    (rw (c.insert.ensures.items, ok) (put-gap es _ _ _ gap), grind (arith, nat_tests, fits-new es c.self.invariant.sorted _ c.args.state (find-gap es _ _ gap), c.self.inside.entries.ok.0))

pub invariant_of-self-in-Err : goal.invariant_of-self-in-Err
invariant_of-self-in-Err c =
    let a = added c in
    record { sorted = rw a.0 (sorted-put _ c.self.invariant.sorted _ _ a.1); room = omega (arith, c.self.invariant.room, c.insert.ensures.capacity) }

pub returns-else-len-ge-ENTRIES : goal.returns-else-len-ge-ENTRIES
returns-else-len-ge-ENTRIES c = let a = added c in rw (← c.self.view_is) (record { answer = sym a.1; after = a.0; sorted = rw a.0 (sorted-put _ c.self.invariant.sorted _ _ a.1) })
