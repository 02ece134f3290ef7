use Rattle.std.proofs.Common.{List, length, get_or, slice_get, sym, ap, ◌∙◌, arith}
use Rattle.std.proofs.lemmas.List.{take_all}
use Rattle.std.proofs.lemmas.Option.{slice_get-get_or}
use Rattle.gossip.specs.Blanks.{blank}
use Rattle.gossip.specs.declared.entry.Entry.{Entry}
use Rattle.replica.specs.Contents.{memory}
use Rattle.replica.specs.Memories.{message_of}
use Rattle.replica.proofs.Telling.{told_more}
use Rattle.replica.proofs.replica.Replica.message.Goals as goal

pub loop-entry-init : goal.loop-entry-init
unfolding memory
loop-entry-init c = c.opening-message.ensures.answer

pub loop-entry-preserved : goal.loop-entry-preserved
unfolding memory
loop-entry-preserved c =
    let s = c.args.self.now in
    let i = c.loop-entry.entry-index in
    let items = c.entries-entry-items.result.now in
    let next = sym (slice_get-get_or items i blank c.loop-entry-test.true) ∙ ap (λ (es : List Entry). slice_get es i) c.entries-entry-items.ensures.answer in
    told_more s.membership (memory s) s.sound i (get_or items i blank) c.loop-entry.message c.push.new.self next c.loop-entry.invariant c.push.ensures.after

pub returns : goal.returns
unfolding memory
returns c =
    let m = memory c.args.self.now in
    let end = ap length c.entries-entry-items.ensures.answer in
    let all = take_all c.loop-entry.entry-index m.entries (omega (arith, c.loop-entry-test.false, end)) in
    record { answer = c.loop-entry.invariant ∙ ap (λ es. record { head = (message_of c.args.self.now.membership m).head; entries = es }) all }
