use Rattle.std.proofs.Common.{◌≡◌, ℕ, true, List, IfOk, Ok, Err, Result, sym, ◌∙◌}
use Rattle.std.proofs.lemmas.Result.{err_from_is_err_and}
use Rattle.gossip.specs.Format.{decode, encode}
use Rattle.gossip.specs.Lattices.{Kind}
use Rattle.gossip.specs.Messages.{Message, of_kind}
use Rattle.gossip.specs.Numbers.{Bytes}
use Rattle.gossip.specs.declared.refusal.Refusal.{Refusal}
use Rattle.gossip.proofs.FormatTheorems.{sole_spelling, reads_sound}
use Rattle.gossip.proofs.Reading.{entries_are_few, entries_are_whole, refused_head, with-head}
use Rattle.gossip.proofs.message.Gossip.read.Goals as goal

-- what the theorems say of a message that was read
module _ (k : Kind) (b : List ℕ) (bytes : Bytes b) where
  spelled : (r : Result Message Refusal) → r ≡ decode k b → IfOk r (λ m. b ≡ encode k m)
  spelled (Ok m) e = sole_spelling k b m bytes (sym e)
  spelled (Err x) e = tt

  of_kind_lem : (r : Result Message Refusal) → r ≡ decode k b → IfOk r (λ m. of_kind k m ≡ true)
  of_kind_lem (Ok m) e = (reads_sound k b m bytes (sym e)).1
  of_kind_lem (Err x) e = tt

pub read_entries-requires-clause-few : goal.read_entries-requires-clause-few
read_entries-requires-clause-few g c = entries_are_few c.in_ok-head.head.n _ c.args.bytes.now c.in_ok-head.ensures.long c.in_ok-head.ensures.few

pub read_entries-requires-clause-whole : goal.read_entries-requires-clause-whole
read_entries-requires-clause-whole g c = entries_are_whole c.in_ok-head.head.n _ c.args.bytes.now c.in_ok-head.ensures.long

pub returns-in_err-head : goal.returns-in_err-head
returns-in_err-head g c =
    let p = err_from_is_err_and c.from_residual.result c.from_residual.ensures.1 in
    rw (p.1, p.2) (record { answer = refused_head _ _ _ c.in_err-head.ensures.answer; spelling = tt; kind = tt })

pub returns : goal.returns
returns g c =
    let k = g.L.Lattice.kind in
    let b = c.args.bytes.now in
    let h = c.in_ok-head.ensures in
    let a = c.read_entries.ensures ∙ with-head k b c.in_ok-head.head h.answer h.long in
    let bytes : Bytes b = λ i. (c.type_inv.bytes i).fits in
    record { answer = a; spelling = spelled k b bytes c.read_entries.result a; kind = of_kind_lem k b bytes c.read_entries.result a }
