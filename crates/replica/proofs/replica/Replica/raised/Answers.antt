use Rattle.gossip.specs.declared.refusal.Refusal.{Refusal}
use Rattle.gossip.specs.declared.refusal.Refusal.TheVariants.{Full as NoMore, Replica as NoReplica}
use Rattle.replica.specs.declared.refusal.Refusal.TheVariants.{Full, Spent}
use Rattle.std.proofs.Common.{◌≡◌, Bool, true, false, ltb, Ok, Err, Result, sym, refl, ap, arith}
use Rattle.std.proofs.lemmas.Bool.{lt-ltb}
use Rattle.gossip.specs.Refusals.{unless}
use Rattle.gossip.specs.Timestamps.{part}
use Rattle.gossip.proofs.Unless.{passed, failed, unless_ok}
use Rattle.replica.specs.Contents.{memory}
use Rattle.replica.proofs.MemoriesKept.{memory_parts}
use Rattle.replica.proofs.Taken.{of_parts}
use Rattle.replica.proofs.replica.Replica.raised.Goals as goal

-- a replica of the group can only be refused for its part
refused_part : (in_group small : Bool) (e : Refusal) → in_group ≡ true → ◌≡◌ {A = Result (Unit {0}) Refusal} (Err e) (unless in_group NoReplica (unless small NoMore (Ok tt))) → small ≡ false
refused_part true true e h q = absurd (cc)
refused_part true false e h q = refl
refused_part false small e h q = absurd (cc)

pub returns-then-not-has_room : goal.returns-then-not-has_room
unfolding memory
returns-then-not-has_room c = record { answer = λ x. sym (failed _ Full _ (sym (c.if-not-has_room.ensures.answer x))) }

pub returns-in_default : goal.returns-in_default
unfolding memory
returns-in_default c =
    let s = c.args.self.now in
    let h = memory_parts s.membership (memory s) s.sound in
    let small = refused_part (ltb s.membership.replica 7) _ _ (lt-ltb _ 7 (omega (arith, h.member, h.most))) c.in_default.ensures.answer in
    record { answer = λ x. sym (passed _ Full _ _ (sym (c.if-not-has_room.ensures.answer x)) (failed _ Spent _ small)) }

pub returns : goal.returns
unfolding memory
returns c =
    let s = c.args.self.now in
    let a = unless_ok (ltb s.membership.replica 7) NoReplica _ _ (sym c.in-Ok.ensures.answer) in
    let b = unless_ok (ltb (part s.timestamp.parts s.membership.replica) 4294967295) NoMore _ _ a.1 in
    let t = of_parts c.bump.new.self _ c.in-Ok.ensures.after in
    record { answer = λ x. sym (passed _ Full _ _ (sym (c.if-not-has_room.ensures.answer x)) (passed _ Spent _ _ b.0 (ap Ok (sym t)))) }
