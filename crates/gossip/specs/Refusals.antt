-- The refusals of this crate, by the numbers that every part of the service gives them.
--
-- number r       a refusal's number
-- cause r        its cause in words
-- shown r        the two as they are printed, a space between them
-- outcome f r    a result as a promise speaks of it: f of what was done, or the refusal
-- unless ok e r  r where the test holds, else the refusal e
-- and_then r f   f of what r gives, or r's refusal
use Rattle.std.specs.Prelude.{ℕ, Bool, cond, List, ◌++◌, Ok, Err, codes, decimal, Result}
use Rattle.gossip.specs.declared.refusal.Refusal.{Refusal}
use Rattle.gossip.specs.declared.refusal.Refusal.TheVariants.{Replica, Full, Parts, Short, Form, Origin, Layout, Clock, Order, Mark}

abbrev pub number : Refusal → ℕ
number Replica = 1
number Full = 7
number Parts = 8
number Short = 20
number Form = 21
number Origin = 22
number Layout = 23
number Clock = 24
number Order = 25
number Mark = 26

abbrev pub cause : Refusal → List ℕ
cause Replica = codes "no such replica"
cause Full = codes "the part is 4294967295 and would rise"
cause Parts = codes "not exactly n parts"
cause Short = codes "under 24 bytes"
cause Form = codes "the form is not 1"
cause Origin = codes "another kind, n outside 1 to 7, or a sender not below n"
cause Layout = codes "a count, an offset or a length other than the format's"
cause Clock = codes "the clock is too large"
cause Order = codes "the seats do not rise"
cause Mark = codes "an entry has another mark or breaks its mark's rule"

abbrev pub shown : Refusal → List ℕ
shown r = decimal (number r) ++ (codes " " ++ cause r)

abbrev pub outcome : {T X E : Type 0} → (T → X) → Result T E → Result X E
outcome f (Ok x) = Ok (f x)
outcome f (Err e) = Err e

abbrev pub unless : {X E : Type 0} → Bool → E → Result X E → Result X E
unless ok e r = cond ok r (Err e)

abbrev pub and_then : {X Y E : Type 0} → Result X E → (X → Result Y E) → Result Y E
and_then (Ok x) f = f x
and_then (Err e) f = Err e
