-- A chain of tests that refuses at the first that fails.
use Rattle.std.proofs.Common.{◌≡◌, Bool, true, false, Ok, Err, Result, refl, arith}
use Rattle.gossip.specs.Refusals.{unless, and_then}

-- a test that holds leaves the rest
pub passed : {X E : Type 0} (ok : Bool) (e : E) (r x : Result X E) → ok ≡ true → r ≡ x → unless ok e r ≡ x
passed ok e r x t q = rw t q

-- a test that fails refuses
pub failed : {X E : Type 0} (ok : Bool) (e : E) (r : Result X E) → ok ≡ false → unless ok e r ≡ Err e
failed ok e r t = rw t

-- what is not refused passed the test
pub unless_ok : {X E : Type 0} (ok : Bool) (e : E) (r : Result X E) (x : X) → unless ok e r ≡ Ok x → (ok ≡ true) × (r ≡ Ok x)
unless_ok true e r x q = (refl, q)
unless_ok false e r x q = absurd (grind arith)

-- what is not refused comes of what the first part gave
pub and_then_ok : {X Y E : Type 0} (r : Result X E) (f : X → Result Y E) (y : Y) → and_then r f ≡ Ok y → (x : X) × (r ≡ Ok x) × (f x ≡ Ok y)
and_then_ok (Ok x) f y q = (x, refl, q)
and_then_ok (Err e) f y q = absurd (grind arith)
