-- Which message a take gives, and that it begins the place.
use Rattle.std.proofs.Common.{◌≡◌, ℕ, ◌-◌, ◌≤◌, List, [], length, get_or, take, drop, Some, None, position, arith}
use Rattle.std.specs.List.{remove, copy_within}
use Rattle.std.proofs.lemmas.List.{drop-take}
use Rattle.std.proofs.lemmas.List.Folds.{find_at}
use Rattle.std.proofs.lemmas.Option.{gets}
use Rattle.std.proofs.lemmas.Bool.Decides.{nat_tests}
use Rattle.std.proofs.lemmas.Grind.{common_steps}
use Rattle.transport.proofs.Posts.{kept_all, kept_remove}
use Rattle.transport.specs.Parcels.{Parcel, is_for, measured, BeginsWith, oldest, without}

module _ (n : ℕ) (ps : List Parcel) where
  -- the oldest for an addressee stands where the first for him does
  pub oldest_at : (i : ℕ) (d : Parcel) → Some i ≡ position (is_for n) ps → (oldest n ps ≡ (get_or ps i d).bytes) × (without n ps ≡ remove ps i)
  oldest_at i d e = (grind (arith, nat_tests, gets, find_at (is_for n) ps), grind (arith, nat_tests))

  -- and there is none where none is for him
  pub oldest_none : None ≡ position (is_for n) ps → (oldest n ps ≡ []) × (without n ps ≡ ps)
  oldest_none e = (grind (arith, nat_tests, gets, find_at (is_for n) ps), grind (arith, nat_tests, common_steps))

pub message_taken : (place bs : List ℕ) (n : ℕ) → Some n ≡ measured bs → BeginsWith place bs → take n place ≡ bs
message_taken place bs n e h = grind (arith, nat_tests)

-- what lies behind eight bytes is moved to the front
pub moved_to_front : (n : ℕ) (bs : List ℕ) → 8 ≤ n → n ≤ length bs → BeginsWith (copy_within bs 8 n 0) (drop 8 (take n bs))
moved_to_front n bs h k = grind (arith, common_steps, drop-take 8 (n - 8) bs)

-- the oldest leaves its place, and no other does
pub ruleset oldest_leaves = (oldest_at, oldest_none, kept_all, kept_remove, common_steps)
