-- What a store means: the bytes saved for each number 0 to 6, [] where nothing is saved.
--
-- Places saved           there are seven, each of at most 3320 bytes
-- save_answer k n        the answer to a call to save n bytes for the number k
-- load_answer k n saved  the answer to a call to load the bytes saved for the number k into a buffer of n bytes
-- fronted saved buffer   a buffer with these bytes at its front, whose rest stays
use Rattle.std.specs.Prelude.{◌≡◌, ℕ, ◌≤◌, cond, ◌&&◌, List, [], ◌++◌, length, drop, Ok, Err, Result, nat_le, slice_index_or}
use Rattle.storage.specs.declared.refusals.Refusal.{Refusal}
use Rattle.storage.specs.declared.refusals.Refusal.TheVariants.{Number, Length, Room}

pub record Places (saved : List (List ℕ)) : Type 0 where
  pub seven : length saved ≡ 7
  pub short : (k : ℕ) → length (slice_index_or saved k []) ≤ 3320

abbrev pub save_answer : ℕ → ℕ → Result (Unit {0}) Refusal
save_answer k n = cond (nat_le k 6) (cond (nat_le 1 n && nat_le n 3320) (Ok tt) (Err Length)) (Err Number)

abbrev pub load_answer : ℕ → ℕ → List ℕ → Result ℕ Refusal
load_answer k n saved = cond (nat_le k 6) (cond (nat_le 3320 n) (Ok (length saved)) (Err Room)) (Err Number)

abbrev pub fronted : List ℕ → List ℕ → List ℕ
fronted saved buffer = saved ++ drop (length saved) buffer
