-- What is proved of timestamps, whatever their lengths: at-or-under is a partial order, and a merge is its least upper bound.
use Rattle.std.specs.Prelude.{◌≡◌, ℕ, ◌≤◌, true, ◌⊎◌, ◌↔◌, List, length, take}
use Rattle.gossip.specs.Timestamps.{under, merged, part, zero_from}

pub record Order : Type 0 where
  pub reflexive : (s : List ℕ) → under s s ≡ true
  pub transitive : (s t u : List ℕ) → under s t ≡ true → under t u ≡ true → under s u ≡ true
  pub antisymmetric : (s t : List ℕ) → length s ≡ length t → under s t ≡ true → under t s ≡ true → s ≡ t
  -- the test means what its name says, part by part
  pub by_parts : (s t : List ℕ) → (under s t ≡ true) ↔ ((p : ℕ) → part s p ≤ part t p)
  -- only the parts that a group uses matter
  pub prefix : (n : ℕ) (s t : List ℕ) → zero_from n s ≡ true → under (take n s) (take n t) ≡ under s t

pub record Join : Type 0 where
  pub left : (s t : List ℕ) → under s (merged s t) ≡ true
  pub right : (s t : List ℕ) → under t (merged s t) ≡ true
  pub least : (s t u : List ℕ) → under s u ≡ true → under t u ≡ true → under (merged s t) u ≡ true
  pub commutes : (s t : List ℕ) → merged s t ≡ merged t s
  pub associates : (s t u : List ℕ) → merged (merged s t) u ≡ merged s (merged t u)
  pub repeats : (s : List ℕ) → merged s s ≡ s
  -- a merge covers a change, the k-th of replica p, exactly when one of the two does
  pub covers : (k : ℕ) (s t : List ℕ) (p : ℕ) → (k ≤ part (merged s t) p) ↔ ((k ≤ part s p) ⊎ (k ≤ part t p))
