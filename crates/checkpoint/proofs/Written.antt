-- A checkpoint that is written in steps: its message, and behind it its rows.
use Rattle.std.proofs.Common.{◌≡◌, ℕ, ◌-◌, ◌≤◌, List, length, take, ap, ◌∙◌, arith}
use native.Mathlib.Nat.{sub-zero}
use borrow.Rule.Slice.PartMut.{mid_of}
use Rattle.gossip.specs.Format.{encode, encode_timestamp}
use Rattle.gossip.specs.Lattices.{Kind}
use Rattle.gossip.specs.Numbers.{joined, put_at}
use Rattle.gossip.proofs.Puts.{put_then}
use Rattle.checkpoint.specs.Checkpoints.{Saved}
use Rattle.checkpoint.specs.Format.{encode_saved}

-- a part from the start, as the checker reads it
pub front_mid : {X : Type 0} (xs : List X) (n k : ℕ) → n ≡ k → mid_of 0 (n - 0) xs ≡ take k xs
front_mid xs n k e = ap (λ j. mid_of 0 j xs) (sub-zero n ∙ e)

-- rows that are written where the message ends make it the checkpoint
pub saved_written : (k : Kind) (c : Saved) (at : ℕ) (o o₁ o₂ : List ℕ) → at ≡ length (encode k c.message) → at ≤ length o → o₁ ≡ put_at 0 (encode k c.message) o
    → o₂ ≡ put_at at (joined (encode_timestamp c.message.head.n) (take c.message.head.n c.rows)) o₁ → o₂ ≡ put_at 0 (encode_saved k c) o
unfolding encode_saved
saved_written k c at o o₁ o₂ l b p q = put_then 0 at (encode k c.message) _ o o₁ o₂ (omega arith) b p q
