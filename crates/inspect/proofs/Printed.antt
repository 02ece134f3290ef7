-- Text that a loop writes piece by piece.
use Rattle.std.proofs.Common.{◌≡◌, ℕ, ◌+◌, ◌<◌, true, List, [], length, get_or, take, sym, refl}
use Rattle.std.proofs.Output.{writes_in_calls_nil, has_written_append, has_written_of_eq}
use Rattle.std.specs.Fmt.{IsPlainFormatter, HasWritten, formatter_writer}
use Rattle.std.specs.declared.fmt.Formatter.{Formatter}
use Rattle.gossip.specs.Numbers.{joined}
use Rattle.gossip.proofs.Puts.{joined_push}

module _ {W : Type 0} (took : W → List ℕ → W → Type 0) {X : Type 0} (piece : X → List ℕ) (f : Formatter W) where
  pub prints_none : IsPlainFormatter f → HasWritten took f (joined piece []) f
  unfolding joined
  prints_none p = record { wrote = writes_in_calls_nil took (formatter_writer f); plain = p }

  pub prints_more : (xs : List X) (i : ℕ) (d : X) (g h : Formatter W) → i < length xs
      → (IsPlainFormatter f → HasWritten took f (joined piece (take i xs)) g) → (IsPlainFormatter g → true ≡ true → HasWritten took g (piece (get_or xs i d)) h)
      → IsPlainFormatter f → HasWritten took f (joined piece (take (i + 1) xs)) h
  prints_more xs i d g h l before now plain =
      let x = before plain in
      has_written_of_eq took f _ _ h (sym (joined_push piece xs i d l)) (has_written_append took f _ g _ h x (now x.plain refl))
