-- Kinds of values: join semilattices over 64-bit codes.
--
-- Kind    a kind as data: its number, which codes are values, and the join of two values
-- Laws k  the number is a byte, values have 64 bits, and joining values of the kind k is closed, commutative, associative and idempotent
-- counts  kind 1: 0 to 4,294,967,295, joined to the larger
-- ports   kind 2: 0 to 65,535, one bit a port, joined to the union
use Rattle.std.specs.Prelude.{◌≡◌, ℕ, ◌^◌, ◌<◌, max, Bool, true, bit_or, nat_le}

pub record Kind : Type 0 where
  pub number : ℕ
  pub valid : ℕ → Bool
  pub join : ℕ → ℕ → ℕ

pub record Laws (k : Kind) : Type 0 where
  pub byte : k.number < 2 ^ 8
  pub word : (a : ℕ) → k.valid a ≡ true → a < 2 ^ 64
  pub closed : (a b : ℕ) → k.valid a ≡ true → k.valid b ≡ true → k.valid (k.join a b) ≡ true
  pub commutes : (a b : ℕ) → k.valid a ≡ true → k.valid b ≡ true → k.join a b ≡ k.join b a
  pub associates : (a b c : ℕ) → k.valid a ≡ true → k.valid b ≡ true → k.valid c ≡ true → k.join (k.join a b) c ≡ k.join a (k.join b c)
  pub repeats : (a : ℕ) → k.valid a ≡ true → k.join a a ≡ a

abbrev pub counts : Kind
counts = record { number = 1; valid = λ a. nat_le a 4294967295; join = max }

abbrev pub ports : Kind
ports = record { number = 2; valid = λ a. nat_le a 65535; join = bit_or }
