-- The standard library's numbers in bytes are those of the format.
use Rattle.std.proofs.Common.{◌≡◌, ℕ, zero, suc, ◌-◌, ◌/◌, ◌%◌, ◌^◌, ◌≤◌, List, [], ◌∷◌, ◌++◌, length, replicate, w16, w32, w64, sym, refl, ap, ap₂, ◌∙◌, pow-suc, arith}
use Rattle.std.proofs.Math.Nat.{div-div-eq-div-mul}
use Rattle.std.specs.Int.{byte_at, bytes_low_first, to_le_bytes, from_le_bytes}
use Rattle.gossip.specs.Numbers.{number, bytes}

byte_at-is : (i n : ℕ) → byte_at i n ≡ (n / 256 ^ i) % 256
byte_at-is zero n = let e : n / 256 ^ 0 ≡ n = omega arith in sym (ap (λ m. m % 256) e)
byte_at-is (suc i) n = refl

low_bytes : (i k n : ℕ) → bytes_low_first i k n ≡ bytes k (n / 256 ^ i)
unfolding bytes
low_bytes i zero n = refl
low_bytes i (suc k) n =
    let next : n / 256 ^ suc i ≡ n / 256 ^ i / 256 = ap (λ m. n / m) (pow-suc 256 i) ∙ sym (div-div-eq-div-mul n (256 ^ i) 256) in
    ap₂ (λ b bs. b ∷ bs) (byte_at-is i n) (low_bytes (suc i) k n ∙ ap (bytes k) next)

whole : (n : ℕ) → n / 256 ^ 0 ≡ n
whole n = omega arith

pub le_bytes_two : (n : ℕ) → to_le_bytes w16 n ≡ bytes 2 n
le_bytes_two n = low_bytes 0 2 n ∙ ap (bytes 2) (whole n)

pub le_bytes_four : (n : ℕ) → to_le_bytes w32 n ≡ bytes 4 n
le_bytes_four n = low_bytes 0 4 n ∙ ap (bytes 4) (whole n)

pub le_bytes_eight : (n : ℕ) → to_le_bytes w64 n ≡ bytes 8 n
le_bytes_eight n = low_bytes 0 8 n ∙ ap (bytes 8) (whole n)

-- at most eight bytes, with zeros behind them, are read as their number
pub from_le_bytes_padded : (b : List ℕ) → length b ≤ 8 → from_le_bytes w64 (b ++ replicate (8 - length b) 0) ≡ number b
unfolding number
from_le_bytes_padded [] l = omega arith
from_le_bytes_padded (a ∷ []) l = omega arith
from_le_bytes_padded (a ∷ (b ∷ [])) l = omega arith
from_le_bytes_padded (a ∷ (b ∷ (c ∷ []))) l = omega arith
from_le_bytes_padded (a ∷ (b ∷ (c ∷ (d ∷ [])))) l = omega arith
from_le_bytes_padded (a ∷ (b ∷ (c ∷ (d ∷ (e ∷ []))))) l = omega arith
from_le_bytes_padded (a ∷ (b ∷ (c ∷ (d ∷ (e ∷ (f ∷ [])))))) l = omega arith
from_le_bytes_padded (a ∷ (b ∷ (c ∷ (d ∷ (e ∷ (f ∷ (g ∷ []))))))) l = omega arith
from_le_bytes_padded (a ∷ (b ∷ (c ∷ (d ∷ (e ∷ (f ∷ (g ∷ (h ∷ [])))))))) l = omega arith
from_le_bytes_padded (a ∷ (b ∷ (c ∷ (d ∷ (e ∷ (f ∷ (g ∷ (h ∷ (i ∷ r))))))))) l = absurd (omega arith)
