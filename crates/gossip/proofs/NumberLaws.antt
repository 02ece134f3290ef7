-- Laws of little-endian numbers, over the width.
use Rattle.std.proofs.Common.{◌≡◌, ℕ, zero, suc, ◌+◌, ◌*◌, ◌/◌, ◌%◌, ◌^◌, ◌<◌, ◌≤◌, List, [], ◌∷◌, ◌++◌, length, get_or, take, drop, sym, refl, ap, ◌∙◌, mul-le-mul_right, suc-mul, add_comm, pow-suc, zero-mul, add-one, arith, length-take, get_or-drop, drop-cons, drop-drop, length-append, take_at, drop_at}
use Rattle.std.proofs.lemmas.List.{get_or-map}
use native.Mathlib.Nat.{pow-le-pow_right}
use Rattle.std.proofs.Math.Nat.{add-div_left, div-eq_of_lt, mul-div_left}
use lib.ListN.{length-map}
use Rattle.std.specs.List.{AllByRecursion as All}
use Rattle.gossip.specs.Numbers.{number, bytes, field, pieces, whole_pieces, counters, Bytes}

pub bytes_tail : (x : ℕ) (b : List ℕ) → Bytes (x ∷ b) → Bytes b
bytes_tail x b h i = h (suc i)

pub bytes_drop : (k : ℕ) (b : List ℕ) → Bytes b → Bytes (drop k b)
bytes_drop k b h i = rw get_or-drop (h (k + i))

pub number_lt : (b : List ℕ) → Bytes b → number b < 256 ^ length b
unfolding number
number_lt [] h = omega arith
number_lt (x ∷ b) h =
    let p : x < 256 = h 0 in
    let q : number b < 256 ^ length b = number_lt b (bytes_tail x b h) in
    let e : 256 ^ suc (length b) ≡ 256 ^ length b * 256 = pow-suc 256 (length b) in
    omega arith

pub length-bytes : (k n : ℕ) → length (bytes k n) ≡ k
unfolding bytes
length-bytes zero n = refl
length-bytes (suc k) n = ap suc (length-bytes k (n / 256))

-- read what was written
pub number-bytes : (k n : ℕ) → n < 256 ^ k → number (bytes k n) ≡ n
unfolding number bytes
number-bytes zero n h = omega arith
number-bytes (suc k) n h =
    let e : 256 ^ suc k ≡ 256 ^ k * 256 = pow-suc 256 k in
    let q : n / 256 < 256 ^ k = omega arith in
    let r : number (bytes k (n / 256)) ≡ n / 256 = number-bytes k (n / 256) q in
    omega arith

-- write what was read
pub bytes-number : (b : List ℕ) → Bytes b → bytes (length b) (number b) ≡ b
unfolding number bytes
bytes-number [] h = refl
bytes-number (x ∷ b) h =
    let p : x < 256 = h 0 in
    let m : (x + 256 * number b) % 256 ≡ x = omega arith in
    let d : (x + 256 * number b) / 256 ≡ number b = omega arith in
    rw (m, d) (ap (λ t. x ∷ t) (bytes-number b (bytes_tail x b h)))

pub number_small : (b : List ℕ) (k : ℕ) → Bytes b → length b ≤ k → number b < 256 ^ k
number_small b k h l =
    let p : number b < 256 ^ length b = number_lt b h in
    let q : 256 ^ length b ≤ 256 ^ k = pow-le-pow_right {n = 256} (omega arith) l in
    omega arith

pub bytes_take : (k : ℕ) (b : List ℕ) → Bytes b → Bytes (take k b)
bytes_take zero b h i = omega arith
bytes_take (suc k) [] h i = omega arith
bytes_take (suc k) (x ∷ b) h zero = h 0
bytes_take (suc k) (x ∷ b) h (suc i) = bytes_take k b (bytes_tail x b h) i

pub field_below : (at w k : ℕ) (b : List ℕ) → Bytes b → w ≤ k → field at w b < 256 ^ k
field_below at w k b h v =
    let l : length (take w (drop at b)) ≤ k = simp length-take (omega arith) in
    number_small (take w (drop at b)) k (bytes_take w (drop at b) (bytes_drop at b h)) l

pub field_lt : (at w : ℕ) (b : List ℕ) → Bytes b → field at w b < 256 ^ w
field_lt at w b h = field_below at w w b h (omega arith)

-- a field of one byte is that byte
pub field_one : (at : ℕ) (b : List ℕ) → at < length b → field at 1 b ≡ get_or b at 0
unfolding number
field_one at b h = rw (drop-cons b at 0 h) (omega arith)

-- and one of two bytes has the higher byte behind the lower
pub field_two : (at : ℕ) (b : List ℕ) → suc at < length b → field at 2 b ≡ get_or b at 0 + 256 * get_or b (suc at) 0
unfolding number
field_two at b h =
    let l : at < length b = omega arith in
    rw (drop-cons b at 0 l, drop-cons b (suc at) 0 h) (omega arith)

-- Pieces

pub length-pieces : (s k : ℕ) (b : List ℕ) → length (pieces s k b) ≡ k
unfolding pieces
length-pieces s zero b = refl
length-pieces s (suc k) b = ap suc (length-pieces s k (drop s b))

pub pieces-at : (s k : ℕ) (b : List ℕ) (i : ℕ) (d : List ℕ) → i < k → get_or (pieces s k b) i d ≡ take s (drop (i * s) b)
unfolding pieces
pieces-at s zero b i d h = absurd (omega arith)
pieces-at s (suc k) b zero d h = rw zero-mul
pieces-at s (suc k) b (suc i) d h =
    let e : s + i * s ≡ suc i * s = sym (suc-mul i s ∙ add_comm (i * s) s) in
    pieces-at s k (drop s b) i d (omega arith) ∙ ap (take s) (drop-drop (i * s) s b ∙ ap (λ j. drop j b) e)

pub pieces_more : (s k : ℕ) (b : List ℕ) → pieces s (k + 1) b ≡ pieces s k b ++ take s (drop (k * s) b) ∷ []
unfolding pieces
pieces_more s zero b = rw zero-mul
pieces_more s (suc k) b =
    let e : s + k * s ≡ suc k * s = sym (suc-mul k s ∙ add_comm (k * s) s) in
    let r = pieces_more s k (drop s b) in
    let f : suc k + 1 ≡ suc (k + 1) = omega arith in
    rw f (ap (λ t. take s b ∷ t) (r ∙ ap (λ j. pieces s k (drop s b) ++ take s j ∷ []) (drop-drop (k * s) s b ∙ ap (λ j. drop j b) e)))

-- the pieces of bytes of which a whole piece is the front
pub whole_pieces-append : (s : ℕ) (p b : List ℕ) → 0 < s → length p ≡ s → whole_pieces s (p ++ b) ≡ p ∷ whole_pieces s b
unfolding pieces
whole_pieces-append s p b h l =
    let k : length (p ++ b) / s ≡ suc (length b / s) = simp length-append (ap (λ (j : ℕ). (j + length b) / s) l ∙ add-div_left (length b) h ∙ add-one (length b / s)) in
    rw (k, take_at p b s l, drop_at p b s l)

-- one turn of a loop over them: from r to r', with the piece p
pub whole_pieces-next : (s : ℕ) (r p r' : List ℕ) → 0 < s → r ≡ p ++ r' → length p ≡ s → whole_pieces s r ≡ p ∷ whole_pieces s r'
whole_pieces-next s r p r' h e l = ap (whole_pieces s) e ∙ whole_pieces-append s p r' h l

-- k pieces, and nothing else
pub whole_pieces-count : (s k : ℕ) (b : List ℕ) → 0 < s → length b ≡ k * s → whole_pieces s b ≡ pieces s k b
whole_pieces-count s k b h l = let e : length b / s ≡ k = ap (λ (j : ℕ). j / s) l ∙ mul-div_left k h in ap (λ (j : ℕ). pieces s j b) e

-- fewer bytes than a piece has make none
pub whole_pieces_none : (s : ℕ) (b : List ℕ) → length b < s → whole_pieces s b ≡ []
unfolding pieces
whole_pieces_none s b h = rw (div-eq_of_lt h)

pub length-counters : (k : ℕ) (b : List ℕ) → length (counters k b) ≡ k
length-counters k b = length-map (pieces 4 k b) number ∙ length-pieces 4 k b

pub counter-at : (n : ℕ) (b : List ℕ) (i : ℕ) → i < n → get_or (counters n b) i 0 ≡ field (i * 4) 4 b
counter-at n b i h =
    let l = length-pieces 4 n b in
    get_or-map number (pieces 4 n b) i [] 0 (omega arith) ∙ ap number (pieces-at 4 n b i [] h)

pub four : (xs : List ℕ) → All (λ x. length (bytes 4 x) ≡ 4) xs
four [] = tt
four (x ∷ xs) = (length-bytes 4 x, four xs)

-- piece i of k pieces lies within them
pub piece_within : (i k s : ℕ) → i < k → i * s + s ≤ k * s
piece_within i k s h =
    let e : suc i * s ≡ i * s + s = suc-mul i s in
    let m : suc i * s ≤ k * s = mul-le-mul_right s h in
    omega arith
