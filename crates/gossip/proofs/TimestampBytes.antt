-- Timestamps in bytes: the bytes spell the first n parts, and the parts behind these are 0.
use Rattle.std.proofs.Common.{◌≡◌, ℕ, zero, suc, ◌+◌, ◌-◌, ◌*◌, ◌^◌, ◌≤◌, Bool, true, eqb, ltb, leb, List, [], ◌∷◌, ◌++◌, map, length, take, drop, replicate, sym, refl, ap, ◌∙◌, arith, length-append, length-drop, length-take-le, take_at}
use Rattle.std.specs.List.{list_all}
use lib.ListN.{length-replicate}
use Rattle.std.proofs.lemmas.Bool.{and_parts, and_from, eqb-true, eq-eqb, leb-true, ltb-true, lt-ltb}
use Rattle.gossip.specs.Format.{encode_timestamp, timestamp_at}
use Rattle.gossip.specs.Messages.{wide_timestamp}
use Rattle.gossip.specs.Numbers.{number, bytes, pieces, counters, Bytes}
use Rattle.gossip.specs.Timestamps.{under, padded, zero_from}
use Rattle.gossip.specs.declared.timestamp.Timestamp.{Timestamp}
use Rattle.gossip.proofs.NumberLaws.{number-bytes, bytes_drop, field_lt, four, length-counters}
use Rattle.gossip.proofs.Spelling.{bytes-front, length-joined, pieces-joined, joined-pieces}

-- Zeros behind the first parts

pub zero_from_zeros : (n k : ℕ) → zero_from n (replicate k 0) ≡ true
zero_from_zeros n zero = refl
zero_from_zeros zero (suc k) = zero_from_zeros zero k
zero_from_zeros (suc n) (suc k) = zero_from_zeros n k

zero_from_behind : (s : List ℕ) (k : ℕ) → zero_from (length s) (s ++ replicate k 0) ≡ true
zero_from_behind [] k = zero_from_zeros 0 k
zero_from_behind (x ∷ s) k = zero_from_behind s k

-- what is at or under a timestamp of n replicas is one of n replicas
pub zero_from-under : (n : ℕ) (s t : List ℕ) → under s t ≡ true → zero_from n t ≡ true → zero_from n s ≡ true
zero_from-under n [] t u z = refl
zero_from-under zero (x ∷ s) [] u z =
    let a = and_parts (leb x 0) (under s []) u in
    let l = leb-true x 0 a.0 in
    and_from _ _ (eq-eqb x 0 (omega arith)) (zero_from-under zero s [] a.1 refl)
zero_from-under (suc n) (x ∷ s) [] u z = zero_from-under n s [] (and_parts (leb x 0) (under s []) u).1 refl
zero_from-under zero (x ∷ s) (y ∷ t) u z =
    let a = and_parts (leb x y) (under s t) u in
    let b = and_parts (eqb y 0) (zero_from 0 t) z in
    let l = leb-true x y a.0 in
    let e = eqb-true y 0 b.0 in
    and_from _ _ (eq-eqb x 0 (omega arith)) (zero_from-under zero s t a.1 b.1)
zero_from-under (suc n) (x ∷ s) (y ∷ t) u z = zero_from-under n s t (and_parts (leb x y) (under s t) u).1 z

-- the first n parts and zeros are the whole
front_and_zeros : (n k : ℕ) (s : List ℕ) → length s ≡ n + k → zero_from n s ≡ true → take n s ++ replicate k 0 ≡ s
front_and_zeros zero zero [] l z = refl
front_and_zeros zero zero (x ∷ s) l z = absurd (omega arith)
front_and_zeros zero (suc k) [] l z = absurd (omega arith)
front_and_zeros zero (suc k) (x ∷ s) l z =
    let a = and_parts (eqb x 0) (zero_from 0 s) z in
    let e = eqb-true x 0 a.0 in
    let r = front_and_zeros zero k s (omega arith) a.1 in
    cc
front_and_zeros (suc n) k [] l z = absurd (omega arith)
front_and_zeros (suc n) k (x ∷ s) l z = ap (λ t. x ∷ t) (front_and_zeros n k s (omega arith) z)

pub padded-take : (n : ℕ) (s : List ℕ) → n ≤ 7 → length s ≡ 7 → zero_from n s ≡ true → padded (take n s) ≡ s
padded-take n s h l z =
    let m : length (take n s) ≡ n = length-take-le n s (omega arith) in
    rw m (front_and_zeros n (7 - n) s (omega arith) z)

length-padded : (s : List ℕ) → length s ≤ 7 → length (padded s) ≡ 7
length-padded s h = simp (length-append, length-replicate) (omega arith)

-- Parts of 32 bits

pub every_append : {X : Type 0} (p : X → Bool) (xs ys : List X) → list_all p xs ≡ true → list_all p ys ≡ true → list_all p (xs ++ ys) ≡ true
every_append p [] ys e f = f
every_append p (x ∷ xs) ys e f = let a = and_parts (p x) (list_all p xs) e in and_from (p x) _ a.0 (every_append p xs ys a.1 f)

pub every_front : {X : Type 0} (p : X → Bool) (n : ℕ) (xs : List X) → list_all p xs ≡ true → list_all p (take n xs) ≡ true
every_front p zero xs e = refl
every_front p (suc n) [] e = refl
every_front p (suc n) (x ∷ xs) e = let a = and_parts (p x) (list_all p xs) e in and_from (p x) _ a.0 (every_front p n xs a.1)

narrow_zeros : (k : ℕ) → list_all (λ x. ltb x (2 ^ 32)) (replicate k 0) ≡ true
narrow_zeros zero = refl
narrow_zeros (suc k) = narrow_zeros k

narrow_counters : (n : ℕ) (b : List ℕ) → Bytes b → list_all (λ x. ltb x (2 ^ 32)) (counters n b) ≡ true
unfolding pieces
narrow_counters zero b y = refl
narrow_counters (suc n) b y = and_from _ _ (lt-ltb _ (2 ^ 32) (field_lt 0 4 b y)) (narrow_counters n (drop 4 b) (bytes_drop 4 b y))

numbers_back : (xs : List ℕ) → list_all (λ x. ltb x (2 ^ 32)) xs ≡ true → map number (map (bytes 4) xs) ≡ xs
numbers_back [] e = refl
numbers_back (x ∷ xs) e =
    let a = and_parts (ltb x (2 ^ 32)) _ e in
    rw (number-bytes 4 x (ltb-true x (2 ^ 32) a.0), numbers_back xs a.1)

counters-spelled : (n : ℕ) (b : List ℕ) → Bytes b → n * 4 ≤ length b → map (bytes 4) (counters n b) ≡ pieces 4 n b
unfolding pieces
counters-spelled zero b y l = refl
counters-spelled (suc n) b y l = λ i. bytes-front 4 b y (omega arith) i ∷ counters-spelled n (drop 4 b) (bytes_drop 4 b y) (simp length-drop (omega arith)) i

-- What reads

-- a timestamp of n parts that reads is one of n replicas
module _ (n : ℕ) (b : List ℕ) (most : n ≤ 7) where
  length-timestamp_at : length (timestamp_at n b).parts ≡ 7
  length-timestamp_at = let l = length-counters n b in length-padded (counters n b) (omega arith)

  pub timestamp_at_wide : Bytes b → wide_timestamp (timestamp_at n b) ≡ true
  timestamp_at_wide y =
      and_from _ _ (eq-eqb _ 7 length-timestamp_at) (every_append (λ x. ltb x (2 ^ 32)) (counters n b) _ (narrow_counters n b y) (narrow_zeros (7 - length (counters n b))))

  pub timestamp_at_zeros : zero_from n (timestamp_at n b).parts ≡ true
  timestamp_at_zeros = ap (λ k. zero_from k (timestamp_at n b).parts) (sym (length-counters n b)) ∙ zero_from_behind (counters n b) (7 - length (counters n b))

  -- it is spelled as it was
  pub timestamp_at-spelled : Bytes b → n * 4 ≤ length b → encode_timestamp n (timestamp_at n b) ++ drop (n * 4) b ≡ b
  timestamp_at-spelled y l =
      let e : take n (timestamp_at n b).parts ≡ counters n b = take_at (counters n b) _ n (length-counters n b) in
      rw e (joined-pieces (bytes 4) (counters n b) 4 n b (counters-spelled n b y l))

-- What is written

-- a timestamp of n replicas
module _ (n : ℕ) (s : Timestamp) (most : n ≤ 7) (wide : wide_timestamp s ≡ true) where
  length_front : length (take n s.parts) ≡ n
  length_front =
      let l = eqb-true (length s.parts) 7 (and_parts (eqb (length s.parts) 7) _ wide).0 in
      length-take-le n s.parts (omega arith)

  pub length-encode_timestamp : length (encode_timestamp n s) ≡ 4 * n
  length-encode_timestamp =
      let l = length-joined (bytes 4) 4 (take n s.parts) (four (take n s.parts)) in
      let m = length_front in
      omega arith

  -- it is read back, whatever stands behind it
  pub timestamp_back : (r : List ℕ) → zero_from n s.parts ≡ true → timestamp_at n (encode_timestamp n s ++ r) ≡ s
  timestamp_back r z =
      let a = and_parts (eqb (length s.parts) 7) _ wide in
      let c : counters n (encode_timestamp n s ++ r) ≡ take n s.parts
      = ap (λ k. counters k (encode_timestamp n s ++ r)) (sym length_front) ∙ ap (map number) (pieces-joined (bytes 4) 4 (take n s.parts) r (four (take n s.parts)))
      ∙ numbers_back (take n s.parts) (every_front _ n s.parts a.1) in
      ap (λ x. record { parts = padded x }) c ∙ ap (λ x. record { parts = x }) (padded-take n s.parts most (eqb-true _ 7 a.0) z)
