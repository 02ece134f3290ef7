-- Rows in bytes: the bytes spell the first n parts of n rows, and the rows behind these are zero.
use Rattle.std.proofs.Common.{◌≡◌, ℕ, zero, suc, ◌-◌, ◌*◌, ◌<◌, ◌≤◌, true, cond, ltb, ◌⊎◌, inl, inr, get_or, List, [], ◌∷◌, ◌++◌, map, length, take, drop, replicate, sym, refl, ap, ◌∙◌, append-nil, mul-le-mul, arith, length-append, length-drop, take-append-drop, length-take-le, take_at, drop_at}
use lib.ListN.{length-map, length-replicate}
use Rattle.std.specs.List.{list_all, range_with_len, AllByRecursion as All}
use Rattle.std.proofs.Math.ListN.{get_or-append}
use Rattle.std.proofs.Math.Seq.{get_or-append_right}
use Rattle.std.proofs.lemmas.List.FromFn.{fill_by_all}
use Rattle.std.proofs.lemmas.List.{drop_all, get_or-map, get_or-replicate}
use Rattle.std.proofs.lemmas.Bool.{and_parts, and_from, cases_lt, le-ltb, lt-ltb}
use Rattle.gossip.specs.Format.{encode_timestamp, timestamp_at}
use Rattle.gossip.specs.Messages.{wide_timestamp}
use Rattle.gossip.specs.Numbers.{pieces, joined, Bytes}
use Rattle.gossip.specs.Timestamps.{under, zero_from}
use Rattle.gossip.specs.declared.timestamp.Timestamp.{Timestamp}
use Rattle.gossip.proofs.Loops.{every_drop}
use Rattle.gossip.proofs.NumberLaws.{length-pieces, pieces-at}
use Rattle.gossip.proofs.Spelling.{joined-pieces, length-joined, nothing_behind, pieces-joined, pieces_whole}
use Rattle.gossip.proofs.TimestampBytes.{every_append, every_front, length-encode_timestamp, timestamp_back, timestamp_at-spelled, timestamp_at_wide, zero_from-under}
use Rattle.checkpoint.specs.Checkpoints as checkpoints
use Rattle.checkpoint.specs.Checkpoints.{sound_rows, rows_all_hold}
use Rattle.checkpoint.specs.Format.{rows_at, rows_length}
use Rattle.checkpoint.proofs.Rows.{RowsParts, rows_whole, zeros_are}

-- the rows of at most seven replicas have at most 196 bytes
pub rows_fit : (n : ℕ) → n ≤ 7 → rows_length n ≤ 196
rows_fit n h =
    let e : 4 * n ≤ 28 = omega arith in
    let m : n * (4 * n) ≤ 7 * 28 = mul-le-mul h e in
    omega arith

-- What reads

-- the rows that are read, one by one
pub rows-list : (n : ℕ) (b : List ℕ) → n ≤ 7 → rows_at n b ≡ map (λ (i : ℕ). cond (ltb i n) (timestamp_at n (take (4 * n) (drop (i * (4 * n)) b))) checkpoints.zero) (range_with_len 0 7)
rows-list n b h =
    let l : length (map (timestamp_at n) (pieces (4 * n) n b)) ≡ n = length-map (pieces (4 * n) n b) (timestamp_at n) ∙ length-pieces (4 * n) n b in
    fill_by_all _ (rows_at n b) 7 checkpoints.zero (simp (length-append, length-replicate) (omega arith)) (λ k g. at k g (cases_lt k n))
  where
    at : (k : ℕ) → k < 7 → (k < n) ⊎ (n ≤ k) → get_or (rows_at n b) k checkpoints.zero ≡ cond (ltb k n) (timestamp_at n (take (4 * n) (drop (k * (4 * n)) b))) checkpoints.zero
    at k z (inl g) =
        let l : length (map (timestamp_at n) (pieces (4 * n) n b)) ≡ n = length-map (pieces (4 * n) n b) (timestamp_at n) ∙ length-pieces (4 * n) n b in
        let p = length-pieces (4 * n) n b in
        rw (lt-ltb k n g, get_or-append (map (timestamp_at n) (pieces (4 * n) n b)) _ checkpoints.zero k (omega arith))
        (get_or-map (timestamp_at n) (pieces (4 * n) n b) k [] checkpoints.zero (omega arith) ∙ ap (timestamp_at n) (pieces-at (4 * n) n b k [] g))
    at k z (inr g) =
        let l : length (map (timestamp_at n) (pieces (4 * n) n b)) ≡ n = length-map (pieces (4 * n) n b) (timestamp_at n) ∙ length-pieces (4 * n) n b in
        rw (le-ltb k n g, get_or-append_right (map (timestamp_at n) (pieces (4 * n) n b)) _ k checkpoints.zero (omega arith)) (get_or-replicate (7 - n) _ checkpoints.zero checkpoints.zero (omega arith))

wide_zeros : (k : ℕ) → list_all wide_timestamp (replicate k checkpoints.zero) ≡ true
wide_zeros zero = refl
wide_zeros (suc k) = wide_zeros k

zero_zeros : (k : ℕ) → list_all (λ r. zero_from 0 r.parts) (replicate k checkpoints.zero) ≡ true
zero_zeros zero = refl
zero_zeros (suc k) = zero_zeros k

module _ (n : ℕ) (most : n ≤ 7) where
  row-spelled : (p : List ℕ) → length p ≡ 4 * n → Bytes p → encode_timestamp n (timestamp_at n p) ≡ p
  row-spelled p l y =
      let d : drop (n * 4) p ≡ [] = drop_all (n * 4) p (omega arith) in
      nothing_behind _ _ _ d (timestamp_at-spelled n p most y (omega arith))

  each_spelled : (ps : List (List ℕ)) → All (λ p. (length p ≡ 4 * n) × Bytes p) ps → map (encode_timestamp n) (map (timestamp_at n) ps) ≡ ps
  each_spelled [] h = refl
  each_spelled (p ∷ ps) h = λ i. row-spelled p h.0.0 h.0.1 i ∷ each_spelled ps h.1 i

  each_wide : (ps : List (List ℕ)) → All (λ p. (length p ≡ 4 * n) × Bytes p) ps → list_all wide_timestamp (map (timestamp_at n) ps) ≡ true
  each_wide [] h = refl
  each_wide (p ∷ ps) h = and_from _ _ (timestamp_at_wide n p most h.0.1) (each_wide ps h.1)

  module _ (b : List ℕ) where
    -- the rows that are spelled, of which there are n
    abbrev spelled : List Timestamp
    spelled = map (timestamp_at n) (pieces (4 * n) n b)

    length-spelled : length spelled ≡ n
    length-spelled = length-map (pieces (4 * n) n b) (timestamp_at n) ∙ length-pieces (4 * n) n b

    length-rows_at : length (rows_at n b) ≡ 7
    length-rows_at = let l = length-spelled in simp (length-append, length-replicate) (omega arith)

    rows_at_zeros : list_all (λ r. zero_from 0 r.parts) (drop n (rows_at n b)) ≡ true
    rows_at_zeros = ap (list_all (λ r. zero_from 0 r.parts)) (drop_at spelled _ n length-spelled) ∙ zero_zeros (7 - n)

    module _ (bytes : Bytes b) (square : length b ≡ rows_length n) where
      whole : All (λ p. (length p ≡ 4 * n) × Bytes p) (pieces (4 * n) n b)
      whole = pieces_whole (4 * n) n b bytes (omega arith)

      -- rows that read are sound where they hold
      pub rows_at-sound : (own : ℕ) (t : Timestamp) → sound_rows n own t (rows_at n b) ≡ rows_all_hold own t (rows_at n b)
      rows_at-sound own t =
          rows_whole n own t (rows_at n b) length-rows_at (every_append wide_timestamp spelled _ (each_wide (pieces (4 * n) n b) whole) (wide_zeros (7 - n))) rows_at_zeros

      -- they are spelled as they were
      pub rows_at-spelled : joined (encode_timestamp n) (take n (rows_at n b)) ≡ b
      rows_at-spelled =
          let d : drop (n * (4 * n)) b ≡ [] = drop_all (n * (4 * n)) b (omega arith) in
          ap (joined (encode_timestamp n)) (take_at spelled _ n length-spelled)
          ∙ nothing_behind _ _ _ d (joined-pieces (encode_timestamp n) spelled (4 * n) n b (each_spelled (pieces (4 * n) n b) whole))

-- What is written

-- n rows of n replicas
module _ (n : ℕ) (t : Timestamp) (rows : List Timestamp) (most : n ≤ 7) (sound : RowsParts n t rows) where
  each_long : (rs : List Timestamp) → list_all wide_timestamp rs ≡ true → All (λ r. length (encode_timestamp n r) ≡ 4 * n) rs
  each_long [] w = tt
  each_long (r ∷ rs) w = let a = and_parts (wide_timestamp r) _ w in (length-encode_timestamp n r most a.0, each_long rs a.1)

  front_long : All (λ r. length (encode_timestamp n r) ≡ 4 * n) (take n rows)
  front_long = each_long (take n rows) (every_front wide_timestamp n rows sound.wide)

  pub length_front : length (take n rows) ≡ n
  length_front = length-take-le n rows (omega (arith, sound.long))

  pub rows_long : length (joined (encode_timestamp n) (take n rows)) ≡ rows_length n
  rows_long = length-joined (encode_timestamp n) (4 * n) (take n rows) front_long ∙ ap (λ k. k * (4 * n)) length_front

  module _ (zeros : zero_from n t.parts ≡ true) where
    row_back : (r : Timestamp) → wide_timestamp r ≡ true → under r.parts t.parts ≡ true → timestamp_at n (encode_timestamp n r) ≡ r
    row_back r w u = ap (timestamp_at n) (sym (append-nil (encode_timestamp n r))) ∙ timestamp_back n r most w [] (zero_from-under n r.parts t.parts u zeros)

    each_back : (rs : List Timestamp) → list_all wide_timestamp rs ≡ true → list_all (λ r. under r.parts t.parts) rs ≡ true → map (timestamp_at n) (map (encode_timestamp n) rs) ≡ rs
    each_back [] w u = refl
    each_back (r ∷ rs) w u =
        let a = and_parts (wide_timestamp r) _ w in
        let b = and_parts (under r.parts t.parts) _ u in
        λ i. row_back r a.0 b.0 i ∷ each_back rs a.1 b.1 i

    -- they are read back
    pub rows_back : rows_at n (joined (encode_timestamp n) (take n rows)) ≡ rows
    rows_back =
        let front = take n rows in
        let bytes = joined (encode_timestamp n) (take n rows) in
        let p : pieces (4 * n) n (joined (encode_timestamp n) (take n rows)) ≡ map (encode_timestamp n) (take n rows)
        = ap (pieces (4 * n) n) (sym (append-nil bytes)) ∙ ap (λ k. pieces (4 * n) k (bytes ++ [])) (sym length_front) ∙ pieces-joined (encode_timestamp n) (4 * n) front [] front_long in
        let f : map (timestamp_at n) (pieces (4 * n) n (joined (encode_timestamp n) (take n rows))) ≡ take n rows
        = ap (map (timestamp_at n)) p ∙ each_back front (every_front wide_timestamp n rows sound.wide) (every_front (λ r. under r.parts t.parts) n rows sound.beneath) in
        let z : drop n rows ≡ replicate (7 - n) checkpoints.zero
        = zeros_are (drop n rows) (every_drop wide_timestamp n rows sound.wide) sound.zeros ∙ ap (λ k. replicate k checkpoints.zero) (length-drop n rows ∙ ap (λ k. k - n) sound.long) in
        ap (λ x. x ++ replicate (7 - n) checkpoints.zero) f ∙ ap (λ x. take n rows ++ x) (sym z) ∙ take-append-drop n rows
