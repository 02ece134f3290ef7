-- Bytes that are cut and joined again, over any widths and any pieces.
use Rattle.std.proofs.Common.{◌≡◌, ℕ, zero, suc, ◌+◌, ◌*◌, ◌^◌, ◌<◌, ◌≤◌, List, [], ◌∷◌, ◌++◌, map, length, take, drop, sym, refl, ap, ◌∙◌, append_assoc, append-nil, add-zero, suc-mul, add_comm, zero-mul, arith, length-append, length-drop, take-append-drop, length-take-le, drop-drop, take_at, drop_at}
use Rattle.std.specs.List.{AllByRecursion as All}
use Rattle.gossip.specs.Numbers.{number, bytes, field, spell, pieces, joined, Bytes, total}
use Rattle.gossip.proofs.NumberLaws.{number-bytes, length-bytes, bytes-number, bytes_take, bytes_drop}

-- the numbers of these widths from a place on
abbrev pub fields : ℕ → List ℕ → List ℕ → List ℕ
fields at [] b = []
fields at (w ∷ ws) b = field at w b ∷ fields (at + w) ws b

-- each number fits its width
abbrev pub Fits : List ℕ → List ℕ → Type 0
Fits [] [] = Unit {0}
Fits [] (v ∷ vs) = ⊥
Fits (w ∷ ws) [] = ⊥
Fits (w ∷ ws) (v ∷ vs) = (v < 256 ^ w) × Fits ws vs

-- a part that was read is spelled as it was
pub bytes-front : (w : ℕ) (b : List ℕ) → Bytes b → w ≤ length b → bytes w (number (take w b)) ≡ take w b
bytes-front w b h l =
    let e : length (take w b) ≡ w = length-take-le w b l in
    ap (λ k. bytes k (number (take w b))) (sym e) ∙ bytes-number (take w b) (bytes_take w b h)

pub spell_fields : (k : ℕ) (ws b : List ℕ) → Bytes b → k + total ws ≤ length b → spell ws (fields k ws b) ++ drop (k + total ws) b ≡ drop k b
unfolding spell
spell_fields k [] b h l = rw add-zero
spell_fields k (w ∷ ws) b h l =
    let f : bytes w (field k w b) ≡ take w (drop k b) = bytes-front w (drop k b) (bytes_drop k b h) (simp length-drop (omega arith)) in
    let r = spell_fields (k + w) ws b h (omega arith) in
    let e : k + (w + total ws) ≡ k + w + total ws = omega arith in
    let s : take w (drop k b) ++ drop (k + w) b ≡ drop k b = ap (λ t. take w (drop k b) ++ t) (sym (drop-drop w k b)) ∙ take-append-drop w (drop k b) in
    rw (append_assoc, e, f, r) s

-- numbers that fit their widths are read back from their spelling
pub fields_spell : (at : ℕ) (ws vs b r : List ℕ) → Fits ws vs → drop at b ≡ spell ws vs ++ r → fields at ws b ≡ vs
unfolding spell
fields_spell at [] [] b r f e = refl
fields_spell at [] (v ∷ vs) b r f e = absurd f
fields_spell at (w ∷ ws) [] b r f e = absurd f
fields_spell at (w ∷ ws) (v ∷ vs) b r f e =
    let s : drop at b ≡ bytes w v ++ (spell ws vs ++ r) = e ∙ append_assoc (bytes w v) (spell ws vs) r in
    let x : field at w b ≡ v = ap (λ z. number (take w z)) s ∙ ap number (take_at (bytes w v) _ w (length-bytes w v)) ∙ number-bytes w v f.0 in
    let d : drop (at + w) b ≡ spell ws vs ++ r = sym (drop-drop w at b) ∙ ap (drop w) s ∙ drop_at (bytes w v) _ w (length-bytes w v) in
    let y = fields_spell (at + w) ws vs b r f.1 d in
    cc

module _ {X : Type 0} (f : X → List ℕ) (s : ℕ) where
  pub length-joined : (xs : List X) → All (λ x. length (f x) ≡ s) xs → length (joined f xs) ≡ length xs * s
  unfolding joined
  length-joined [] h = sym (zero-mul s)
  length-joined (x ∷ xs) h =
      let a = h.0 in
      let b = length-joined xs h.1 in
      let d : suc (length xs) * s ≡ length xs * s + s = suc-mul (length xs) s in
      simp length-append (omega arith)

  pub pieces-joined : (xs : List X) (r : List ℕ) → All (λ x. length (f x) ≡ s) xs → pieces s (length xs) (joined f xs ++ r) ≡ map f xs
  unfolding joined pieces
  pieces-joined [] r h = refl
  pieces-joined (x ∷ xs) r h =
      let t = take_at (f x) (joined f xs ++ r) s h.0 in
      let d = drop_at (f x) (joined f xs ++ r) s h.0 in
      rw (append_assoc, t, d) (ap (λ t. f x ∷ t) (pieces-joined xs r h.1))

pub nothing_behind : (a r b : List ℕ) → r ≡ [] → a ++ r ≡ b → a ≡ b
nothing_behind a r b e f = cc (append-nil a)

-- whole pieces, each of s bytes
pub pieces_whole : (s k : ℕ) (b : List ℕ) → Bytes b → k * s ≤ length b → All (λ p. (length p ≡ s) × Bytes p) (pieces s k b)
unfolding pieces
pieces_whole s zero b y l = tt
pieces_whole s (suc k) b y l =
    let d : suc k * s ≡ k * s + s = suc-mul k s in
    ((length-take-le s b (omega arith), bytes_take s b y), pieces_whole s k (drop s b) (bytes_drop s b y) (simp length-drop (omega arith)))

-- parts that are the pieces are joined to what these were cut from
pub joined-pieces : {X : Type 0} (f : X → List ℕ) (xs : List X) (s k : ℕ) (b : List ℕ) → map f xs ≡ pieces s k b → joined f xs ++ drop (k * s) b ≡ b
unfolding joined pieces
joined-pieces f [] s zero b e = rw zero-mul
joined-pieces f [] s (suc k) b e = absurd (grind arith)
joined-pieces f (x ∷ xs) s zero b e = absurd (grind arith)
joined-pieces f (x ∷ xs) s (suc k) b e =
    let p : f x ≡ take s b = cc in
    let q : map f xs ≡ pieces s k (drop s b) = cc in
    let d : drop (suc k * s) b ≡ drop (k * s) (drop s b) = ap (λ j. drop j b) (suc-mul k s ∙ add_comm (k * s) s) ∙ sym (drop-drop (k * s) s b) in
    rw (append_assoc, d, p, joined-pieces f xs s k (drop s b) q) (take-append-drop s b)
