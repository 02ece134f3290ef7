-- A line that is too long is so in the part of it that is kept.
use Rattle.std.proofs.Common.{◌≡◌, ℕ, ◌-◌, ◌<◌, cond, eqb, List, [], ◌∷◌, length, get_or, take, Ok, Err, Result, sym, refl, ap, ◌∙◌, inl, inr, arith, length-take-le, take_all}
use Rattle.std.specs.Io.BufRead.{ends_with_byte}
use Rattle.std.proofs.lemmas.List.{get_or-take}
use Rattle.std.proofs.lemmas.Bool.{cases_lt, cond_both, cond-false, lt-leb}
use Rattle.gossip.specs.Refusals.{outcome}
use Rattle.inspect.specs.Lines.{trimmed, spelled, found, text_of, text_bytes, line_of, bytes_of, Decisive}
use Rattle.inspect.specs.declared.line.Line.{Line}
use Rattle.inspect.specs.declared.line.Line.TheVariants.{Note, Message}
use Rattle.inspect.specs.declared.line.Fault.{Fault}
use Rattle.inspect.specs.declared.line.Fault.TheVariants.{Long}

-- what a line of this first byte is that has more than 6,641 bytes
abbrev overlong : ℕ → Result Line Fault
overlong c = cond (eqb c 35) (Ok Note) (Err Long)

spelled_long : (cs : List ℕ) → 6640 < length cs → spelled cs ≡ Err Long
spelled_long cs h = cond-false _ _ _ (lt-leb (length cs) 6640 h)

text_long : (t : List ℕ) → 6640 < length t → text_of t ≡ overlong (get_or t 0 0)
text_long [] h = absurd (omega arith)
text_long (c ∷ cs) h = ap (λ r. cond (eqb c 35) (Ok Note) (outcome (λ _. Message) r)) (spelled_long (c ∷ cs) h)

bytes_long : (t : List ℕ) → 6640 < length t → text_bytes t ≡ []
bytes_long [] h = refl
bytes_long (c ∷ cs) h =
    ap (λ r. cond (eqb c 35) [] (found r)) (spelled_long (c ∷ cs) h)
    ∙ cond_both (eqb c 35) [] [] (λ b. b ≡ []) (λ _. refl) (λ _. refl)

trimmed_long : (l : List ℕ) → 6641 < length l → (6640 < length (trimmed l)) × (get_or (trimmed l) 0 0 ≡ get_or l 0 0)
trimmed_long l h =
    cond_both (ends_with_byte 13 l) (take (length l - 1) l) l (λ t. (6640 < length t) × (get_or t 0 0 ≡ get_or l 0 0))
    (λ _. let n = length-take-le (length l - 1) l (omega arith) in (omega arith, get_or-take (length l - 1) l 0 0 (omega arith)))
    (λ _. (omega arith, refl))

line_long : (l : List ℕ) → 6641 < length l → line_of l ≡ overlong (get_or l 0 0)
line_long l h = let t = trimmed_long l h in text_long (trimmed l) t.0 ∙ ap overlong t.1

pub decisive : (k : List ℕ) → Decisive k
decisive k l e = elim (cases_lt 6642 (length l)) [
  | inl h ↦
      let n : length k ≡ 6642 = ap length e ∙ length-take-le 6642 l (omega arith) in
      let f : get_or k 0 0 ≡ get_or l 0 0 = ap (λ x. get_or x 0 0) e ∙ get_or-take 6642 l 0 0 (omega arith) in (
        line_long k (omega arith) ∙ ap overlong f ∙ sym (line_long l (omega arith)),
        bytes_long (trimmed k) (trimmed_long k (omega arith)).0 ∙ sym (bytes_long (trimmed l) (trimmed_long l (omega arith)).0),
      )
  | inr h ↦ let s : k ≡ l = e ∙ take_all 6642 l h in (ap line_of s, ap bytes_of s)
]
