-- The steps of the reader: where the bytes are cut, and what the rest adds to the message.
use Rattle.std.proofs.Common.{◌≡◌, ℕ, ◌<◌, ◌≤◌, min, true, ◌&&◌, ◌⊎◌, List, length, take, drop, IfOk, Ok, Err, Result, sym, ap, ◌∙◌, inl, inr, arith}
use Rattle.std.proofs.lemmas.List.{take_all, drop_all}
use Rattle.std.proofs.lemmas.Bool.{eq-eqb, cases_lt}
use Rattle.gossip.specs.Format.{decode}
use Rattle.gossip.specs.Lattices.{Kind}
use Rattle.gossip.specs.Messages.{Message, sound, of_kind}
use Rattle.gossip.specs.Numbers.{Bytes}
use Rattle.gossip.specs.Refusals.{and_then, unless}
use Rattle.gossip.specs.declared.refusal.Refusal.{Refusal}
use Rattle.gossip.specs.declared.timestamp.Timestamp.{Timestamp}
use Rattle.gossip.proofs.Sound.{parts, head_to_parts}
use Rattle.checkpoint.specs.Checkpoints.{Saved, rows_all_hold}
use Rattle.checkpoint.specs.Contents.{joined_to}
use Rattle.checkpoint.specs.Format.{decode_saved, encode_saved, front_length, rows_at, rows_length, with_rows_of}
use Rattle.checkpoint.specs.Refusals.{refused}
use Rattle.checkpoint.specs.declared.unreadable.Unreadable.{Unreadable}
use Rattle.checkpoint.specs.declared.unreadable.Unreadable.TheVariants.{Message as MessageRefused, Rows}
use Rattle.checkpoint.proofs.FormatTheorems.{sole_spelling, reads_sound}
use Rattle.checkpoint.proofs.RowBytes.{rows_at-sound}

-- cut at a length, or at all that there is
cut : (s k : ℕ) (b : List ℕ) → k ≡ min s (length b) → (take k b ≡ take s b) × (drop k b ≡ drop s b)
cut s k b e = by_length (cases_lt s (length b))
  where
    by_length : (s < length b) ⊎ (length b ≤ s) → (take k b ≡ take s b) × (drop k b ≡ drop s b)
    by_length (inl h) = let z : k ≡ s = omega arith in (ap (λ j. take j b) z, ap (λ j. drop j b) z)
    by_length (inr h) = (take_all k b (omega arith) ∙ sym (take_all s b h), drop_all k b (omega arith) ∙ sym (drop_all s b h))

-- bytes that are cut where the head says
module _ (k : Kind) (b : List ℕ) {at : ℕ} {front rest : List ℕ} (len : at ≡ min (front_length b) (length b)) (fronts : front ≡ take at b) (rests : rest ≡ drop at b) where
  decoded : and_then (refused (decode k front)) (λ m. with_rows_of m rest) ≡ decode_saved k b
  unfolding decode_saved
  decoded =
      let c = cut (front_length b) at b len in
      let f = fronts ∙ c.0 in
      let r = rests ∙ c.1 in
      λ i. and_then (refused (decode k (f i))) (λ m. with_rows_of m (r i))

  pub message_refused : (e : Refusal) → Err e ≡ decode k front → Err (MessageRefused e) ≡ decode_saved k b
  message_refused e h = ap (λ z. and_then (refused z) (λ m. with_rows_of m rest)) h ∙ decoded

  pub message_read : (m : Message) (x : Result Saved Unreadable) → Ok m ≡ decode k front → x ≡ with_rows_of m rest → x ≡ decode_saved k b
  message_read m x h e = e ∙ ap (λ z. and_then (refused z) (λ m. with_rows_of m rest)) h ∙ decoded

-- rows that are read are joined to the message where they hold
pub rows_joined : (m : Message) (b : List ℕ) (rows : List Timestamp) → sound m ≡ true → Bytes b → length b ≡ rows_length m.head.n → rows ≡ rows_at m.head.n b → joined_to m rows ≡ with_rows_of m b
rows_joined m b rows s y l e =
    let h = m.head in
    let most = (head_to_parts h (parts m s).head).most in
    let hold = rows_all_hold h.sender h.timestamp (rows_at h.n b) in
    let t = rows_at-sound h.n most b y l h.sender h.timestamp ∙ sym (ap (λ x. x && hold) (eq-eqb (length b) (rows_length h.n) l)) in
    ap (joined_to m) e ∙ ap (λ x. unless x Rows (Ok record { message = m; rows = rows_at h.n b })) t

-- what the theorems say of a checkpoint that was read
module _ (k : Kind) (b : List ℕ) (bytes : Bytes b) where
  pub spelled : (r : Result Saved Unreadable) → r ≡ decode_saved k b → IfOk r (λ c. b ≡ encode_saved k c)
  spelled (Ok c) e = sole_spelling k b c bytes (sym e)
  spelled (Err x) e = tt

  pub of_kind_lem : (r : Result Saved Unreadable) → r ≡ decode_saved k b → IfOk r (λ c. of_kind k c.message ≡ true)
  of_kind_lem (Ok c) e = (reads_sound k b c bytes (sym e)).1
  of_kind_lem (Err x) e = tt
