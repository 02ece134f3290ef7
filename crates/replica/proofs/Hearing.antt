-- Receiving a message, test by test.
use Rattle.replica.specs.declared.refusal.Refusal.TheVariants.{Full, Group}
use Rattle.std.proofs.Common.{◌≡◌, ℕ, ◌<◌, true, false, List, length, get_or, set as update, Ok, Err, sym, refl, ap, ◌∙◌}
use Rattle.std.proofs.lemmas.List.{get_or_default}
use Rattle.std.proofs.lemmas.Bool.{cond-true, cond-false, and_from, eq-eqb}
use Rattle.gossip.specs.Lattices.{Kind}
use Rattle.gossip.specs.Messages.{Message}
use Rattle.gossip.specs.Timestamps.{under, merged}
use Rattle.gossip.specs.declared.entry.Entry.{Entry}
use Rattle.gossip.specs.declared.head.Head.{Head}
use Rattle.gossip.specs.declared.timestamp.Timestamp.{Timestamp}
use Rattle.gossip.proofs.Unless.{passed, failed}
use Rattle.checkpoint.specs.Checkpoints.{zero, row}
use Rattle.table.specs.Entries.{fits, merge}
use Rattle.replica.specs.Answers.{new, old}
use Rattle.replica.specs.Memories.{Memory}
use Rattle.replica.specs.Steps.{clock_now, stays, hear, is_of, learnt, together}
use Rattle.replica.specs.declared.membership.Membership.{Membership}
use Rattle.replica.proofs.Taken.{of_parts, same_memory}

-- the rows that a message leaves, whatever stands past the last of them
pub rows_heard : (rows : List Timestamp) (i r : ℕ) (d s heard t : Timestamp) → i < length rows → heard.parts ≡ merged (get_or rows i d).parts s.parts
    → update (update rows i heard) r t ≡ update (update rows i (together (row rows i) s)) r t
rows_heard rows i r d s heard t h e =
    let f = of_parts heard _ (e ∙ ap (λ (x : Timestamp). merged x.parts s.parts) (get_or_default rows i d zero h)) in
    ap (λ x. update (update rows i x) r t) f

module _ (k : Kind) (p : Membership) (m : Memory) (g : Message) (c : ℕ) where
  -- a head that was looked at tells whether the message is of this group
  pub head_ours : (h : Head) → h ≡ g.head → h.group ≡ p.group → h.n ≡ p.n → is_of p g ≡ true
  head_ours h e a b = and_from _ _ (eq-eqb _ _ (ap (λ (x : Head). x.group) (sym e) ∙ a)) (eq-eqb _ _ (ap (λ (x : Head). x.n) (sym e) ∙ b))

  -- the fields that are written one by one hold what the rule says
  pub learnt_is : (h : Head) (t : Timestamp) (clock : ℕ) (es : List Entry) (rows : List Timestamp) → h ≡ g.head → t.parts ≡ merged m.timestamp.parts h.timestamp.parts
      → clock ≡ clock_now m c → es ≡ merge k.join m.entries g.entries
      → rows ≡ update (update m.rows h.sender (together (row m.rows h.sender) h.timestamp)) p.replica t
      → record { clock = clock; timestamp = t; entries = es; rows = rows } ≡ learnt k p m g c
  learnt_is h t clock es rows e s a b d =
      let q = of_parts t _ (s ∙ ap (λ (x : Head). merged m.timestamp.parts x.timestamp.parts) e) in
      same_memory a q b (d ∙ (λ i. update (update m.rows (e i).sender (together (row m.rows (e i).sender) (e i).timestamp)) p.replica (q i)))

  module _ (ours : is_of p g ≡ true) where
    pub hear-old : under g.head.timestamp.parts m.timestamp.parts ≡ true → hear k p m g c ≡ stays m old
    hear-old u = passed _ Group _ _ ours (cond-true _ _ _ u)

    module _ (news : under g.head.timestamp.parts m.timestamp.parts ≡ false) where
      pub hear-full : fits (merge k.join m.entries g.entries) ≡ false → hear k p m g c ≡ Err Full
      hear-full f = passed _ Group _ _ ours (cond-false _ _ _ news ∙ failed _ Full _ f)

      pub hear-new : fits (merge k.join m.entries g.entries) ≡ true
          → hear k p m g c ≡ Ok (record { answer = new (together m.timestamp g.head.timestamp); memory = learnt k p m g c })
      hear-new f = passed _ Group _ _ ours (cond-false _ _ _ news ∙ passed _ Full _ _ f refl)
