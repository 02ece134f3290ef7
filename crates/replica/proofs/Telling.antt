-- Making a replica's message and checkpoint: the head, each entry and the rows are accepted.
use Rattle.gossip.specs.declared.refusal.Refusal.TheVariants.{Clock, Layout, Mark, Order, Origin}
use Rattle.checkpoint.specs.declared.unreadable.Unreadable.TheVariants.{Rows}
use Rattle.std.proofs.Common.{◌≡◌, ℕ, zero, suc, ◌+◌, ◌<◌, true, List, [], ◌∷◌, ◌++◌, length, take, slice_get, Some, Ok, sym, refl, ap, ◌∙◌, arith}
use Rattle.std.proofs.lemmas.List.{take_more, length-take-le, map_push}
use Rattle.std.proofs.lemmas.Option.{slice_get_within, get_or_from_slice_get}
use Rattle.std.proofs.lemmas.Bool.{and_parts, le-leb, lt-ltb}
use Rattle.gossip.specs.Contents.{started, pushed, after}
use Rattle.gossip.specs.Messages.{Message, below, rises, seats, sound_entry}
use Rattle.gossip.specs.declared.entry.Entry.{Entry}
use Rattle.gossip.proofs.Loops.{every-at}
use Rattle.gossip.proofs.Sound.{origin_whole, entry_to_parts}
use Rattle.gossip.proofs.Unless.{passed}
use Rattle.checkpoint.specs.Contents.{joined_to}
use Rattle.table.proofs.Puts.{rises_parts, rises_cons}
use Rattle.replica.specs.Memories.{Memory, message_of, saved_of, sound_memory}
use Rattle.replica.specs.declared.membership.Membership.{Membership}
use Rattle.replica.proofs.MemoriesKept.{memory_parts}

-- the first of rising seats rise
rises-front : (n : ℕ) (es : List Entry) → rises (seats es) ≡ true → rises (seats (take n es)) ≡ true
rises-front zero es h = refl
rises-front (suc n) [] h = refl
rises-front (suc n) (e ∷ es) h =
    let p = rises_parts e.seat (seats es) h in
    rises_cons e.seat (seats (take n es)) (below-seats n es p.0) (rises-front n es p.1)
  where
    below-seats : (n : ℕ) (es : List Entry) → below e.seat (seats es) ≡ true → below e.seat (seats (take n es)) ≡ true
    below-seats zero es h = refl
    below-seats (suc n) [] h = refl
    below-seats (suc n) (f ∷ es) h = h

module _ (p : Membership) (m : Memory) (whole : sound_memory p m ≡ true) where
  -- the message with the first i entries
  abbrev pub told_to : ℕ → Message
  told_to i = record { head = (message_of p m).head; entries = take i m.entries }

  -- the head begins a message
  pub opens : started (message_of p m).head ≡ Ok (told_to 0)
  opens =
      let h = memory_parts p m whole in
      passed _ Origin _ _ (origin_whole _ _ h.some h.most h.member) (passed _ Layout _ _ h.zeros (passed _ Clock _ _ (le-leb _ _ h.clock) refl))

  -- each entry is accepted behind those before it
  pub tells_more : (i : ℕ) (e : Entry) → Some e ≡ slice_get m.entries i → pushed (told_to i) e ≡ Ok (told_to (i + 1))
  tells_more i e q =
      let h = memory_parts p m whole in
      let l : i < length m.entries = slice_get_within m.entries i e (sym q) in
      let t = get_or_from_slice_get m.entries i e e (sym q) in
      let n : length (take i m.entries) ≡ i = length-take-le i m.entries (omega arith) in
      let s : take (i + 1) m.entries ≡ take i m.entries ++ e ∷ [] = take_more m.entries i e l ∙ ap (λ x. take i m.entries ++ x ∷ []) t in
      let r = ap rises (sym (map_push (λ (x : Entry). x.seat) (take i m.entries) e)) ∙ ap (λ (xs : List Entry). rises (seats xs)) (sym s) ∙ rises-front (i + 1) m.entries h.rising in
      let fine = ap (sound_entry m.timestamp) (sym t) ∙ every-at (sound_entry m.timestamp) m.entries i e l h.each in
      passed _ Layout _ _ (lt-ltb _ 64 (omega (arith, h.few))) (passed _ Order _ _ r (passed _ Mark _ _ (entry_to_parts m.timestamp e fine).2 (ap (λ (xs : List Entry). Ok (record { head = (message_of p m).head; entries = xs })) (sym s))))

  -- so the message has one entry more
  pub told_more : (i : ℕ) (e : Entry) (g g' : Message) → Some e ≡ slice_get m.entries i → g ≡ told_to i → g' ≡ after (pushed g e) g → g' ≡ told_to (i + 1)
  told_more i e g g' q a b = b ∙ ap (λ z. after (pushed z e) z) a ∙ ap (λ r. after r (told_to i)) (tells_more i e q)

  -- the message and the rows make a checkpoint
  pub joins : (g : Message) → g ≡ message_of p m → joined_to g m.rows ≡ Ok (saved_of p m)
  joins g e = ap (λ z. joined_to z m.rows) e ∙ passed _ Rows _ _ (and_parts _ _ whole).1 refl
