-- A replica's own checkpoint: what it says is the replica, both ways.
use Rattle.checkpoint.specs.declared.unreadable.Unreadable.TheVariants.{Owner}
use Rattle.std.proofs.Common.{◌≡◌, ℕ, ◌≤◌, true, cond, ◌&&◌, eqb, List, [], length, is_ok, Ok, Result, sym, refl, ap, ◌∙◌, arith}
use Rattle.std.proofs.lemmas.Bool.{and_parts, and_from, eqb-true, eq-eqb, le-leb, cond-true}
use Rattle.gossip.specs.Lattices.{Kind}
use Rattle.gossip.specs.Messages.{Message, rises, seats}
use Rattle.gossip.specs.Refusals.{and_then, unless}
use Rattle.gossip.specs.declared.entry.Entry.{Entry}
use Rattle.gossip.specs.declared.head.Head.{Head}
use Rattle.gossip.specs.declared.timestamp.Timestamp.{Timestamp}
use Rattle.gossip.proofs.Unless.{passed, unless_ok, and_then_ok}
use Rattle.checkpoint.specs.Checkpoints.{Saved}
use Rattle.checkpoint.specs.Format.{decode_saved}
use Rattle.checkpoint.proofs.FormatTheorems as format
use Rattle.table.specs.Entries.{merge, fits}
use Rattle.table.specs.declared.full.Full.{Full}
use Rattle.table.proofs.Merges.{merge_none}
use Rattle.replica.specs.Memories.{Memory, saved_of, memory_of}
use Rattle.replica.specs.Restoring.{is_own, decode_memory, encode_memory}
use Rattle.replica.specs.StepLaws.{Restores}
use Rattle.replica.specs.declared.membership.Membership.{Membership}
use Rattle.replica.proofs.Taken.{same_memory}

-- a checkpoint of this replica says no more than its memory
own_saved : (p : Membership) (c : Saved) → is_own p c ≡ true → saved_of p (memory_of c) ≡ c
own_saved p c o =
    let a = and_parts (eqb c.message.head.group p.group) _ o in
    let b = and_parts (eqb c.message.head.n p.n) _ a.1 in
    let group = sym (eqb-true _ _ a.0) in
    let n = sym (eqb-true _ _ b.0) in
    let sender = sym (eqb-true _ _ b.1) in
    λ i. record {
      message = record { head = record { n = n i; sender = sender i; group = group i; clock = c.message.head.clock; timestamp = c.message.head.timestamp }; entries = c.message.entries };
      rows = c.rows;
    }

saved_own : (p : Membership) (m : Memory) → is_own p (saved_of p m) ≡ true
saved_own p m = and_from _ _ (eq-eqb p.group _ refl) (and_from _ _ (eq-eqb p.n _ refl) (eq-eqb p.replica _ refl))

-- the checkpoint behind a memory that was read
read_saved : (k : Kind) (p : Membership) (b : List ℕ) (m : Memory) → decode_memory k p b ≡ Ok m → decode_saved k b ≡ Ok (saved_of p m)
read_saved k p b m e =
    let a = and_then_ok (decode_saved k b) (λ c. unless (is_own p c) Owner (Ok (memory_of c))) m e in
    let d = unless_ok (is_own p a.0) Owner (Ok (memory_of a.0)) m a.2 in
    let f : memory_of a.0 ≡ m = cc d.1 in
    a.1 ∙ ap Ok (sym (own_saved p a.0 d.0) ∙ ap (saved_of p) f)

-- and the other way
saved_read : (k : Kind) (p : Membership) (b : List ℕ) (c : Saved) → decode_saved k b ≡ Ok c → is_own p c ≡ true → decode_memory k p b ≡ Ok (memory_of c)
saved_read k p b c e o = ap (λ r. and_then r (λ c. unless (is_own p c) Owner (Ok (memory_of c)))) e ∙ passed _ Owner _ _ o refl

pub own_read : (k : Kind) (p : Membership) (b : List ℕ) (m : Memory) → decode_saved k b ≡ Ok (saved_of p m) → decode_memory k p b ≡ Ok m
own_read k p b m e = saved_read k p b (saved_of p m) e (saved_own p m)

pub restores : Restores
restores = record {
  back = λ k laws p m s f. own_read k p (encode_memory k p m) m (format.reads_back k laws (saved_of p m) s f);
  sole = λ k p b m y e. format.sole_spelling k b (saved_of p m) y (read_saved k p b m e);
  reads_sound = λ k p b m y e. format.reads_sound k b (saved_of p m) y (read_saved k p b m e);
}

-- a table that was emptied holds a message's entries once it has taken them in
pub loaded : (join : ℕ → ℕ → ℕ) (fs before es : List Entry) (r : Result (Unit {0}) Full) → before ≡ [] → (rises (seats fs) ≡ true) × (length fs ≤ 64) → is_ok r ≡ fits (merge join before fs)
    → es ≡ cond (is_ok r) (merge join before fs) before → es ≡ fs
loaded join fs before es r none told q e =
    let m : merge join before fs ≡ fs = ap (λ z. merge join z fs) none ∙ merge_none join fs told.0 in
    let l = told.1 in
    e ∙ cond-true _ _ _ (q ∙ le-leb _ 64 (omega (arith, ap length m))) ∙ m

-- the fields that are written one by one hold what the checkpoint says
pub restored_is : (k : Kind) (p : Membership) (b : List ℕ) (s : Saved) (g : Message) (h : Head) (es : List Entry) (rows : List Timestamp) → Ok s ≡ decode_saved k b → g ≡ s.message → h ≡ g.head
    → (eqb h.group p.group && (eqb h.n p.n && eqb h.sender p.replica)) ≡ true → es ≡ g.entries → rows ≡ s.rows
    → decode_memory k p b ≡ Ok (record { clock = h.clock; timestamp = h.timestamp; entries = es; rows = rows })
restored_is k p b s g h es rows d a e o f q =
    let head = e ∙ ap (λ (x : Message). x.head) a in
    let own = ap (λ (x : Head). eqb x.group p.group && (eqb x.n p.n && eqb x.sender p.replica)) (sym head) ∙ o in
    saved_read k p b s (sym d) own
    ∙ ap Ok (sym (same_memory (ap (λ (x : Head). x.clock) head) (ap (λ (x : Head). x.timestamp) head) (f ∙ ap (λ (x : Message). x.entries) a) q))
