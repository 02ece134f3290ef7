-- What a call owes that takes a step, from what the step is.
use Rattle.replica.specs.declared.refusal.Refusal.{Refusal}
use Rattle.std.proofs.Common.{◌≡◌, ℕ, List, Ok, Err, Result, sym, ap, ◌∙◌}
use Rattle.gossip.specs.declared.entry.Entry.{Entry}
use Rattle.gossip.specs.declared.timestamp.Timestamp.{Timestamp}
use Rattle.replica.specs.Answers.{Answer, Step, answered, left}
use Rattle.replica.specs.Contents.{memory, Took}
use Rattle.replica.specs.Memories.{Memory}
use Rattle.replica.specs.declared.replica.Replica.{Replica}

-- a timestamp is its parts
pub of_parts : (s : Timestamp) (ps : List ℕ) → s.parts ≡ ps → s ≡ record { parts = ps }
of_parts s ps e = λ i. record { parts = e i }

-- two memories with equal parts
pub same_memory : {c d : ℕ} {s t : Timestamp} {es fs : List Entry} {rs qs : List Timestamp} → c ≡ d → s ≡ t → es ≡ fs → rs ≡ qs
    → ◌≡◌ {A = Memory} (record { clock = c; timestamp = s; entries = es; rows = rs }) (record { clock = d; timestamp = t; entries = fs; rows = qs })
same_memory a b c d = λ i. record { clock = a i; timestamp = b i; entries = c i; rows = d i }

module _ (s : Result Step Refusal) (before : Replica) where
  -- a refusal changes nothing
  pub refused : (e : Refusal) (then : Replica) → s ≡ Err e → memory then ≡ memory before → then.membership ≡ before.membership → Took s before (Err e) then
  refused e then q m p = record { answer = sym (ap answered q); after = m ∙ sym (ap (λ r. left r (memory before)) q); kept = p }

  pub took : (a : Answer) (m : Memory) (then : Replica) → s ≡ Ok (record { answer = a; memory = m }) → memory then ≡ m → then.membership ≡ before.membership → Took s before (Ok a) then
  took a m then q e p = record { answer = sym (ap answered q); after = e ∙ sym (ap (λ r. left r (memory before)) q); kept = p }

-- what is owed of a step is owed of an equal one
pub same_step : (s t : Result Step Refusal) → s ≡ t → (before : Replica) (r : Result Answer Refusal) (then : Replica) → Took t before r then → Took s before r then
same_step s t e before r then h = record { answer = h.answer ∙ sym (ap answered e); after = h.after ∙ sym (ap (λ x. left x (memory before)) e); kept = h.kept }
