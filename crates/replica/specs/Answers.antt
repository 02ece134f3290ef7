-- What a replica answers to a step.
--
-- Answer     an accepted change, one that changes nothing, a message without or with news, and a sweep
-- Step       an answer, and the memory that is left
-- answered   the answer of a step, or its refusal
-- left r m   the memory after a step that gives r, which was m: a refusal changes nothing
use Rattle.std.specs.Prelude.{ℕ, Ok, Err, Result}
use Rattle.gossip.specs.declared.timestamp.Timestamp.{Timestamp}
use Rattle.replica.specs.Memories.{Memory}
use Rattle.replica.specs.declared.refusal.Refusal.{Refusal}

pub data Answer : Type 0 where
  set : Timestamp → Answer
  same : Timestamp → Answer
  old : Answer
  new : Timestamp → Answer
  swept : ℕ → Answer

pub record Step : Type 0 where
  pub answer : Answer
  pub memory : Memory

abbrev pub answered : Result Step Refusal → Result Answer Refusal
answered (Ok s) = Ok s.answer
answered (Err e) = Err e

abbrev pub left : Result Step Refusal → Memory → Memory
left (Ok s) m = s.memory
left (Err e) m = m
