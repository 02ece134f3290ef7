-- Worked cases, proved of the rule that the contracts cite: replica 0 of two, of group 7 with a grace of 10, over counts.
--
-- first            the membership of the cases
-- holding t c es   a memory with the timestamp t, the clock c, the entries es, and nothing heard from replica 1
use Rattle.std.specs.Prelude.{◌≡◌, ℕ, max, true, List, [], ◌∷◌, Ok, Err}
use Rattle.gossip.specs.Lattices.{counts}
use Rattle.gossip.specs.Timestamps.{padded}
use Rattle.gossip.specs.declared.entry.Entry.{Entry}
use Rattle.gossip.specs.declared.entry.State.TheVariants.{Value, Tombstone}
use Rattle.gossip.specs.declared.timestamp.Timestamp.{Timestamp}
use Rattle.checkpoint.specs.Checkpoints.{zero}
use Rattle.table.specs.Entries.{entry, combine}
use Rattle.replica.specs.Answers.{set, same, swept, answered}
use Rattle.replica.specs.Memories.{Memory}
use Rattle.replica.specs.Steps.{step, enters, sweeps, is_late}
use Rattle.replica.specs.declared.membership.Membership.{Membership}
use Rattle.replica.specs.declared.refusal.Refusal.TheVariants.{Late}

abbrev pub first : Membership
first = record { n = 2; replica = 0; group = 7; grace = 10 }

abbrev pub at : ℕ → ℕ → Timestamp
at a b = record { parts = padded (a ∷ b ∷ []) }

abbrev pub holding : Timestamp → ℕ → List Entry → Memory
holding t c es = record { clock = c; timestamp = t; entries = es; rows = t ∷ t ∷ zero ∷ zero ∷ zero ∷ zero ∷ zero ∷ [] }

abbrev pub holds_five : Memory
holds_five = holding (at 1 0) 20 (entry 100 (Value 5) ∷ [])

abbrev pub deleted_at25 : Memory
deleted_at25 = holding (at 1 1) 25 (entry 100 (Tombstone 25 (at 1 1)) ∷ [])

pub record WorkedCases : Type 0 where
  -- count 5 held: 4 and 5 change nothing, 6 is set
  pub less : answered (step counts first holds_five (enters 100 4 20 20)) ≡ Ok (same (at 1 0))
  pub equal : answered (step counts first holds_five (enters 100 5 20 20)) ≡ Ok (same (at 1 0))
  pub more : answered (step counts first holds_five (enters 100 6 20 20)) ≡ Ok (set (at 2 0))
  -- grace 10, clock now 30: time 20 passes, 19 is late
  pub timely : answered (step counts first holds_five (enters 100 6 20 30)) ≡ Ok (set (at 2 0))
  pub late : answered (step counts first holds_five (enters 100 6 19 30)) ≡ Err Late
  -- the clock counts where it is later than the reading
  pub set_back : is_late first (holding (at 1 0) 30 []) 19 0 ≡ true
  -- deleted at 25 and known to every replica: reading 35 keeps the tombstone, 36 sweeps it
  pub kept : answered (step counts first deleted_at25 (sweeps 35)) ≡ Ok (swept 0)
  pub gone : answered (step counts first deleted_at25 (sweeps 36)) ≡ Ok (swept 1)
  -- tombstones 25 (1,1) and 27 (2,0) give 27 (2,1)
  pub together : combine max (Tombstone 25 (at 1 1)) (Tombstone 27 (at 2 0)) ≡ Tombstone 27 (at 2 1)
