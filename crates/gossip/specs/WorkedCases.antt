-- Worked cases, proved of the definitions that the contracts cite.
use Rattle.std.specs.Prelude.{◌≡◌, ◌≤◌, true, false, [], ◌∷◌, length}
use Rattle.gossip.specs.Format.{encode, message_length}
use Rattle.gossip.specs.Lattices.{Kind, counts, ports}
use Rattle.gossip.specs.Messages.{Message, sound}
use Rattle.gossip.specs.Timestamps.{under, merged}

pub record WorkedCases : Type 0 where
  -- (1,0,2) against (1,1,2): yes, no
  pub ordered : (under (1 ∷ 0 ∷ 2 ∷ []) (1 ∷ 1 ∷ 2 ∷ []) ≡ true) × (under (1 ∷ 1 ∷ 2 ∷ []) (1 ∷ 0 ∷ 2 ∷ []) ≡ false)
  -- (1,0) against (0,1): no, no; merged (1,1)
  pub incomparable : (under (1 ∷ 0 ∷ []) (0 ∷ 1 ∷ []) ≡ false) × (under (0 ∷ 1 ∷ []) (1 ∷ 0 ∷ []) ≡ false)
  pub together : merged (1 ∷ 0 ∷ []) (0 ∷ 1 ∷ []) ≡ 1 ∷ 1 ∷ []
  -- ports 3 and 5 join to 7, counts 3 and 5 to 5
  pub union : ports.join 3 5 ≡ 7
  pub larger : counts.join 3 5 ≡ 5
  -- every message is as long as the format says, and at most 3,124 bytes
  pub length_of : (k : Kind) (m : Message) → sound m ≡ true → length (encode k m) ≡ message_length m.head.n (length m.entries)
  pub at_most : (k : Kind) (m : Message) → sound m ≡ true → length (encode k m) ≤ 3124
  -- the empty message of three replicas has 36 bytes, the longest, of seven and with 64 entries, 3,124
  pub shortest : message_length 3 0 ≡ 36
  pub longest : message_length 7 64 ≡ 3124
