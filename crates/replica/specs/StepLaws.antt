-- What is proved of the rule, for every kind that keeps its laws.
--
-- Possible d  the deed has a seat of 64 bits, or a message that is sound
-- OfKind k d  its message's values are of the kind k
-- KeepsSound  every step leaves a sound memory
-- KeepsKind   and one of the kind
-- Restores    a sound memory is read back from its checkpoint; what reads is sound, of the kind, and the only spelling of its memory
use Rattle.std.specs.Prelude.{◌≡◌, ℕ, ◌^◌, Bool, true, List, Ok, nat_lt}
use Rattle.gossip.specs.Lattices.{Kind, Laws}
use Rattle.gossip.specs.Messages.{sound, of_kind, origin}
use Rattle.gossip.specs.Numbers.{Bytes}
use Rattle.replica.specs.Answers.{Step}
use Rattle.replica.specs.Memories.{Memory, fresh, sound_memory, of_kind_memory}
use Rattle.replica.specs.Restoring.{encode_memory, decode_memory}
use Rattle.replica.specs.Steps.{Deed, enters, deletes, receives, sweeps, step}
use Rattle.replica.specs.declared.membership.Membership.{Membership}

abbrev pub Possible : Deed → Bool
Possible (enters u x t c) = nat_lt u (2 ^ 64)
Possible (deletes u t c) = nat_lt u (2 ^ 64)
Possible (receives g c) = sound g
Possible (sweeps c) = true

abbrev pub OfKind : Kind → Deed → Bool
OfKind k (enters u x t c) = true
OfKind k (deletes u t c) = true
OfKind k (receives g c) = of_kind k g
OfKind k (sweeps c) = true

abbrev pub KeepsSound : Type 0
KeepsSound = (k : Kind) (p : Membership) (m : Memory) (d : Deed) (s : Step) → sound_memory p m ≡ true → Possible d ≡ true → step k p m d ≡ Ok s → sound_memory p s.memory ≡ true

abbrev pub KeepsKind : Type 0
KeepsKind = (k : Kind) (p : Membership) (m : Memory) (d : Deed) (s : Step) → Laws k → of_kind_memory k m ≡ true → OfKind k d ≡ true → step k p m d ≡ Ok s → of_kind_memory k s.memory ≡ true

-- a replica that knows nothing is sound
abbrev pub StartsSound : Type 0
StartsSound = (p : Membership) → origin p.n p.replica ≡ true → nat_lt p.group (2 ^ 32) ≡ true → sound_memory p fresh ≡ true

pub record Restores : Type 0 where
  pub back : (k : Kind) → Laws k → (p : Membership) (m : Memory) → sound_memory p m ≡ true → of_kind_memory k m ≡ true → decode_memory k p (encode_memory k p m) ≡ Ok m
  pub sole : (k : Kind) (p : Membership) (b : List ℕ) (m : Memory) → Bytes b → decode_memory k p b ≡ Ok m → b ≡ encode_memory k p m
  pub reads_sound : (k : Kind) (p : Membership) (b : List ℕ) (m : Memory) → Bytes b → decode_memory k p b ≡ Ok m → (sound_memory p m ≡ true) × (of_kind_memory k m ≡ true)
