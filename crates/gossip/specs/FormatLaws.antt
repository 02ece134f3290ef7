-- What is proved of the format, for every kind that keeps its laws: reading and writing undo each other, both ways.
use Rattle.std.specs.Prelude.{◌≡◌, ℕ, true, List, Ok}
use Rattle.gossip.specs.Format.{decode, encode}
use Rattle.gossip.specs.Lattices.{Kind, Laws}
use Rattle.gossip.specs.Messages.{Message, sound, of_kind}
use Rattle.gossip.specs.Numbers.{Bytes}

-- a sound message of the kind is read back from its spelling
abbrev pub ReadsBack : Type 0
ReadsBack = (k : Kind) → Laws k → (m : Message) → sound m ≡ true → of_kind k m ≡ true → decode k (encode k m) ≡ Ok m

-- what reads is the only spelling of its contents
abbrev pub SoleSpelling : Type 0
SoleSpelling = (k : Kind) (b : List ℕ) (m : Message) → Bytes b → decode k b ≡ Ok m → b ≡ encode k m

-- what reads is sound, and of the kind
abbrev pub ReadsSound : Type 0
ReadsSound = (k : Kind) (b : List ℕ) (m : Message) → Bytes b → decode k b ≡ Ok m → (sound m ≡ true) × (of_kind k m ≡ true)
