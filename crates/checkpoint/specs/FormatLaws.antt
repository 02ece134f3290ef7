-- What is proved of checkpoints, for every kind that keeps its laws: reading and writing undo each other, both ways.
use Rattle.std.specs.Prelude.{◌≡◌, ℕ, ◌+◌, ◌≤◌, true, List, length, Ok}
use Rattle.gossip.specs.Format.{message_length}
use Rattle.gossip.specs.Lattices.{Kind, Laws}
use Rattle.gossip.specs.Messages.{of_kind}
use Rattle.gossip.specs.Numbers.{Bytes}
use Rattle.checkpoint.specs.Checkpoints.{Saved, sound_saved, row}
use Rattle.checkpoint.specs.Format.{decode_saved, encode_saved, rows_length}

-- a sound checkpoint of the kind is read back from its spelling
abbrev pub ReadsBack : Type 0
ReadsBack = (k : Kind) → Laws k → (c : Saved) → sound_saved c ≡ true → of_kind k c.message ≡ true → decode_saved k (encode_saved k c) ≡ Ok c

-- what reads is the only spelling of its contents
abbrev pub SoleSpelling : Type 0
SoleSpelling = (k : Kind) (b : List ℕ) (c : Saved) → Bytes b → decode_saved k b ≡ Ok c → b ≡ encode_saved k c

-- what reads is sound, and of the kind
abbrev pub ReadsSound : Type 0
ReadsSound = (k : Kind) (b : List ℕ) (c : Saved) → Bytes b → decode_saved k b ≡ Ok c → (sound_saved c ≡ true) × (of_kind k c.message ≡ true)

-- a replica's own row is its timestamp
abbrev pub OwnRow : Type 0
OwnRow = (c : Saved) → sound_saved c ≡ true → row c.rows c.message.head.sender ≡ c.message.head.timestamp

-- a checkpoint is as long as the format says, and at most 3,320 bytes
pub record Lengths : Type 0 where
  pub length_of : (k : Kind) (c : Saved) → sound_saved c ≡ true → length (encode_saved k c) ≡ message_length c.message.head.n (length c.message.entries) + rows_length c.message.head.n
  pub at_most : (k : Kind) (c : Saved) → sound_saved c ≡ true → length (encode_saved k c) ≤ 3320
