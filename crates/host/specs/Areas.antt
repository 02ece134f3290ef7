-- What a call leaves in the caller's areas: what it says at their fronts, and their rests as they were; a refusal leaves all.
--
-- front xs old   old with xs written over its front
-- after f r old  what an area holds after a call that says f of a message: over its front, unless it is refused
-- head_fields    n, sender, group number, clock and number of entries
-- head_parts     the sender's timestamp, n parts
-- entry_fields   an entry's seat, mark and word
-- entry_parts    its timestamp, n parts, all 0 for a value
use Rattle.std.specs.Prelude.{ℕ, List, [], ◌∷◌, ◌++◌, length, take, drop, Ok, Err, Result, slice_index_or}
use Rattle.gossip.specs.Format.{mark_of, timestamp_of, word_of}
use Rattle.gossip.specs.Messages.{Message}
use Rattle.gossip.specs.declared.entry.Entry.{Entry}
use Rattle.gossip.specs.declared.entry.State.TheVariants.{Value}

abbrev pub front : {X : Type 0} → List X → List X → List X
front xs old = xs ++ drop (length xs) old

abbrev pub after : {E : Type 0} → (Message → List ℕ) → Result Message E → List ℕ → List ℕ
after said (Ok m) old = front (said m) old
after said (Err e) old = old

abbrev pub head_fields : Message → List ℕ
head_fields m = m.head.n ∷ m.head.sender ∷ m.head.group ∷ m.head.clock ∷ length m.entries ∷ []

abbrev pub head_parts : Message → List ℕ
head_parts m = take m.head.n m.head.timestamp.parts

abbrev pub entry_at : ℕ → Message → Entry
entry_at index m = slice_index_or m.entries index (record { seat = 0; state = Value 0 })

abbrev pub entry_fields : ℕ → Message → List ℕ
entry_fields index m = (entry_at index m).seat ∷ mark_of (entry_at index m).state ∷ word_of (entry_at index m).state ∷ []

abbrev pub entry_parts : ℕ → Message → List ℕ
entry_parts index m = take m.head.n (timestamp_of (entry_at index m).state).parts
