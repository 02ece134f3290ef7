-- Messages as text.
--
-- spaced ps          numbers in decimal, parted by one space
-- entry_text n e     an entry of a message among n replicas
-- entries_text n es  its entries, each behind a line end
-- head_text k h      the head of a message of the kind numbered k
-- message_text k m   a message of the kind numbered k: a line on its head, and a line on each entry
use Rattle.std.specs.Prelude.{ℕ, List, [], ◌∷◌, ◌++◌, length, take, codes, decimal}
use Rattle.gossip.specs.Messages.{Message}
use Rattle.gossip.specs.Numbers.{joined}
use Rattle.gossip.specs.declared.entry.Entry.{Entry}
use Rattle.gossip.specs.declared.entry.State.{State}
use Rattle.gossip.specs.declared.entry.State.TheVariants.{Value, Tombstone}
use Rattle.gossip.specs.declared.head.Head.{Head}

abbrev pub spaced : List ℕ → List ℕ
spaced [] = []
spaced (p ∷ ps) = decimal p ++ joined (λ q. codes " " ++ decimal q) ps

abbrev pub state_text : ℕ → State → List ℕ
state_text n (Value v) = codes " value " ++ decimal v
state_text n (Tombstone t s) = codes " deleted " ++ (decimal t ++ (codes " timestamp " ++ spaced (take n s.parts)))

abbrev pub entry_text : ℕ → Entry → List ℕ
entry_text n e = codes "seat " ++ (decimal e.seat ++ state_text n e.state)

abbrev pub entries_text : ℕ → List Entry → List ℕ
entries_text n es = joined (λ e. codes "\n" ++ entry_text n e) es

abbrev pub head_text : ℕ → Head → List ℕ
head_text k h =
    codes "gossip kind " ++ (decimal k
    ++ (codes " n " ++ (decimal h.n
    ++ (codes " sender " ++ (decimal h.sender
    ++ (codes " group " ++ (decimal h.group
    ++ (codes " clock " ++ (decimal h.clock
    ++ (codes " timestamp " ++ spaced (take h.n h.timestamp.parts)))))))))))

abbrev pub message_text : ℕ → Message → List ℕ
message_text k m = head_text k m.head ++ (codes " entries " ++ (decimal (length m.entries) ++ entries_text m.head.n m.entries))
