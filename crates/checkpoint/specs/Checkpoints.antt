-- What a checkpoint says, and which checkpoints there are.
--
-- Saved                     a replica's message, and seven rows: row j is the latest timestamp that it has heard from replica j
-- zero                      the timestamp that covers no change
-- row rows j                row j, zero past the end
-- rows_all_hold own t rows  each row is at or under the timestamp t, and the row of replica own, its own, is at or above t too, and so equals it
-- sound_rows n own t rows   the rows of replica own of n whose timestamp is t: they hold, and those from the n-th on are zero
-- sound_saved c             the message is sound, and so are the rows
use Rattle.std.specs.Prelude.{ℕ, Bool, ◌&&◌, List, [], length, drop, ◌==◌, slice_index_or}
use Rattle.std.specs.List.{list_all}
use Rattle.gossip.specs.Messages.{Message, sound, wide_timestamp}
use Rattle.gossip.specs.Timestamps.{under, padded, zero_from}
use Rattle.gossip.specs.declared.timestamp.Timestamp.{Timestamp}

pub record Saved : Type 0 where
  pub message : Message
  pub rows : List Timestamp

abbrev pub zero : Timestamp
zero = record { parts = padded [] }

abbrev pub row : List Timestamp → ℕ → Timestamp
row rows j = slice_index_or rows j zero

abbrev pub rows_all_hold : ℕ → Timestamp → List Timestamp → Bool
rows_all_hold own t rows = list_all (λ r. under r.parts t.parts) rows && under t.parts (row rows own).parts

abbrev pub sound_rows : ℕ → ℕ → Timestamp → List Timestamp → Bool
sound_rows n own t rows =
    (length rows == 7)
    && (list_all wide_timestamp rows
    && (list_all (λ r. zero_from 0 r.parts) (drop n rows)
    && rows_all_hold own t rows))

abbrev pub sound_saved : Saved → Bool
sound_saved c = sound c.message && sound_rows c.message.head.n c.message.head.sender c.message.head.timestamp c.rows
