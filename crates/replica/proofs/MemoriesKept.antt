-- What is sound of a replica's memory, part by part, and how each accepted step keeps it so.
use Rattle.std.proofs.Common.{◌≡◌, ℕ, ◌^◌, ◌<◌, ◌≤◌, true, eqb, ltb, leb, length, take, set as update, replicate, sym, refl, ap, ◌∙◌, arith}
use Rattle.std.specs.List.{list_all}
use Rattle.std.proofs.lemmas.Bool.{and_parts, and_from, eqb-true, leb-true, ltb-true}
use Rattle.gossip.specs.Lattices.{Kind}
use Rattle.gossip.specs.Messages.{Message, sound, sound_entry, origin, wide_timestamp, wide_state, allowed, latest, rises, seats}
use Rattle.gossip.specs.Timestamps.{part, under, zero_from}
use Rattle.gossip.specs.declared.entry.State.{State}
use Rattle.gossip.proofs.Loops.{every-at, every_drop}
use Rattle.gossip.proofs.Sound.{parts, whole, head_to_parts, head_whole, origin_parts}
use Rattle.gossip.proofs.TimestampBytes.{zero_from_zeros}
use Rattle.gossip.proofs.TimestampLaws.{under-merged-left, under-merged_right, merged_least}
use Rattle.checkpoint.specs.Checkpoints.{zero, row}
use Rattle.checkpoint.proofs.Rows.{RowsParts, rows_parts, rows_sound}
use Rattle.table.specs.Entries.{put, fits, merge}
use Rattle.table.proofs.Merges.{rises_merge}
use Rattle.table.proofs.Puts.{rises-put}
use Rattle.table.proofs.Sweeps.{rises-swept, length-swept}
use Rattle.replica.specs.Memories.{Memory, fresh, message_of, sound_memory}
use Rattle.replica.specs.Steps.{clock_now, raised, stored, together, learnt, is_of, swept_of}
use Rattle.replica.specs.declared.membership.Membership.{Membership}
use Rattle.replica.proofs.EntriesKept.{every-put, every-swept, entries_wider, sound-merge}
use Rattle.replica.proofs.RowsKept.{rows_wider, rows_update, rows_own, row_wide, row_covered}
use Rattle.replica.proofs.TimestampBounds.{under-bumped, zero_from-set, zero_from-merged, wide_bumped, wide_merged}

-- the plain facts of a sound memory
pub record MemoryParts (p : Membership) (m : Memory) : Type 0 where
  pub some : 1 ≤ p.n
  pub most : p.n ≤ 7
  pub member : p.replica < p.n
  pub group : p.group < 2 ^ 32
  pub clock : m.clock ≤ latest
  pub wide : wide_timestamp m.timestamp ≡ true
  pub zeros : zero_from p.n m.timestamp.parts ≡ true
  pub few : length m.entries ≤ 64
  pub rising : rises (seats m.entries) ≡ true
  pub each : list_all (sound_entry m.timestamp) m.entries ≡ true
  pub rows : RowsParts p.n m.timestamp m.rows
  -- the own row is at or above the timestamp
  pub own : under m.timestamp.parts (row m.rows p.replica).parts ≡ true

pub memory_parts : (p : Membership) (m : Memory) → sound_memory p m ≡ true → MemoryParts p m
memory_parts p m s =
    let a = and_parts (sound (message_of p m)) _ s in
    let b = parts (message_of p m) a.0 in
    let c = head_to_parts (message_of p m).head b.head in
    let d = rows_parts p.n p.replica m.timestamp m.rows a.1 in
    record {
      some = c.some;
      most = c.most;
      member = c.member;
      group = c.group;
      clock = c.clock;
      wide = c.wide;
      zeros = c.zeros;
      few = b.few;
      rising = b.rising;
      each = b.each;
      rows = d.0;
      own = d.1;
    }

pub memory_whole : (p : Membership) (m : Memory) → MemoryParts p m → sound_memory p m ≡ true
memory_whole p m s =
    let h = head_whole (message_of p m).head record { some = s.some; most = s.most; member = s.member; group = s.group; clock = s.clock; wide = s.wide; zeros = s.zeros } in
    and_from _ _
    (whole (message_of p m) record { head = h; few = s.few; rising = s.rising; each = s.each })
    (rows_sound p.n p.replica m.timestamp m.rows s.rows s.own)

-- How it starts, and the steps

pub fresh-sound : (p : Membership) → origin p.n p.replica ≡ true → ltb p.group (2 ^ 32) ≡ true → sound_memory p fresh ≡ true
fresh-sound p o g =
    let a = origin_parts p.n p.replica o in
    memory_whole p fresh record {
      some = a.0;
      most = a.1;
      member = a.2;
      group = ltb-true _ _ g;
      clock = omega arith;
      wide = refl;
      zeros = zero_from_zeros p.n 7;
      few = omega arith;
      rising = refl;
      each = refl;
      rows = record { long = refl; wide = refl; zeros = every_drop (λ r. zero_from 0 r.parts) p.n (replicate 7 zero) refl; beneath = refl };
      own = every-at (λ r. under zero.parts r.parts) (replicate 7 zero) p.replica zero (omega arith) refl;
    }

-- the own part may rise by one where it is not the largest
pub raised_wide : (p : Membership) (m : Memory) → sound_memory p m ≡ true → ltb (part m.timestamp.parts p.replica) 4294967295 ≡ true → wide_timestamp (raised p m) ≡ true
raised_wide p m s l = wide_bumped m.timestamp p.replica (memory_parts p m s).wide l

-- an accepted change
pub stored-sound : (p : Membership) (m : Memory) (c u : ℕ) (x : State) → sound_memory p m ≡ true → leb c latest ≡ true → ltb u (2 ^ 64) ≡ true → wide_state x ≡ true
    → allowed (raised p m) x ≡ true → fits (put m.entries u x) ≡ true → ltb (part m.timestamp.parts p.replica) 4294967295 ≡ true → sound_memory p (stored p m c u x (raised p m)) ≡ true
stored-sound p m c u x s reading seat wide fine room l =
    let h = memory_parts p m s in
    let k = leb-true c latest reading in
    let t = raised p m in
    let w = raised_wide p m s l in
    let g = under-bumped m.timestamp.parts p.replica in
    let r = rows_own p.n t m.rows (rows_wider p.n m.timestamp t m.rows g h.rows) p.replica h.member h.most w in
    memory_whole p (stored p m c u x t) record {
      some = h.some;
      most = h.most;
      member = h.member;
      group = h.group;
      clock = omega (arith, h.clock);
      wide = w;
      zeros = zero_from-set p.n m.timestamp.parts p.replica _ h.member h.zeros;
      few = leb-true _ 64 room;
      rising = rises-put m.entries u x h.rising;
      each = every-put (sound_entry t) m.entries u x (entries_wider m.timestamp t m.entries g h.each) (and_from _ _ seat (and_from _ _ wide fine));
      rows = r.0;
      own = r.1;
    }

-- a message with news
pub learnt-sound : (k : Kind) (p : Membership) (m : Memory) (g : Message) (c : ℕ) → sound_memory p m ≡ true → sound g ≡ true → is_of p g ≡ true → leb c latest ≡ true
    → fits (merge k.join m.entries g.entries) ≡ true → sound_memory p (learnt k p m g c) ≡ true
learnt-sound k p m g c s told ours reading room =
    let h = memory_parts p m s in
    let b = parts g told in
    let d = head_to_parts g.head b.head in
    let e : g.head.n ≡ p.n = eqb-true _ _ (and_parts (eqb g.head.group p.group) _ ours).1 in
    let i = leb-true c latest reading in
    let t = together m.timestamp g.head.timestamp in
    let before = under-merged-left m.timestamp.parts g.head.timestamp.parts in
    let news = under-merged_right m.timestamp.parts g.head.timestamp.parts in
    let w = wide_merged m.timestamp g.head.timestamp h.wide d.wide in
    let from : g.head.sender < p.n = omega (arith, d.member) in
    let within : g.head.sender < 7 = omega (arith, h.most) in
    let old = rows_wider p.n m.timestamp t m.rows before h.rows in
    let heard = together (row m.rows g.head.sender) g.head.timestamp in
    let senders = rows_update p.n t m.rows old g.head.sender heard from
    (wide_merged (row m.rows g.head.sender) g.head.timestamp (row_wide p.n t m.rows old g.head.sender within) d.wide)
    (merged_least (row m.rows g.head.sender).parts g.head.timestamp.parts t.parts (row_covered p.n t m.rows old g.head.sender within) news) in
    let r = rows_own p.n t (update m.rows g.head.sender heard) senders p.replica h.member h.most w in
    memory_whole p (learnt k p m g c) record {
      some = h.some;
      most = h.most;
      member = h.member;
      group = h.group;
      clock = omega (arith, h.clock);
      wide = w;
      zeros = zero_from-merged p.n m.timestamp.parts g.head.timestamp.parts h.zeros (ap (λ n. zero_from n g.head.timestamp.parts) (sym e) ∙ d.zeros);
      few = leb-true _ 64 room;
      rising = rises_merge k.join m.entries g.entries h.rising;
      each = sound-merge k.join t m.entries g.entries (entries_wider m.timestamp t m.entries before h.each) (entries_wider g.head.timestamp t g.entries news b.each);
      rows = r.0;
      own = r.1;
    }

-- a sweep: clock and entries change, and no more
pub swept-sound : (p : Membership) (m : Memory) (c : ℕ) → sound_memory p m ≡ true → leb c latest ≡ true → sound_memory p (swept_of p m c) ≡ true
swept-sound p m c s reading =
    let h = memory_parts p m s in
    let k = leb-true c latest reading in
    memory_whole p (swept_of p m c) record {
      some = h.some;
      most = h.most;
      member = h.member;
      group = h.group;
      clock = omega (arith, h.clock);
      wide = h.wide;
      zeros = h.zeros;
      few = omega (arith, h.few, length-swept p.grace (clock_now m c) (take p.n m.rows) m.entries);
      rising = rises-swept p.grace (clock_now m c) (take p.n m.rows) m.entries h.rising;
      each = every-swept (sound_entry m.timestamp) p.grace (clock_now m c) (take p.n m.rows) m.entries h.each;
      rows = h.rows;
      own = h.own;
    }
