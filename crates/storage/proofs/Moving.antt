-- Bytes saved that are moved number by number, but for one number's.
use Rattle.std.proofs.Common.{◌≡◌, ℕ, ◌+◌, ◌*◌, ◌<◌, ◌≤◌, ◌≢◌, List, [], length, get_or, set, ◌∙◌, sym, arith, length-set}
use Rattle.std.proofs.lemmas.Grind.{common_steps}
use Rattle.std.proofs.lemmas.List.{ext_get_or}
use Rattle.storage.specs.Halves.{contents}
use Rattle.storage.specs.declared.log.LogStore.{LogStore}
use Rattle.storage.specs.declared.log.half.Half.{Half}

-- found has the first k of what is saved, without that of n, and nothing else
pub record Moved (saved : List (List ℕ)) (n k : ℕ) (found : List (List ℕ)) : Type 0 where
  pub front : (j : ℕ) → j < k → get_or found j [] ≡ get_or (set saved n []) j []
  pub rest : (j : ℕ) → k ≤ j → get_or found j [] ≡ []

-- the store s, when the bytes of the first k numbers of the half a are moved
pub record Turn (s : LogStore) (a : Half) (n k : ℕ) : Type 0 where
  pub active : s.active ≡ a
  pub used : s.spare.used ≤ 3324 * k
  pub moved : Moved (contents a) n k (contents s.spare)

module _ (saved : List (List ℕ)) (n k : ℕ) (found : List (List ℕ)) (m : Moved saved n k found) where
  -- the number's own bytes are not moved
  pub moved_own : k ≡ n → Moved saved n (k + 1) found
  moved_own e = record { front = λ j lt. grind (arith, common_steps, m.front j, m.rest j); rest = λ j le. m.rest j (omega arith) }

  -- nor are those of a number with nothing saved
  pub moved_nothing : get_or saved k [] ≡ [] → Moved saved n (k + 1) found
  moved_nothing e = record { front = λ j lt. grind (arith, common_steps, m.front j, m.rest j); rest = λ j le. m.rest j (omega arith) }

  -- any other's are
  pub moved_put : k < length found → k ≢ n → Moved saved n (k + 1) (set found k (get_or saved k []))
  moved_put lt ne = record { front = λ j l. grind (arith, common_steps, m.front j); rest = λ j le. grind (arith, common_steps, m.rest j) }

  pub moved_all : length saved ≡ 7 → length found ≡ 7 → 7 ≤ k → found ≡ set saved n []
  moved_all a b le = ext_get_or [] found (set saved n []) (b ∙ sym a ∙ sym (length-set saved n [])) (λ i lt. m.front i (omega arith))
