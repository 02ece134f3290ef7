-- When one more entry fits a table.
use Rattle.std.proofs.Common.{◌≡◌, ℕ, ◌<◌, ◌≤◌, true, List, length, is_some, arith}
use Rattle.std.proofs.lemmas.Bool.Decides.{nat_tests}
use Rattle.gossip.specs.declared.entry.Entry.{Entry}
use Rattle.gossip.specs.declared.entry.State.{State}
use Rattle.table.specs.Entries.{find, put, fits}
use Rattle.table.specs.Tables.{Sorted}
use Rattle.table.proofs.Puts.{length-put}

module _ (es : List Entry) (s : Sorted es) (u : ℕ) (x : State) where
  pub fits_short : length es < 64 → fits (put es u x) ≡ true
  fits_short h = grind (arith, nat_tests, length-put es u x s.rising)

  -- a full table has room for a seat that has an entry
  pub fits_full : 64 ≤ length es → fits (put es u x) ≡ is_some (find es u)
  fits_full h = grind (arith, nat_tests, length-put es u x s.rising, s.few)
