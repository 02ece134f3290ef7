-- That a mailbox is lawful: what is next for an addressee is held for him.
use Rattle.std.specs.Prelude.{ℕ, ◌≤◌, List, [], length, Contains}
use Rattle.std.proofs.Common.{arith}
use Rattle.std.proofs.lemmas.List.Folds.{find_at}
use Rattle.std.proofs.lemmas.List.Sums.{passes_at_first}
use Rattle.std.proofs.lemmas.Option.{gets}
use Rattle.std.proofs.lemmas.Bool.Decides.{nat_tests}
use Rattle.transport.specs.Parcels.{Parcel, parcel, is_for, Lawful, oldest}
use Rattle.transport.specs.Mailboxes.{parcels}
use Rattle.transport.specs.declared.mailbox.Mailbox.{Mailbox}

pub Contains-oldest : (n : ℕ) (ps : List Parcel) → 1 ≤ length (oldest n ps) → Contains ps (parcel n (oldest n ps))
Contains-oldest n ps h = grind (arith, nat_tests, gets, find_at (is_for n) ps, passes_at_first (is_for n) ps (parcel n []))

pub mailbox_lawful : (m : Mailbox) → Lawful (parcels m) 3200 (λ n _. oldest n (parcels m))
mailbox_lawful m = record { bounded = omega arith; fitting = m.fit; pending = λ n _ h. Contains-oldest n (parcels m) h }
