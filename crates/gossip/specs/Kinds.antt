-- The kinds that are shipped, by their numbers in messages.
--
-- lattice_of k  the kind as the message format speaks of it
-- named n       the kind with the number n, or that there is none
-- Named n r     r is that answer
use Rattle.std.specs.Prelude.{◌≡◌, ℕ, cond, Ok, Err, Result, ◌==◌}
use Rattle.gossip.specs.Lattices as lattices
use Rattle.gossip.specs.declared.kind.Kind.{Kind}
use Rattle.gossip.specs.declared.kind.Kind.TheVariants.{Counts, Ports}
use Rattle.gossip.specs.declared.kind.UnknownKind.{UnknownKind}

abbrev pub lattice_of : Kind → lattices.Kind
lattice_of Counts = lattices.counts
lattice_of Ports = lattices.ports

abbrev pub named : ℕ → Result Kind UnknownKind
named n = cond (n == 1) (Ok Counts) (cond (n == 2) (Ok Ports) (Err record {}))

abbrev pub Named : ℕ → Result Kind UnknownKind → Type 0
Named n r = r ≡ named n
