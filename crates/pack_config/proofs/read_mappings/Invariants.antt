-- `pack_config::read_mappings` meets its contract. The loop keeps what is left (proofs/Maps), whatever the fuel that the definition is given, if it is enough.
use Rattle.std.proofs.Common.{ℕ, ◌+◌, ◌-◌, ◌≤◌, length}
use Rattle.pack_config.proofs.Maps.{Sofar}
use Rattle.pack_config.proofs.read_mappings.Given as goal

abbrev pub invariant-loop-at : goal.invariant-loop-at
invariant-loop-at l = (k : ℕ) → length l.c ≤ l.from + k → Sofar l.c l.place l.from k l.maps l.marks l.at

abbrev pub decreases-loop-at : goal.decreases-loop-at
decreases-loop-at l = length l.c - l.at
