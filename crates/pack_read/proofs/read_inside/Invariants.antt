-- `pack_read::read_inside` meets its contract. The loop keeps what is left, and that the slots hold the payloads so far (proofs/Listing), for any fuel that
-- is enough.
use Rattle.std.proofs.Common.{ℕ, ◌-◌, ◌≤◌, length, take}
use Rattle.pack.specs.Payloads.{ground_of}
use Rattle.pack_read.proofs.Listing.{Filling}
use Rattle.pack_read.proofs.read_inside.Given as goal

abbrev pub invariant-loop-at : goal.invariant-loop-at
invariant-loop-at l = (fuel : ℕ) → length l.q ≤ fuel → Filling l.q (ground_of (take l.maps.count l.maps.tags) l.total) l.base fuel l.used l.initial.items l.items l.n l.at

abbrev pub decreases-loop-at : goal.decreases-loop-at
decreases-loop-at l = length l.q - l.at
