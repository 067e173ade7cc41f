-- `pack_check::count_inside` meets its contract. The loop keeps what is left (crates/pack/proofs/Inside.antt), for any ground and any fuel that is enough.
use Rattle.pack.specs.Payloads.{Ground}
use Rattle.pack.proofs.Inside.{SomeWithin}
use Prim.Native.Nat.{ℕ, ◌-◌, ◌≤◌}
use lib.ListN.{length}
use Rattle.pack_check.proofs.count_inside.Given as goal

abbrev pub invariant-loop-at : goal.invariant-loop-at
invariant-loop-at l = (grounds : Ground) (k : ℕ) → length l.q ≤ k → SomeWithin l.q grounds l.base k l.used l.n l.at

abbrev pub decreases-loop-at : goal.decreases-loop-at
decreases-loop-at l = length l.q - l.at
