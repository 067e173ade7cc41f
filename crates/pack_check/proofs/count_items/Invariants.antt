-- `pack_check::count_items` meets its contract. The loop keeps what is left (crates/pack/proofs/Coming.antt), for any ground.
use Rattle.pack.specs.Payloads.{Ground}
use Rattle.pack.proofs.Coming.{Counting}
use Prim.Native.Nat.{◌-◌}
use lib.ListN.{length}
use Rattle.pack_check.proofs.count_items.Given as goal

abbrev pub invariant-loop-at : goal.invariant-loop-at
invariant-loop-at l = (grounds : Ground) → Counting l.s grounds l.from l.n l.at

abbrev pub decreases-loop-at : goal.decreases-loop-at
decreases-loop-at l = length l.s - l.at
