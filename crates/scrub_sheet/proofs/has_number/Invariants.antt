-- `scrub_sheet::has_number` meets its contract. The numbers that are left decide what all of them do.
use mathlib.Core.Path.{◌≡◌}
use Prim.Native.Nat.{◌+◌, ◌-◌, ◌*◌}
use Rattle.runs.specs.Same.{among}
use Rattle.scrub_kept.specs.Sheet.{numbers_at}
use Rattle.scrub_sheet.proofs.has_number.Given as goal

abbrev pub invariant-loop-k : goal.invariant-loop-k
invariant-loop-k l = among l.n (numbers_at l.s (l.at + 4 * l.k) (l.count - l.k)) ≡ among l.n (numbers_at l.s l.at l.count)
