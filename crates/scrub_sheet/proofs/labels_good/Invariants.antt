-- `scrub_sheet::labels_good` meets its contract. The labels that are left decide what all of them do.
use mathlib.Core.Path.{◌≡◌}
use Prim.Native.Nat.{◌+◌, ◌-◌, ◌*◌}
use Rattle.scrub_kept.specs.Sheet.{labels_at, labels_good}
use Rattle.scrub_sheet.proofs.labels_good.Given as goal

abbrev pub invariant-loop-k : goal.invariant-loop-k
invariant-loop-k l = labels_good (labels_at l.s (l.at + 16 * l.k) (l.count - l.k)) ≡ labels_good (labels_at l.s l.at l.count)
