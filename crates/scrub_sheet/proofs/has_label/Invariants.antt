-- `scrub_sheet::has_label` meets its contract. The labels that are left decide what all of them do.
use mathlib.Core.Path.{◌≡◌}
use Prim.Native.Nat.{◌+◌, ◌-◌, ◌*◌}
use lib.ListN.{take, drop}
use Rattle.runs.specs.Same.{listed}
use Rattle.scrub_kept.specs.Sheet.{labels_at}
use Rattle.scrub_sheet.proofs.has_label.Given as goal

abbrev pub invariant-loop-k : goal.invariant-loop-k
invariant-loop-k l = listed (take 16 (drop l.i l.p)) (labels_at l.s (l.at + 16 * l.k) (l.count - l.k)) ≡ listed (take 16 (drop l.i l.p)) (labels_at l.s l.at l.count)
