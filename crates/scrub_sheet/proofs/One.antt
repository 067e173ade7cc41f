-- Two tables of 128 that meet the promise of `short_numbers` on the same sheet coincide.
use mathlib.Core.Path.{◌≡◌}
use mathlib.Core.List.{List}
use mathlib.Core.Bool.{Bool, false}
use native.Mathlib.Omega.{arith}
use lib.ListN.{length}
use lib.Seq.{ext_get_or}
use Rattle.runs.proofs.Cases.{one}
use Rattle.scrub_kept.specs.Sheet.{Sheet}
use Rattle.scrub_sheet.specs.Asked.{Short}

pub short_one : (sheet : Sheet) {a b : List Bool} → length a ≡ 128 → length b ≡ 128 → Short sheet a → Short sheet b → a ≡ b
short_one sheet {a} {b} l m p q = ext_get_or false a b (one l m) (λ n h. one (p n (omega arith)) (q n (omega arith)))
