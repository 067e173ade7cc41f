-- A field with the byte after it, as it is written.
use mathlib.Core.List.{List, [], ◌∷◌, ◌++◌}
use Prim.Native.Nat.{ℕ, ◌+◌}
use native.Mathlib.Omega.{arith}
use lib.ListN.{length-append}
use Rattle.runs.specs.Over.{Wrote}
use Rattle.figures.specs.Fields.{FieldPut}

pub field_put : {xs us : List ℕ} {at n : ℕ} (text : List ℕ) (end : ℕ) → Wrote xs at (text ++ (end ∷ [])) n us → FieldPut xs at text end n us
field_put text end w = record { next = omega (arith, w.next, length-append text (end ∷ [])); wrote = w }
