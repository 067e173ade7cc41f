-- The writer of a field admits one outcome.
use Prim.Native.Nat.{ℕ}
use mathlib.Core.Path.{◌≡◌}
use mathlib.Core.List.{List}
use Rattle.runs.proofs.Over.{wrote_one}
use Rattle.figures.specs.Fields.{FieldPut}

pub field_one : (xs : List ℕ) (at : ℕ) (text : List ℕ) (end m n : ℕ) (us vs : List ℕ) → FieldPut xs at text end m us → FieldPut xs at text end n vs → (m ≡ n) × (us ≡ vs)
field_one xs at text end m n us vs g h = wrote_one g.wrote h.wrote
