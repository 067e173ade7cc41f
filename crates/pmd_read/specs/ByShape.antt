-- Inner. The reading of a value whose records are those of a shape.
use Rattle.std.specs.Prelude.{List, Bool, ℕ, suc, ◌*◌, length}
use Rattle.bits.specs.Bits.{bits}
use Rattle.refusals.specs.Outcomes.{Outcome}
use Rattle.pmd.specs.Table.{Part}
use Rattle.pmd.specs.Reading.{read_from}
use Rattle.pmd.specs.declared.Shape.{Shape}
use Rattle.pmd.specs.Shapes.{left_of}

-- by the parts up to the end of the first record, and those of every further one
abbrev pub read_by : List Part → List Part → List ℕ → Outcome (List ℕ)
read_by again first s = read_from (suc (8 * length s)) again first (bits s) 0

abbrev pub read_shape : Bool → Shape → List ℕ → Outcome (List ℕ)
read_shape turns shape s = read_by (left_of turns shape shape.again) (left_of turns shape 0) s
