-- Inner. The bits of numbers as records of a shape, how many they are, and the fields of which most numbers need no look at a rule.
use Rattle.std.specs.Prelude.{List, Bool, cond, ℕ, leb, length}
use Rattle.refusals.specs.Outcomes.{Outcome}
use Rattle.pmd.specs.Table.{Part}
use Rattle.pmd.specs.Writing.{write_from}
use Rattle.pmd.specs.declared.Field.{Field}
use Rattle.pmd.specs.declared.Field.TheVariants as F
use Rattle.pmd.specs.declared.Shape.{Shape}
use Rattle.pmd.specs.Shapes.{left_of}

-- by the parts up to the end of the first record, and those of every further one
abbrev pub write_by : List Part → List Part → List ℕ → Outcome (List ℕ)
write_by again first vs = write_from again first vs 0

abbrev pub write_shape : Bool → Shape → List ℕ → Outcome (List ℕ)
write_shape turns shape vs = write_by (left_of turns shape shape.again) (left_of turns shape 0) vs

-- how many bits a list of numbers takes; one more than a value has, for a list of more numbers than that
abbrev pub weight : List ℕ → List ℕ → ℕ
weight vs bs = cond (leb (length vs) 32768) (length bs) 32769

-- from which number on a field takes every number of its width; from none on, if that is more than its width has
abbrev pub free_from : Field → ℕ
free_from F.Presentation = 1
free_from F.SpeakerConfig = 32768
free_from F.Langcod = 32768
free_from F.Element = 1
free_from F.Class = 32768
free_from F.Coordinate = 1
free_from F.Substream = 1
free_from F.Turnaround = 1
free_from F.FrameRate = 32768
free_from F.ProgramConfig = 32768
free_from _ = 0
