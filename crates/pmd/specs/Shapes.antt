-- Inner. What is left of a shape where the loops of the reader and the writer stand, and a list that has room.
use Rattle.std.specs.Prelude.{◌≡◌, List, [], ◌∷◌, Bool, cond, ℕ, ◌≤◌, length, take, drop}
use Rattle.refusals.specs.Outcomes.{Outcome, fine}
use Rattle.pmd.specs.declared.Field.{Field}
use Rattle.pmd.specs.declared.Field.TheVariants as F
use Rattle.pmd.specs.declared.Piece.{Piece}
use Rattle.pmd.specs.declared.Shape.{Shape}
use Rattle.pmd.specs.declared.Stands.{Stands}
use Rattle.pmd.specs.declared.Stands.TheVariants as S
use Rattle.pmd.specs.Table.{Part, once, until, pairs, flag}

-- A part of a record by how its field stands. A walk that is not one of turnarounds looks for no parameter sets and passes over nothing.
abbrev pub part : Bool → Field → Stands → Part
part turns f S.Once = once f
part turns f S.UntilZero = until f
part turns f S.InPairs = cond turns (pairs f F.Parameters) (until f)
part turns f (S.Flag n) = cond turns (flag f n) (once f)

abbrev pub part_of : Bool → Piece → Part
part_of turns p = part turns p.field p.stands

abbrev pub parts_of : Bool → List Piece → List Part
parts_of turns [] = []
parts_of turns (p ∷ ps) = part_of turns p ∷ parts_of turns ps

-- what is left of a shape from its piece i on
abbrev pub left_of : Bool → Shape → ℕ → List Part
left_of turns shape i = parts_of turns (drop i (take shape.size shape.pieces))

-- an outcome is a list that has room, so that it can be stored or put without a look at what might be wrong
pub record Roomy (o : Outcome (List ℕ)) (room : ℕ) : Type 0 where
  pub list : List ℕ
  pub is : o ≡ fine list
  pub fits : length list ≤ room
