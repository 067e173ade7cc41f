-- What is left of a kind's shape is what its records have.
use Prim.Native.Nat.{ℕ}
use mathlib.Core.Path.{◌≡◌, refl, sym, ap, ap₂, subst, ◌∙◌}
use mathlib.Core.Bool.{Bool, true, false}
use mathlib.Core.List.{List}
use lib.ListN.{length, take, drop}
use Rattle.pmd.specs.declared.Kind.{Kind}
use Rattle.pmd.specs.declared.Kind.TheVariants as K
use Rattle.pmd.specs.declared.Piece.{Piece}
use Rattle.pmd.specs.declared.Shape.{Shape}
use Rattle.pmd.specs.Table.{Part, once_of, record_of}
use Rattle.pmd.specs.Records.{first_record}
use Rattle.pmd.specs.Pieces.{pieces_of, filled}
use Rattle.pmd.specs.Shapes.{parts_of, left_of}

pub record ShapeFor (turns : Bool) (kind : Kind) (shape : Shape) : Type 0 where
  pub first : left_of turns shape 0 ≡ first_record kind
  pub again : left_of turns shape shape.again ≡ record_of kind

-- what is left of a kind's pieces from the piece i on
abbrev left : Bool → Kind → ℕ → List Part
left turns kind i = parts_of turns (drop i (take (length (pieces_of kind)) (filled (pieces_of kind))))

abbrev Holds : Bool → Kind → Type 0
Holds turns kind = (left turns kind 0 ≡ first_record kind) × (left turns kind (length (once_of kind)) ≡ record_of kind)

in_row : (kind : Kind) → (kind ≡ K.Etd → ⊥) → Holds false kind
in_row K.Apd h = (refl, refl)
in_row K.Apn h = (refl, refl)
in_row K.Aod h = (refl, refl)
in_row K.Xyz h = (refl, refl)
in_row K.Aen h = (refl, refl)
in_row K.Esn h = (refl, refl)
in_row K.Etd h = absurd (h refl)

-- the shape is that of the kind
module _ (kind : Kind) (shape : Shape) (pieces : shape.pieces ≡ filled (pieces_of kind)) (again : shape.again ≡ length (once_of kind)) (size : shape.size ≡ length (pieces_of kind)) where
  left_is : (turns : Bool) (i j : ℕ) → i ≡ j → left_of turns shape i ≡ left turns kind j
  left_is turns i j e =
      ap (λ (k : ℕ). left_of turns shape k) e
      ∙ ap₂ (λ (n : ℕ) (ps : List Piece). parts_of turns (drop j (take n ps))) size pieces

  shape_for : (turns : Bool) → Holds turns kind → ShapeFor turns kind shape
  shape_for turns h = record { first = left_is turns 0 0 refl ∙ h.0; again = left_is turns _ _ again ∙ h.1 }

  pub shape_turns : kind ≡ K.Etd → ShapeFor true kind shape
  shape_turns e = shape_for true (let h : Holds true K.Etd = (refl, refl) in subst (Holds true) (sym e) h)

  pub shape_row : (kind ≡ K.Etd → ⊥) → ShapeFor false kind shape
  shape_row e = shape_for false (in_row kind e)
