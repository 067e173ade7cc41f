-- The next field of what is left of a record, and what is left after it.
use Prim.Native.Nat.{ℕ}
use mathlib.Core.Path.{◌≡◌, refl}
use mathlib.Core.Bool.{Bool, true, false, cond}
use mathlib.Core.List.{List, ◌∷◌}
use lib.Dec.{eqb}
use lib.ListN.{drop}
use Rattle.runs.proofs.Cases.{split}
use Rattle.pmd.specs.declared.Field.{Field}
use Rattle.pmd.specs.declared.Field.TheVariants as F
use Rattle.pmd.specs.declared.Piece.{Piece}
use Rattle.pmd.specs.declared.Stands.{Stands}
use Rattle.pmd.specs.declared.Stands.TheVariants as S
use Rattle.pmd.specs.Table.{Part, once}
use Rattle.pmd.specs.Records.{field_of, after}
use Rattle.pmd.specs.Pieces.{has_partner, goes_on, passes}
use Rattle.pmd.specs.Shapes.{part, part_of}

pub record Next (f : Field) (left : List Part) : Type 0 where
  pub part : Part
  pub rest : List Part
  pub is : left ≡ part ∷ rest
  pub field : field_of part ≡ f

field_is : (turns : Bool) (f : Field) (stands : Stands) → field_of (part turns f stands) ≡ f
field_is turns f S.Once = refl
field_is turns f S.UntilZero = refl
field_is true f S.InPairs = refl
field_is false f S.InPairs = refl
field_is true f (S.Flag n) = refl
field_is false f (S.Flag n) = refl

pub next_piece : (turns : Bool) (p : Piece) (left : List Part) → Next p.field (part_of turns p ∷ left)
next_piece turns p left = record { part = part_of turns p; rest = left; is = refl; field = field_is turns p.field p.stands }

-- the parameter set of a pair is next
pub next_parameters : (left : List Part) → Next F.Parameters (once F.Parameters ∷ left)
next_parameters left = record { part = once F.Parameters; rest = left; is = refl; field = refl }

pub after_parameters : (left : List Part) (v : ℕ) → after (once F.Parameters ∷ left) v ≡ left
unfolding after
after_parameters left v = refl

-- what is left after the number v of a piece and, where it has one, after its partner
abbrev pub onward : Bool → Piece → List Part → ℕ → List Part
onward turns p left v = cond (goes_on p.stands v) (part_of turns p ∷ left) (drop (passes turns p.stands v) left)

-- and what is left with its partner
abbrev pub with_partner : Bool → List Part → List Part
with_partner has left = cond has (once F.Parameters ∷ left) left

after_part : (turns : Bool) (f : Field) (stands : Stands) (left : List Part) (v : ℕ)
    → after (part turns f stands ∷ left) v
    ≡ with_partner (has_partner turns stands) (cond (goes_on stands v) (part turns f stands ∷ left) (drop (passes turns stands v) left))
unfolding after
after_part turns f S.Once left v = refl
after_part turns f S.UntilZero left v = split (eqb v 0) (λ z. simp z) (λ z. simp z)
after_part true f S.InPairs left v = split (eqb v 0) (λ z. simp z) (λ z. simp z)
after_part false f S.InPairs left v = split (eqb v 0) (λ z. simp z) (λ z. simp z)
after_part true f (S.Flag n) left v = split (eqb v 0) (λ z. simp z) (λ z. simp z)
after_part false f (S.Flag n) left v = refl

pub after_piece : (turns : Bool) (p : Piece) (left : List Part) (v : ℕ) → after (part_of turns p ∷ left) v ≡ with_partner (has_partner turns p.stands) (onward turns p left v)
after_piece turns p left v = after_part turns p.field p.stands left v
