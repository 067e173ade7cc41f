-- The walk over a shape in three nested loops: over records, over the pieces of a record, over the fields of a piece. `K` is what a loop knows when
-- this is left of the record; a place, which goes on with each field, is where it stands in what it reads.
use Prim.Native.Nat.{ℕ, zero, suc, ◌+◌, ◌<◌, ◌≤◌}
use mathlib.Core.Path.{◌≡◌, refl, sym, ap, ap₂, subst, ◌∙◌}
use mathlib.Core.List.{List, [], ◌∷◌}
use mathlib.Core.Bool.{Bool, true, false}
use mathlib.Core.Logic.{◌⊎◌, inl}
use native.Mathlib.Omega.{arith}
use native.Mathlib.Numerals.{add-one}
use lib.Dec.{ltb, leb}
use lib.ListN.{length, take, drop, get_or, drop_of_length-le}
use lib.Seq.{drop-cons, drop-drop, length-take-le, get_or-take}
use borrow.Author.Tests.{ltb-true, leb-true, eqb-true}
use Rattle.std.specs.List.{list_all}
use Rattle.runs.proofs.Bools.{and_both}
use Rattle.pmd.specs.declared.Field.TheVariants as F
use Rattle.pmd.specs.declared.Piece.{Piece}
use Rattle.pmd.specs.declared.Stands.TheVariants as S
use Rattle.pmd.specs.declared.Shape.{Shape}
use Rattle.pmd.specs.Table.{width_of, Part}
use Rattle.pmd.specs.Pieces.{is_wide, goes_on, passes}
use Rattle.pmd.specs.Shapes.{part_of, parts_of, left_of}
use Rattle.pmd.proofs.Next.{onward}

-- what the checker takes to stand outside of the pieces
abbrev pub blank : Piece
blank = record { field = F.Presentation; width = 0; stands = S.Once }

-- a shape has so many pieces, each with its field's width, and further records begin at one of them
pub record Walkable (shape : Shape) : Type 0 where
  pub begins : shape.again < shape.size
  pub few : shape.size ≤ 11
  pub long : shape.size ≤ length shape.pieces
  pub wide : list_all is_wide (take shape.size shape.pieces) ≡ true

pub walkable : (shape : Shape) → Walkable shape
walkable shape =
    let begins = and_both (ltb shape.again shape.size) _ shape.walkable in
    let few = and_both (leb shape.size 11) _ begins.1 in
    let long = and_both (leb shape.size (length shape.pieces)) _ few.1 in
    record { begins = ltb-true _ _ begins.0; few = leb-true _ _ few.0; long = leb-true _ _ long.0; wide = long.1 }

wide_all : (ps : List Piece) (i : ℕ) → i < length ps → list_all is_wide ps ≡ true → (get_or ps i blank).width ≡ width_of (get_or ps i blank).field
wide_all [] i h e = absurd (omega arith)
wide_all (p ∷ ps) zero h e = eqb-true _ _ (and_both (is_wide p) (list_all is_wide ps) e).0
wide_all (p ∷ ps) (suc i) h e = wide_all ps i (omega arith) (and_both (is_wide p) (list_all is_wide ps) e).1

drop_parts : (turns : Bool) (n : ℕ) (ps : List Piece) → drop n (parts_of turns ps) ≡ parts_of turns (drop n ps)
drop_parts turns zero ps = refl
drop_parts turns (suc n) [] = refl
drop_parts turns (suc n) (p ∷ ps) = drop_parts turns n ps

-- what is left of a shape is its next piece and what is left then; behind the last piece nothing is left
module _ (turns : Bool) (shape : Shape) where
  abbrev counted : List Piece
  counted = take shape.size shape.pieces

  long : length counted ≡ shape.size
  long = length-take-le shape.size shape.pieces (walkable shape).long

  pub left_next : (i : ℕ) → i < shape.size → left_of turns shape i ≡ part_of turns (get_or shape.pieces i blank) ∷ left_of turns shape (i + 1)
  left_next i h =
      ap (parts_of turns) (drop-cons counted i blank (omega (arith, long)))
      ∙ ap₂ (λ (p : Piece) (m : ℕ). part_of turns p ∷ left_of turns shape m) (get_or-take shape.size shape.pieces i blank h) (sym (add-one i))

  left_none : (i : ℕ) → shape.size ≤ i → left_of turns shape i ≡ []
  left_none i h = ap (parts_of turns) (drop_of_length-le counted {i = i} (omega (arith, long)))

  -- pieces that are passed over
  left_passed : (i n : ℕ) → drop n (left_of turns shape i) ≡ left_of turns shape (i + n)
  left_passed i n = drop_parts turns n (drop i counted) ∙ ap (parts_of turns) (drop-drop n i counted)

  -- a piece has its field's width
  wide_at : (i : ℕ) → i < shape.size → (get_or shape.pieces i blank).width ≡ width_of (get_or shape.pieces i blank).field
  wide_at i h =
      subst (λ (p : Piece). p.width ≡ width_of p.field) (get_or-take shape.size shape.pieces i blank h)
      (wide_all counted i (omega (arith, long)) (walkable shape).wide)

pub record Records (K : List Part → Type 0) (turns : Bool) (shape : Shape) (i : ℕ) : Type 0 where
  pub known : K (left_of turns shape i)
  pub there : i < shape.size

-- since the loop began, at i₀, the place went on, unless the loop is still there
pub record Pieces (K : List Part → Type 0) (turns : Bool) (shape : Shape) (place₀ i₀ place i : ℕ) : Type 0 where
  pub known : K (left_of turns shape i)
  pub since : place₀ ≤ place
  pub gone : (place₀ < place) ⊎ (i ≡ i₀)

-- a field of the piece i is due, which has its field's width
pub record Fields (K : List Part → Type 0) (turns : Bool) (shape : Shape) (i : ℕ) (piece : Piece) (place₀ place : ℕ) : Type 0 where
  pub known : K (part_of turns piece ∷ left_of turns shape (i + 1))
  pub wide : piece.width ≡ width_of piece.field
  pub since : place₀ ≤ place

module _ {K : List Part → Type 0} {turns : Bool} {shape : Shape} {place₀ i₀ place i : ℕ} (p : Pieces K turns shape place₀ i₀ place i) where
  pub fields_begin : i < shape.size → Fields K turns shape i (get_or shape.pieces i blank) place place
  fields_begin h = record { known = subst K (left_next turns shape i h) p.known; wide = wide_at turns shape i h; since = omega arith }

  -- the piece is over, after a field with the number v
  pub pieces_on : {L : List Part → Type 0} (piece : Piece) (v : ℕ) {next n : ℕ} → place < next → goes_on piece.stands v ≡ false → n ≡ passes turns piece.stands v
      → L (onward turns piece (left_of turns shape (i + 1)) v) → Pieces L turns shape place₀ i₀ next (i + (1 + n))
  pieces_on {L} piece v {next} {n} h off passed known =
      let same : (i + 1) + n ≡ i + (1 + n) = omega arith in
      record {
        known =
            subst L
            (ap (λ (k : ℕ). drop k (left_of turns shape (i + 1))) (sym passed) ∙ left_passed turns shape (i + 1) n ∙ ap (left_of turns shape) same)
            (simp off at known);
        since = omega (arith, p.since);
        gone = inl (omega (arith, p.since));
      }

  -- the record is over, and the place went on
  pub pieces_over : shape.size ≤ i → K []
  pieces_over h = subst K (left_none turns shape i h) p.known

-- one field more, with the number v
module _ {K : List Part → Type 0} {turns : Bool} {shape : Shape} {i : ℕ} {piece : Piece} {place₀ place : ℕ} (f : Fields K turns shape i piece place₀ place) where
  pub fields_on : {L : List Part → Type 0} (v : ℕ) {next : ℕ} → place < next → goes_on piece.stands v ≡ true → L (onward turns piece (left_of turns shape (i + 1)) v)
      → Fields L turns shape i piece place₀ next
  fields_on {L} v h on k = record { known = simp on at k; wide = f.wide; since = omega (arith, f.since) }
