-- Inner. What the loops of the reader and the writer go by: the pieces of a kind as they walk them, and the number of a value.
use Rattle.std.specs.Prelude.{List, [], ◌∷◌, ◌++◌, Bool, false, cond, ◌&&◌, ◌==◌, ℕ, ◌-◌, nat_lt, nat_le, eqb, length, take, replicate}
use Rattle.std.specs.List.{list_all}
use Rattle.pmd.specs.declared.Field.{Field}
use Rattle.pmd.specs.declared.Field.TheVariants as F
use Rattle.pmd.specs.declared.Kind.{Kind}
use Rattle.pmd.specs.declared.Kind.TheVariants as K
use Rattle.pmd.specs.declared.Piece.{Piece}
use Rattle.pmd.specs.declared.Stands.{Stands}
use Rattle.pmd.specs.declared.Stands.TheVariants as S
use Rattle.pmd.specs.declared.Value.{Value}
use Rattle.pmd.specs.declared.Value.TheVariants as X
use Rattle.pmd.specs.Table.{width_of, nonzero}

-- the number that stands for a value
abbrev pub as_number : Value → ℕ
as_number (X.Presentation id) = id.0
as_number (X.Element id) = id.0
as_number (X.Substream id) = id.0
as_number (X.Turnaround id) = id.0
as_number (X.Parameters id) = id.0
as_number (X.SpeakerConfig v) = v
as_number (X.Langcod v) = v
as_number (X.Class v) = v
as_number (X.Coordinate v) = v
as_number (X.FrameRate v) = v
as_number (X.ProgramConfig v) = v
as_number X.Terminator = 0
as_number (X.Plain v) = v

-- a piece: a field with its width, and how it stands
abbrev pub piece : Field → Stands → Piece
piece f stands = record { field = f; width = width_of f; stands = stands }

-- whether each of a piece's fields has a parameter set behind it; in a walk that is not one of turnarounds none has
abbrev pub has_partner : Bool → Stands → Bool
has_partner turns S.Once = false
has_partner turns S.UntilZero = false
has_partner turns S.InPairs = turns
has_partner turns (S.Flag n) = false

-- whether a piece has another field after the number v
abbrev pub goes_on : Stands → ℕ → Bool
goes_on S.Once v = false
goes_on S.UntilZero v = nonzero v
goes_on S.InPairs v = nonzero v
goes_on (S.Flag n) v = false

-- how many pieces behind a piece the number v passes over
abbrev pub passes : Bool → Stands → ℕ → ℕ
passes turns S.Once v = 0
passes turns S.UntilZero v = 0
passes turns S.InPairs v = 0
passes turns (S.Flag n) v = cond (turns && eqb v 0) n 0

-- a piece has its field's width
abbrev pub is_wide : Piece → Bool
is_wide p = p.width == width_of p.field

-- so many pieces, of the 11 that there is room for, can be walked: each has its field's width, and further records begin at one of them
abbrev pub can_be_walked : List Piece → ℕ → ℕ → Bool
can_be_walked pieces again size = nat_lt again size && (nat_le size 11 && (nat_le size (length pieces) && list_all is_wide (take size pieces)))

abbrev pub single : Field → Piece
single f = piece f S.Once

abbrev pub repeated : Field → Piece
repeated f = piece f S.UntilZero

-- the pieces of a kind up to the end of its first record
abbrev pub pieces_of : Kind → List Piece
pieces_of K.Apd = single F.Presentation ∷ single F.SpeakerConfig ∷ single F.Langcod ∷ repeated F.Listed ∷ []
pieces_of K.Apn = single F.Presentation ∷ single F.Langcod ∷ repeated F.Byte ∷ []
pieces_of K.Aod =
    single F.Element ∷ single F.Class ∷ single F.Dynamic ∷ single F.Coordinate ∷ single F.Coordinate ∷ single F.Coordinate
    ∷ single F.Size ∷ single F.Size3d ∷ single F.Diverge ∷ single F.Source ∷ single F.Gain ∷ []
pieces_of K.Xyz = single F.SampleTime ∷ single F.Element ∷ single F.Coordinate ∷ single F.Coordinate ∷ single F.Coordinate ∷ []
pieces_of K.Aen = single F.Element ∷ repeated F.Byte ∷ []
pieces_of K.Esn = single F.Substream ∷ repeated F.Byte ∷ []
pieces_of K.Etd =
    single F.Turnaround
    ∷ piece F.Exists (S.Flag 2) ∷ single F.FrameRate ∷ piece F.Paired S.InPairs
    ∷ piece F.Exists (S.Flag 3) ∷ single F.FrameRate ∷ single F.ProgramConfig ∷ piece F.Paired S.InPairs ∷ []

-- pieces, and behind them bytes that do not count
abbrev pub filled : List Piece → List Piece
filled ps = ps ++ replicate (11 - length ps) (single F.Byte)
