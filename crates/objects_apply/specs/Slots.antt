-- Inner. Which slot of a table an element has or takes, which entry may follow those of a table, and what a record is told.
use Rattle.std.specs.Prelude.{List, Bool, not, cond, ◌&&◌, ◌||◌, ℕ, ltb, eqb, Option, Some, None, Result, Ok, Err}
use Rattle.runs.specs.Finding.{count, place}
use Rattle.refusals.specs.Refusals.{refused_at}
use Rattle.refusals.specs.declared.Refusal.TheVariants as R
use Rattle.refusals.specs.declared.Refused.{Refused}
use Rattle.objects.specs.declared.Object.{Object}
use Rattle.objects.specs.Entries.{free, names, named}
use Rattle.objects_pmd.specs.Values.{good}

-- the slot of an element's entry
unfoldable pub slot_of : List Object → ℕ → Option ℕ
slot_of t n = cond (free (named t n)) None (Some (place (names n) t))

-- the first free slot
unfoldable pub free_slot : List Object → Option ℕ
free_slot t = cond (ltb 0 (count free t)) (Some (place free t)) None

-- the slot for an element: its own, or the first free one
unfoldable pub seat_of : List Object → ℕ → Option ℕ
seat_of t n = cond (free (named t n)) (free_slot t) (Some (place (names n) t))

-- a free entry may follow, and a used one that is good and of an element that is not there
unfoldable pub follows : List Object → Object → Bool
follows t o = free o || (good o && free (named t o.element))

-- whether an element has an entry or there is room for one
unfoldable pub has_seat : List Object → ℕ → Bool
has_seat t n = not (free (named t n)) || ltb 0 (count free t)

-- what is told of a record of an AOD, and of the record k of an XYZ
unfoldable pub set_told : List Object → ℕ → Result (Unit {0}) Refused
set_told t n = cond (has_seat t n) (Ok tt) (Err (refused_at R.Full 0))

unfoldable pub move_told : List Object → ℕ → ℕ → Result (Unit {0}) Refused
move_told t n k =
    cond (free (named t n)) (Err (refused_at R.Unknown k)) (cond (eqb (named t n).dynamic 0) (Err (refused_at R.Static k)) (Ok tt))
