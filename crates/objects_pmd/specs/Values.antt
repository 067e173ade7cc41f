-- Trusted. The call that a PMD value is, and what PMD asks of a used entry: its eleven numbers are a record that an AOD may have.
use Rattle.std.specs.Prelude.{List, [], ◌∷◌, Bool, true, false, cond, ◌&&◌, ℕ, ◌+◌, ◌/◌, length, get_or, drop, eqb, Some}
use Rattle.runs.specs.Cells.{cells}
use Rattle.refusals.specs.Outcomes.{Outcome, fine, refused}
use Rattle.refusals.specs.declared.Refusal.TheVariants as R
use Rattle.pmd.specs.declared.Kind.TheVariants as K
use Rattle.pmd.specs.Table.{Part, record_of}
use Rattle.pmd.specs.Records.{takes}
use Rattle.pmd.specs.Reading.{read_as}
use Rattle.objects.specs.declared.Aod.{Aod}
use Rattle.objects.specs.declared.Xyz.{Xyz}
use Rattle.objects.specs.declared.Object.{Object}
use Rattle.objects.specs.Entries.{fields_of}
use Rattle.objects.specs.Calls.{Call, aod, xyz, unread}

-- the numbers of a record, each taken by its field
unfoldable pub taken : List Part → List ℕ → Bool
taken [] [] = true
taken [] (v ∷ vs) = false
taken (p ∷ ps) [] = false
taken (p ∷ ps) (v ∷ vs) = takes (p ∷ ps) v && taken ps vs

-- an entry is judged as one record of an AOD
unfoldable pub good : Object → Bool
good e = taken (record_of K.Aod) (fields_of e)

-- the record that stands at a place of the numbers
abbrev pub aod_at : List ℕ → ℕ → Aod
aod_at s at = record {
  element = get_or s (at + 0) 0;
  class = get_or s (at + 1) 0;
  dynamic = get_or s (at + 2) 0;
  x = get_or s (at + 3) 0;
  y = get_or s (at + 4) 0;
  z = get_or s (at + 5) 0;
  size = get_or s (at + 6) 0;
  size3d = get_or s (at + 7) 0;
  diverge = get_or s (at + 8) 0;
  source = get_or s (at + 9) 0;
  gain = get_or s (at + 10) 0;
}

abbrev pub xyz_at : List ℕ → ℕ → Xyz
xyz_at s at = record { element = get_or s (at + 0) 0; x = get_or s (at + 1) 0; y = get_or s (at + 2) 0; z = get_or s (at + 3) 0 }

-- the records of an AOD's numbers, and of an XYZ's: its first number is the sample_time, which is not kept
abbrev pub aods_of : List ℕ → List Aod
aods_of xs = cells aod_at 11 (length xs / 11) xs

abbrev pub xyzs_of : List ℕ → List Xyz
xyzs_of xs = cells xyz_at 4 (length (drop 1 xs) / 4) (drop 1 xs)

unfoldable pub aod_call : Outcome (List ℕ) → Call
aod_call (fine xs) = aod (aods_of xs)
aod_call (refused why place) = unread why place

unfoldable pub xyz_call : Outcome (List ℕ) → Call
xyz_call (fine xs) = xyz (xyzs_of xs)
xyz_call (refused why place) = unread why place

-- the call of a value of this kind: any kind but 3 and 4 is KIND, whatever the bytes
unfoldable pub call_of : ℕ → List ℕ → Call
call_of kind s =
    cond (eqb kind 3) (aod_call (read_as (Some K.Aod) s))
    (cond (eqb kind 4) (xyz_call (read_as (Some K.Xyz) s)) (unread R.Kind 0))
