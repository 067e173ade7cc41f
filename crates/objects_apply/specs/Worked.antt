-- Inner. A call on a table that was judged.
use Rattle.std.specs.Prelude.{◌≡◌, List, ℕ, ◌/◌, ◌≤◌, length}
use Rattle.runs.specs.Cells.{cells}
use Rattle.runs.specs.Finding.{count}
use Rattle.refusals.specs.Outcomes.{Answer, Outcome, fine}
use Rattle.objects.specs.declared.Object.{Object}
use Rattle.objects.specs.declared.Xyz.{Xyz}
use Rattle.objects.specs.Entries.{free, named}
use Rattle.objects.specs.Calls.{Call, verdict, changed, kept}
use Rattle.objects_pmd.specs.Values.{xyz_at}

-- its answer, and the table after it if it is not refused
pub record Worked (c : Call) (t : List Object) (r : Answer) (after : List Object) : Type 0 where
  pub told : r ≡ verdict (named t) (count free t) c
  pub table : kept r t after ≡ kept r t (changed c t)

-- the records of an XYZ's numbers without the sample_time
abbrev pub moves_of : List ℕ → List Xyz
moves_of xs = cells xyz_at 4 (length xs / 4) xs

-- no outcome is a list that is longer
abbrev pub IsWithin : ℕ → Outcome (List ℕ) → Type 0
IsWithin most o = (xs : List ℕ) → o ≡ fine xs → length xs ≤ most
