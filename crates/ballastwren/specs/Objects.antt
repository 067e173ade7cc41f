-- Trusted. What the exports that are lent a table of objects promise.
use Rattle.std.specs.Prelude.{◌≡◌, List, map, true, ℕ, ◌<◌, length}
use Rattle.runs.specs.Finding.{count}
use Rattle.refusals.specs.Outcomes.{fine}
use Rattle.pmd.specs.Reading.{fields_read}
use Rattle.objects.specs.declared.Object.{Object}
use Rattle.objects.specs.Entries.{free, named}
use Rattle.objects.specs.Table.{judged}
use Rattle.objects.specs.Calls.{Call, clear, answer, next}
use Rattle.objects.specs.Meanings.{after_aod, after_xyz, unmoved, after_clear, newcomers}
use Rattle.objects_pmd.specs.Values.{good, aods_of, xyzs_of, call_of}
use Rattle.ballastwren.specs.declared.Told.{Told}
use Rattle.ballastwren.specs.Told.{told_of}

-- a call on a lent table: what C is told, and what the table holds afterwards, which after a refusal is what it held
pub record BwObjects (c : Call) (before : List Object) (r : Told) (after : List Object) : Type 0 where
  pub told : r ≡ told_of (answer good c before)
  pub table : after ≡ next good c before

-- bw_objects_apply: the call that the value is
abbrev pub BwApply : ℕ → List ℕ → List Object → Told → List Object → Type 0
BwApply kind value before r after = BwObjects (call_of kind value) before r after

-- bw_objects_clear
abbrev pub BwClear : ℕ → List Object → Told → List Object → Type 0
BwClear element before r after = BwObjects (clear element) before r after

-- an AOD's value was applied: its numbers, how many records C is told, and the table with them
pub record AodSet (value : List ℕ) (before : List Object) (r : Told) (after : List Object) : Type 0 where
  pub numbers : List ℕ
  pub read : fields_read 3 value ≡ fine numbers
  pub records : r.value ≡ length (aods_of numbers)
  pub table : after ≡ after_aod (aods_of numbers) before

-- an XYZ's value was applied: of no entry a field has changed but x, y and z
pub record XyzMoved (value : List ℕ) (before : List Object) (r : Told) (after : List Object) : Type 0 where
  pub numbers : List ℕ
  pub read : fields_read 4 value ≡ fine numbers
  pub records : r.value ≡ length (xyzs_of numbers)
  pub table : after ≡ after_xyz (xyzs_of numbers) before
  pub only : map unmoved after ≡ map unmoved before

-- an element was cleared
pub record Cleared (element : ℕ) (before : List Object) (r : Told) (after : List Object) : Type 0 where
  pub one : r.value ≡ 1
  pub table : after ≡ after_clear element before

-- a table that is taken has no room for the new elements of an AOD, each counted once
pub record Overfull (kind : ℕ) (value : List ℕ) (before : List Object) : Type 0 where
  pub aod : kind ≡ 3
  pub numbers : List ℕ
  pub read : fields_read 3 value ≡ fine numbers
  pub taken : judged good before ≡ true
  pub over : count free before < newcomers (named before) (aods_of numbers)
