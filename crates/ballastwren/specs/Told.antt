-- Trusted. What C is told, the numbers of documents 01 and 02, and what each export that is lent a run promises.
use Rattle.std.specs.Prelude.{cond, List, Result, Ok, Err, ℕ, pos, length}
use Rattle.refusals.specs.declared.Refusal.TheVariants as R
use Rattle.refusals.specs.declared.Refused.{Refused}
use Rattle.refusals.specs.Refusals.{number_of, refused_at}
use Rattle.refusals.specs.Outcomes.{Answer, told}
use Rattle.refusals.specs.Lent.{within, lent, Lends}
use Rattle.pack_rows.specs.Rows.{rows_read}
use Rattle.scrub_kept.specs.Scrubbed.{scrubbed, leaves}
use Rattle.lookup.specs.declared.Mark.{Mark}
use Rattle.lookup.specs.declared.Mark.TheVariants as M
use Rattle.lookup.specs.declared.Unfound.TheVariants as U
use Rattle.lookup.specs.Lookup.{Looked}
use Rattle.pmd.specs.Reading.{fields_read}
use Rattle.pmd.specs.Writing.{fields_written}
use Rattle.pmd.specs.Gain.{told_level}
use Rattle.pmd.specs.declared.Level.{Level}
use Rattle.ballastwren.specs.declared.Told.{Told}
use Rattle.ballastwren.specs.declared.ToldFound.{ToldFound}
use Rattle.ballastwren.specs.declared.ToldGain.{ToldGain}

-- an answer as its two numbers
abbrev pub told_of : Answer → Told
told_of a = record { number = (told a).number; value = (told a).value }

-- the number of a pack: 1 for main, 2 for backup
abbrev pub mark_number : Mark → ℕ
mark_number M.Main = 1
mark_number M.Backup = 2
mark_number M.Neither = 0

-- a refusal of a look-up as its five numbers: with the pack at fault, 0 for neither, an empty stretch and 0
abbrev pub told_unfound : Refused → ℕ → ToldFound
told_unfound r from = record { number = number_of r.why; value = r.place; from = from; start = 0; total = pos 0 }

-- what was looked up, as its five numbers: where a value stands and its payload's total offset, or the refusal
abbrev pub told_found_of : Looked → ToldFound
told_found_of (Ok f) = record { number = 0; value = f.value.len; from = mark_number f.from; start = f.value.start; total = f.total }
told_found_of (Err (U.Main r)) = told_unfound r 1
told_found_of (Err (U.Backup r)) = told_unfound r 2
told_found_of (Err U.Absent) = told_unfound (refused_at R.Absent 0) 0

-- a level as its three numbers: 1 where it is muted
abbrev pub told_gain_of : Result Level Refused → ToldGain
told_gain_of l = record { number = (told_level l).number; muted = cond (told_level l).muted 1 0; half_db = (told_level l).half_decibels }

-- The contracts: what the call was handed, what the lent run held before, what C is told, and what the run holds afterwards.

-- bw_read: the rows of the pack, where the run has room for them
abbrev pub BwRead : List ℕ → List ℕ → Told → List ℕ → Type 0
BwRead pack before answer after = Lends told_of lent (within (length before) (rows_read pack)) before answer after

-- bw_scrub: the pack that the sheet keeps, and 0 to the buffer's end
abbrev pub BwScrub : List ℕ → List ℕ → List ℕ → Told → List ℕ → Type 0
BwScrub sheet pack before answer after = Lends told_of leaves (scrubbed sheet pack (length before)) before answer after

-- bw_pmd_read: the fields of the value
abbrev pub BwPmdRead : ℕ → List ℕ → List ℕ → Told → List ℕ → Type 0
BwPmdRead kind value before answer after = Lends told_of lent (within (length before) (fields_read kind value)) before answer after

-- bw_pmd_write: the value of the fields
abbrev pub BwPmdWrite : ℕ → List ℕ → List ℕ → Told → List ℕ → Type 0
BwPmdWrite kind numbers before answer after = Lends told_of lent (within (length before) (fields_written kind numbers)) before answer after
