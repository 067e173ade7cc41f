-- Inner. The keep sheet as the code holds it: its bytes stay lent, and only its two counts are kept.
use Rattle.std.specs.Prelude.{◌≡◌, List, [], Bool, false, cond, ◌&&◌, Option, Some, None, Result, Ok, ℕ, ◌+◌, ◌*◌, ◌<◌, ◌≤◌, eqb, length, get_or}
use Rattle.std.specs.Option.{ok_or}
use Rattle.refusals.specs.declared.Refusal.TheVariants as R
use Rattle.refusals.specs.declared.Refused.{Refused}
use Rattle.refusals.specs.Refusals.{refused_at}
use Rattle.numbers.specs.Big.{big_at}
use Rattle.pack.specs.Said.{number}
use Rattle.scrub_kept.specs.Sheet.{Sheet, everything, these, labels_at, numbers_at, labels_good, numbers_good, header_good, keeps_all, sheet_labels, sheet_numbers}
use Rattle.scrub_kept.specs.Kept.{keeps}
use Rattle.scrub_sheet.specs.declared.Asked.{Asked}
use Rattle.scrub_sheet.specs.declared.Asked.TheVariants as K

-- the counts of the entries, where header and entries are good
unfoldable pub these_asked : List ℕ → Option Asked
these_asked s = cond (header_good s && (labels_good (sheet_labels s) && numbers_good (sheet_numbers s))) (Some (K.These (big_at s 0 2) (big_at s 4 2))) None

-- 0 bytes keep none; keep all has a header of its own; else the counts of the entries, or SHEET
unfoldable pub sheet_asked : List ℕ → Result Asked Refused
sheet_asked s = cond (eqb (length s) 0) (Ok K.Nothing) (cond (keeps_all s) (Ok K.All) (ok_or (these_asked s) (refused_at R.Sheet 0)))

-- the sheet that the bytes s and the two counts are
abbrev pub asks : List ℕ → Asked → Sheet
asks s K.All = everything
asks s K.Nothing = these [] []
asks s (K.These l t) = these (labels_at s 8 l) (numbers_at s (8 + 16 * l) t)

-- the entries that are counted are there
abbrev pub EntriesThere : List ℕ → Asked → Type 0
EntriesThere s K.All = Unit
EntriesThere s K.Nothing = Unit
EntriesThere s (K.These l t) = 8 + 16 * l + 4 * t ≤ length s

-- for each number below 128 whether the sheet keeps its payloads
abbrev pub Short : Sheet → List Bool → Type 0
Short sheet table = (n : ℕ) → n < 128 → get_or table n false ≡ keeps sheet (number n)
