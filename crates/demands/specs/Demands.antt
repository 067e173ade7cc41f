-- Trusted. The demands of document 01 and the requests of document 02, of what C is told by one call or a few and of what the lent runs hold afterwards.
use Rattle.std.specs.Prelude.{◌≡◌, List, ◌⊎◌, ℕ, ◌+◌, ◌*◌, ◌<◌, ◌≤◌, pos, ◌-ℤ◌, length, take}
use Rattle.runs.specs.Over.{over}
use Rattle.refusals.specs.declared.Refusal.{Refusal}
use Rattle.refusals.specs.Refusals.{number_of}
use Rattle.refusals.specs.Outcomes.{fine}
use Rattle.pack.specs.Reading.{Read, reading, checked}
use Rattle.pack.specs.Meaning.{meant}
use Rattle.pack_layout.specs.Layout.{Description, layout}
use Rattle.pack_layout.specs.Well.{WellFormed}
use Rattle.pack_layout.specs.Agrees.{Sound}
use Rattle.pack_layout.specs.Refused.{Refused}
use Rattle.scrub_kept.specs.Sheet.{Sheet, these, all_sheet, sheet_of, sheet_checked}
use Rattle.scrub_kept.specs.Kept.{kept_items, kept}
use Rattle.scrub_kept.specs.Scrubbed.{ReadsAs}
use Rattle.lookup.specs.Lookup.{looked_up}
use Rattle.lookup.specs.Named.{Without, Says}
use Rattle.pmd.specs.Gain.{level_of}
use Rattle.ballastwren.specs.declared.Told.{Told}
use Rattle.ballastwren.specs.declared.ToldFound.{ToldFound}
use Rattle.ballastwren.specs.declared.ToldGain.{ToldGain}
use Rattle.ballastwren.specs.Looked.{FirstTold, TotalTold, absent_told}
use Rattle.ballastwren.specs.Told.{told_of, told_found_of, told_gain_of, BwRead, BwScrub, BwPmdRead, BwPmdWrite}

-- THE DEMANDS

-- Demand 1: a refusal is told, by its number and at a place, exactly where the pack is wrong there in that way and laid out well before
abbrev pub RefusedExactly : List ℕ → Told → Type 0
RefusedExactly pack a =
    (why : Refusal) (place : ℕ)
    → (a ≡ record { number = number_of why; value = place } → Refused pack why place) × (Refused pack why place → a ≡ record { number = number_of why; value = place })

-- where a refusal is told, by any number but 0, no lent byte or number has changed
abbrev pub Unchanged : Told → List ℕ → List ℕ → Type 0
Unchanged a before after = (a.number ≡ 0 → ⊥) → after ≡ before

-- Demand 2: a pack is accepted exactly where it is the layout of a well-formed description, and then its reading means what the description says;
abbrev pub ReadExactly : List ℕ → Told → Type 0
ReadExactly pack a =
    (a.number ≡ 0 → (r : Read) × (reading pack ≡ fine r) × Sound pack r) × ((d : Description) → WellFormed d → layout d ≡ pack → a.number ≡ 0)

-- writing the fields read from an accepted value gives that value back, whenever both buffers have room
abbrev pub ValueBack : List ℕ → List ℕ → Told → Told → List ℕ → Type 0
ValueBack value before a b out = a.number ≡ 0 → length value ≤ length before → (b ≡ record { number = 0; value = length value }) × (out ≡ over before 0 value)

-- and reading what was written gives those fields
abbrev pub FieldsBack : List ℕ → List ℕ → Told → Told → List ℕ → Type 0
FieldsBack numbers before a b run =
    a.number ≡ 0 → length numbers ≤ length before → (b ≡ record { number = 0; value = length numbers }) × (run ≡ over before 0 numbers)

-- Demand 3, first half: two accepted packs s and t with equal offsets and the same kept items scrub under one sheet into buffers of equal length to the
-- same answer and, on success, to equal whole buffers
abbrev pub SameKept : List ℕ → List ℕ → List ℕ → List ℕ → List ℕ → Told → List ℕ → Told → List ℕ → Type 0
SameKept sheet s t before other a us b vs =
    (sh : Sheet) (r q : Read) → sheet_of sheet ≡ fine sh → reading s ≡ fine r → reading t ≡ fine q
    → (meant s r).offset ≡ (meant t q).offset → kept_items sh (meant s r).items ≡ kept_items sh (meant t q).items
    → length before ≡ length other → (a ≡ b) × (a.number ≡ 0 → us ≡ vs)

-- Demand 3, second half: reading the written pack gives exactly the offset, the kept payloads and their Syncs
abbrev pub ReadBack : List ℕ → List ℕ → Told → List ℕ → Type 0
ReadBack sheet s a out =
    (sh : Sheet) (r : Read) → sheet_of sheet ≡ fine sh → reading s ≡ fine r → a.number ≡ 0 → ReadsAs (take a.value out) (kept sh (meant s r))

-- WHAT EACH FUNCTION PROMISES
-- Each record says which calls were made, of what, and the demands that they meet.

-- scrub_two: s and t are scrubbed by one sheet
pub record ScrubTwo (sheet s t before other : List ℕ) (a : Told) (us : List ℕ) (b : Told) (vs : List ℕ) : Type 0 where
  pub first : BwScrub sheet s before a us
  pub second : BwScrub sheet t other b vs
  pub unchanged : Unchanged a before us × Unchanged b other vs
  pub same : SameKept sheet s t before other a us b vs

-- two calls, of which the second is handed what the first wrote. It is made where the first succeeds; where that is refused its answer stands for both,
-- and the second run is as it was
pub record InTurn (First : Told → List ℕ → Type 0) (Second : List ℕ → Told → List ℕ → Type 0) (Demand : Type 0) (before run : List ℕ) (a : Told) (xs : List ℕ) (b : Told) (ys : List ℕ) : Type 0 where
  pub first : First a xs
  pub second : a.number ≡ 0 → Second (take a.value xs) b ys
  pub omitted : (a.number ≡ 0 → ⊥) → (b ≡ a) × (ys ≡ run)
  pub unchanged : Unchanged a before xs × Unchanged b run ys
  pub demand : Demand

-- scrub_and_read: s is scrubbed, and what was written is read
abbrev pub ScrubAndRead : List ℕ → List ℕ → List ℕ → List ℕ → Told → List ℕ → Told → List ℕ → Type 0
ScrubAndRead sheet s before run a out b rows = InTurn (BwScrub sheet s before) (λ part. BwRead part run) (ReadBack sheet s a out) before run a out b rows

-- read_and_write: the fields of a value are read and written again
abbrev pub ReadAndWrite : ℕ → List ℕ → List ℕ → List ℕ → Told → List ℕ → Told → List ℕ → Type 0
ReadAndWrite kind value before run a numbers b out =
    InTurn (BwPmdRead kind value before) (λ part. BwPmdWrite kind part run) (ValueBack value run a b out) before run a numbers b out

-- write_and_read: numbers are written as a value, and that is read
abbrev pub WriteAndRead : ℕ → List ℕ → List ℕ → List ℕ → Told → List ℕ → Told → List ℕ → Type 0
WriteAndRead kind numbers before run a value b fields =
    InTurn (BwPmdWrite kind numbers before) (λ part. BwPmdRead kind part run) (FieldsBack numbers run a b fields) before run a value b fields

-- check_and_read: a pack is checked and read. A refusal of the check is the reading's; else there are eight numbers for the pack and for each item and
-- inner payload that was counted, and NOROOM is told exactly where the run is shorter
pub record CheckAndRead (pack run : List ℕ) (a b : Told) (rows : List ℕ) : Type 0 where
  pub first : a ≡ told_of (checked pack)
  pub second : BwRead pack run b rows
  pub unchanged : Unchanged b run rows
  pub exactly : ReadExactly pack a
  pub wrong : RefusedExactly pack a
  pub refused : (a.number ≡ 0 → ⊥) → b ≡ a
  pub room : a.number ≡ 0 → 8 * (1 + a.value) ≤ length run → b ≡ record { number = 0; value = 8 * (1 + a.value) }
  pub no_room : a.number ≡ 0 → length run < 8 * (1 + a.value) → b ≡ record { number = 15; value = 0 }

-- check_sheet_and_scrub: a sheet is checked, and a pack scrubbed by it. A refusal of the check is SHEET and the scrub's; a sheet that the check accepts is
-- SHEET for no scrub. The count is that of its labels and tag numbers, of which the sheet that keeps all has none
pub record CheckSheetAndScrub (sheet s before : List ℕ) (a b : Told) (out : List ℕ) : Type 0 where
  pub first : a ≡ told_of (sheet_checked sheet)
  pub second : BwScrub sheet s before b out
  pub unchanged : Unchanged b before out
  pub refused : (a.number ≡ 0 → ⊥) → (a ≡ record { number = 14; value = 0 }) × (b ≡ a)
  pub accepted : a.number ≡ 0 → b.number ≡ 14 → ⊥
  pub entries : (ls : List (List ℕ)) (ts : List ℕ) → sheet_of sheet ≡ fine (these ls ts) → a ≡ record { number = 0; value = length ls + length ts }
  pub all : sheet ≡ all_sheet → a ≡ record { number = 0; value = 0 }

-- check_and_look_up: two packs are checked, and a label is looked up in them. A refusal of main's check is the look-up's, with the mark 1; then one of
-- backup's, with the mark 2. Else a value is found, that of the label's first payload in main or, where main has none, in backup, with its total offset; or
-- ABSENT is told, exactly where no payload of either has the label, and always of a label that is not of 16 bytes
pub record CheckAndLookUp (main backup l : List ℕ) (c d : Told) (a : ToldFound) : Type 0 where
  pub main_checked : c ≡ told_of (checked main)
  pub backup_checked : d ≡ told_of (checked backup)
  pub call : a ≡ told_found_of (looked_up main backup l)
  pub first : a.number ≡ 0 → FirstTold main backup l a
  pub total : a.number ≡ 0 → TotalTold main backup l a
  pub main_refused : (c.number ≡ 0 → ⊥) → a ≡ record { number = c.number; value = c.value; from = 1; start = 0; total = pos 0 }
  pub backup_refused : c.number ≡ 0 → (d.number ≡ 0 → ⊥) → a ≡ record { number = d.number; value = d.value; from = 2; start = 0; total = pos 0 }
  pub otherwise : c.number ≡ 0 → d.number ≡ 0 → (a.number ≡ 0) ⊎ (a ≡ absent_told)
  pub absent : (a ≡ absent_told → Says main (Without l) × Says backup (Without l)) × (Says main (Without l) → Says backup (Without l) → a ≡ absent_told)
  pub strange : (length l ≡ 16 → ⊥) → c.number ≡ 0 → d.number ≡ 0 → a ≡ absent_told

-- tell_gain: a gain is muted at 0, else gain minus 51 in half decibels; above 63 it is FIELD
pub record TellGain (gain : ℕ) (t : ToldGain) : Type 0 where
  pub call : t ≡ told_gain_of (level_of gain)
  pub muted : gain ≡ 0 → t ≡ record { number = 0; muted = 1; half_db = pos 0 }
  pub level : 0 < gain → gain ≤ 63 → t ≡ record { number = 0; muted = 0; half_db = pos gain -ℤ pos 51 }
  pub refused : 63 < gain → t ≡ record { number = 17; muted = 0; half_db = pos 0 }
