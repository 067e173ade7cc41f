-- How many numbers the rows of a pack are, and at the most; and how many are read from a PMD value at the most.
use mathlib.Core.Path.{◌≡◌, refl, ap}
use mathlib.Core.List.{List}
use Prim.Native.Nat.{ℕ, ◌+◌, ◌*◌, ◌≤◌}
use native.Mathlib.Omega.{arith}
use lib.ListN.{length, length-append}
use Rattle.runs.specs.Digits.{Bytes}
use Rattle.refusals.specs.Outcomes.{fine}
use Rattle.refusals.proofs.Lent.{within_fine}
use Rattle.refusals.proofs.Outcomes.{then_was}
use Rattle.pack.specs.Config.{places_of}
use Rattle.pack.specs.Items.{count_of}
use Rattle.pack.specs.Reading.{Read, reading}
use Rattle.pack.specs.Slots.{slots}
use Rattle.pack.specs.Made.{made}
use Rattle.pack.proofs.Slots.{slots_count}
use Rattle.pack_layout.proofs.Bounds.{reading_bounds}
use Rattle.pack_rows.specs.Rows.{pack_row, item_row, rows_of, rows_read}
use Rattle.pack_rows.proofs.Laws.{length_rows}
use Rattle.pmd.specs.Reading.{fields_read}
use Rattle.pmd.proofs.Few.{fields_few}
use Rattle.ballastwren.specs.Told.{BwRead, BwPmdRead}
use Rattle.ballastwren.specs.declared.Told.{Told}
use Rattle.ballastwren.proofs.Edge.{outcome_done}

-- eight for the pack and for each item and inner payload
pub rows_long : (r : Read) → length (rows_of r) ≡ 8 * (1 + count_of r.body.parts)
unfolding rows_of pack_row
rows_long r =
    let parts = r.body.parts in
    let first = pack_row r.offset r.body.crc (count_of parts) in
    let eight : length first ≡ 8 = refl in
    let rest = made (item_row (places_of r.mappings)) (slots parts) in
    omega (arith, eight, length-append first rest, length_rows (places_of r.mappings) (slots parts), slots_count parts)

-- of which there are 64 at the most
rows_few : (s : List ℕ) → Bytes s → (xs : List ℕ) → rows_read s ≡ fine xs → length xs ≤ 520
rows_few s bytes xs e =
    let w = then_was (reading s) (λ (r : Read). fine (rows_of r)) e in
    let r = w.0 in
    let same : rows_of r ≡ xs = (let z = w.2 in cc) in
    omega (arith, ap length same, rows_long r, (reading_bounds s bytes r w.1).count)

pub rows_most : (pack : List ℕ) {before after : List ℕ} {t : Told} → Bytes pack → BwRead pack before t after → t.number ≡ 0 → t.value ≤ 520
rows_most pack {before} bytes x zero =
    let d = outcome_done x zero in omega (arith, d.2, rows_few pack bytes d.0 (within_fine (length before) (rows_read pack) d.0 d.1).0)

-- THE NUMBERS OF A VALUE

pub pmd_numbers_most : (kind : ℕ) (value : List ℕ) {before after : List ℕ} {t : Told} → BwPmdRead kind value before t after → t.number ≡ 0 → t.value ≤ 9828
pmd_numbers_most kind value {before} x zero =
    let d = outcome_done x zero in
    omega (arith, d.2, fields_few kind value d.0 (within_fine (length before) (fields_read kind value) d.0 d.1).0)
