-- What is read of a pack, and the rows: what its outline tells of the numbers to write, and what is delivered at each return.
use Prim.Native.Nat.{ℕ, ◌+◌, ◌-◌, ◌*◌, ◌<◌, ◌≤◌}
use mathlib.Core.Path.{◌≡◌, refl, sym, ap, subst, ◌∙◌}
use mathlib.Core.List.{List, ◌++◌}
use native.Mathlib.Nat.{zero-add}
use native.Mathlib.Omega.{arith}
use lib.ListN.{length, take, replicate, length-append}
use Rattle.std.specs.Prelude.{Ok, Err}
use Rattle.runs.specs.Digits.{Bytes}
use Rattle.runs.specs.Over.{Wrote}
use Rattle.runs.proofs.Over.{wrote_then}
use Rattle.refusals.specs.declared.Refusal.TheVariants as R
use Rattle.refusals.specs.declared.Refused.{Refused}
use Rattle.refusals.specs.Refusals.{refused_at}
use Rattle.refusals.specs.Outcomes.{Outcome, fine, refused, and_then, Answer}
use Rattle.refusals.specs.Lent.{within, Delivered}
use Rattle.refusals.proofs.Lent.{fine_within, none_within, delivered_refused, delivered_fine}
use Rattle.pack.specs.Fixed.{item_cap, mapping_cap}
use Rattle.pack.specs.Config.{places_of}
use Rattle.pack.specs.Items.{count_of}
use Rattle.pack.specs.Reading.{Read, reading}
use Rattle.pack.specs.Slots.{slots, blank, padded}
use Rattle.pack.specs.Fits.{SlotsFit}
use Rattle.pack.specs.Made.{made}
use Rattle.pack.specs.declared.Item.{Item}
use Rattle.pack.proofs.Made.{made_same}
use Rattle.pack.proofs.Slots.{slots_count, slots_taken}
use Rattle.pack_config.specs.declared.table.Mappings.{Mappings}
use Rattle.pack_config.specs.Tables.{Tables}
use Rattle.pack_layout.proofs.Bounds.{reading_bounds}
use Rattle.pack_layout.proofs.Shown.{slots_fit}
use Rattle.pack_read.specs.Shown.{outline_of, items_of, mappings_of, Outlined}
use Rattle.pack_read.specs.declared.Outline.{Outline}
use Rattle.pack_read.proofs.Outlines.{outlined_read}
use Rattle.pack_rows.specs.Rows.{pack_row, item_row, rows_of, rows_read}
use Rattle.pack_rows.proofs.Laws.{length_rows, item_padded}

-- the numbers to write: the pack's row, then those of the items in use
abbrev pub numbers : Outline → List ℕ → List Item → List ℕ
numbers o places items = pack_row o.offset o.crc o.count ++ made (item_row places) (take o.count items)

pub record Rows (s : List ℕ) (o : Outline) (places : List ℕ) (items : List Item) : Type 0 where
  pub few : o.count ≤ item_cap
  pub there : o.count ≤ length items
  pub fit : SlotsFit (take o.count items)
  pub size : length (made (item_row places) (take o.count items)) ≡ 8 * o.count
  pub whole : rows_read s ≡ fine (numbers o places items)

-- with the pack's row
long : {s : List ℕ} {o : Outline} {places : List ℕ} {items : List Item} → Rows s o places items → length (numbers o places items) ≡ 8 * (1 + o.count)
unfolding pack_row
long t = omega (arith, t.size)

-- of a reading whose arrays are filled up
filled_rows : (s : List ℕ) → Bytes s → (r : Read) → reading s ≡ fine r → Rows s (outline_of r) (padded mapping_cap 0 (places_of r.mappings)) (padded item_cap blank (slots r.body.parts))
unfolding and_then rows_of
filled_rows s b r e =
    let a = reading_bounds s b r e in
    let parts = r.body.parts in
    let places = places_of r.mappings in
    let filled = padded mapping_cap 0 places in
    let taken = slots_taken parts in
    let same : made (item_row filled) (take (count_of parts) (padded item_cap blank (slots parts))) ≡ made (item_row places) (slots parts) =
    ap (made (item_row filled)) taken ∙ made_same (item_row filled) (item_row places) (item_padded places (mapping_cap - length places)) (slots parts) in
    record {
      few = a.count;
      there = omega (arith, length-append (slots parts) (replicate (item_cap - length (slots parts)) blank), slots_count parts);
      fit = subst SlotsFit (sym taken) (slots_fit s (length r.mappings) a.mapped parts a.parts);
      size = omega (arith, ap length same, length_rows places (slots parts), slots_count parts);
      whole =
          ap (λ (o : Outcome Read). and_then o (λ (q : Read). fine (rows_of q))) e
          ∙ ap (λ (l : List ℕ). fine (pack_row r.offset r.body.crc (count_of parts) ++ l)) (sym same);
    }

-- what is delivered for the pack s
module _ (s before : List ℕ) where
  abbrev outcome : Outcome (List ℕ)
  outcome = within (length before) (rows_read s)

  pub rows_refused : {a : Answer} {e : Refused} → reading s ≡ refused e.why e.place → a ≡ Err e → Delivered outcome before a before
  unfolding and_then
  rows_refused e h = delivered_refused (ap (λ (o : Outcome Read). within (length before) (and_then o (λ (r : Read). fine (rows_of r)))) e) h

  -- where the pack is accepted
  module _ (b : Bytes s) {o : Outline} {items : List Item} {maps : Mappings} (g : Outlined s (Ok o) items maps) where
    pub rows_shown : Rows s o maps.places items
    rows_shown =
        let w = outlined_read g refl in
        let t = subst (λ (q : Outcome Read). Tables (mappings_of q) maps) w.1 g.tables in
        let held = g.held ∙ ap items_of w.1 in
        subst (λ (x : Outline). Rows s x maps.places items) w.2
        (subst (λ (p : List ℕ). Rows s (outline_of w.0) p items) (sym t.placed)
        (subst (λ (q : List Item). Rows s (outline_of w.0) (padded mapping_cap 0 (places_of w.0.mappings)) q) (sym held) (filled_rows s b w.0 w.1)))

    pub rows_noroom : {a : Answer} → length before < 8 * (1 + o.count) → a ≡ Err (refused_at R.NoRoom 0) → Delivered outcome before a before
    rows_noroom l e =
        let t = rows_shown in
        delivered_refused (ap (within (length before)) t.whole ∙ none_within (length before) (numbers o maps.places items) (omega (arith, long t))) e

    pub rows_done : {us after : List ℕ} {m k : ℕ} → 8 * (1 + o.count) ≤ length before → Wrote before 0 (pack_row o.offset o.crc o.count) m us
        → Wrote us m (made (item_row maps.places) (take o.count items)) k after → Delivered outcome before (Ok k) after
    rows_done {us} {after} {m} {k} l p q =
        let t = rows_shown in
        let first = pack_row o.offset o.crc o.count in
        let more = made (item_row maps.places) (take o.count items) in
        let w = wrote_then first more (omega (arith, long t, length-append first more)) p q in
        delivered_fine (ap (within (length before)) t.whole ∙ fine_within (length before) (numbers o maps.places items) (omega (arith, long t)))
        (ap Ok (w.next ∙ zero-add (length (numbers o maps.places items)))) w.buffer
