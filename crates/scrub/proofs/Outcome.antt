-- How a scrub comes out: a refusal of the sheet, of the pack, NOROOM, or the written pack.
use mathlib.Core.Path.{◌≡◌, refl, sym, ap, subst, ◌∙◌}
use mathlib.Core.List.{List}
use mathlib.Core.Logic.{◌⊎◌}
use Rattle.std.specs.Prelude.{Option, Ok, Err}
use Prim.Native.Nat.{ℕ, ◌+◌, ◌<◌, ◌≤◌}
use native.Mathlib.Omega.{arith}
use lib.ListN.{length, take}
use Rattle.runs.specs.Digits.{Bytes}
use Rattle.refusals.specs.declared.Refusal.TheVariants as R
use Rattle.refusals.specs.declared.Refused.{Refused}
use Rattle.refusals.specs.Refusals.{refused_at}
use Rattle.refusals.specs.Outcomes.{Outcome, fine, refused, and_then, answered, Answer}
use Rattle.refusals.proofs.Outcomes.{then_fine, refused_of, done_of_lem}
use Rattle.numbers.specs.Lengths.{length_bytes}
use Rattle.pack.specs.declared.Item.{Item}
use Rattle.pack.specs.Config.{places_of}
use Rattle.pack.specs.Fixed.{pack_cap, mapping_cap}
use Rattle.pack.specs.Reading.{Read, reading}
use Rattle.pack.specs.Meaning.{meant}
use Rattle.pack.specs.Said.{Said}
use Rattle.pack.proofs.Padded.{take_padded}
use Rattle.pack.proofs.Slots.{slots_taken}
use Rattle.pack_config.specs.declared.table.Mappings.{Mappings}
use Rattle.pack_config.specs.Tables.{Tables}
use Rattle.pack_layout.proofs.Bounds as B
use Rattle.pack_read.specs.declared.Outline.{Outline}
use Rattle.pack_read.specs.Shown.{outline_of, items_of, mappings_of, Outlined}
use Rattle.scrub_kept.specs.Sheet.{Sheet, sheet_of}
use Rattle.scrub_kept.specs.Kept.{kept}
use Rattle.scrub_kept.specs.Written.{written}
use Rattle.scrub_kept.specs.Scrubbed.{room_for, scrubbed, leaves}
use Rattle.scrub_kept.proofs.Sizes.{written_bytes, written_length}
use Rattle.scrub_kept.proofs.Scrubbing.{room_enough, room_short}
use Rattle.scrub_ops.specs.declared.Op.{Op}
use Rattle.scrub_config.specs.declared.Mapping.{Mapping}
use Rattle.scrub_write.specs.Packed.{framed, sealed, Packed, content_at, Packs}
use Rattle.scrub.specs.Ready.{Accepts, Ready}
use Rattle.scrub.specs.Scrubs.{kept_pack, Writes, Scrubs}
use Rattle.scrub.proofs.Shown.{places_count}

-- THE SHEET

pub sheet_refused : (sheet s before : List ℕ) {e : Refused} {r : Answer} → Err e ≡ answered (λ (x : Sheet). x) (sheet_of sheet) → r ≡ Err e → Scrubs sheet s before r before
unfolding scrubbed and_then answered leaves
sheet_refused sheet s before e f =
    let z = refused_of (λ (x : Sheet). x) (sheet_of sheet) e in
    record { told = rw z f; run = rw z refl }

-- a good sheet says what is kept
module _ (sheet s before : List ℕ) {sh : Sheet} (e : Ok sh ≡ answered (λ (x : Sheet). x) (sheet_of sheet)) where
  same_pack : scrubbed sheet s (length before) ≡ kept_pack sh s (length before)
  unfolding scrubbed kept_pack
  same_pack =
      let d = done_of_lem (λ (x : Sheet). x) (sheet_of sheet) e in
      then_fine _ d.1 ∙ ap (λ (x : Sheet). and_then (reading s) (λ (r : Read). room_for (length before) (written (kept x (meant s r))))) (sym d.2)

  pub kept_scrubs : {r : Answer} {after : List ℕ} → Writes sh s before r after → Scrubs sheet s before r after
  kept_scrubs w = record { told = rw same_pack w.told; run = rw same_pack w.run }

  -- THE PACK

  pub pack_refused : {f : Refused} {r : Answer} {items : List Item} {maps : Mappings} → Outlined s (Err f) items maps → r ≡ Err f → Scrubs sheet s before r before
  unfolding kept_pack and_then answered leaves
  pack_refused o g =
      let z = refused_of outline_of (reading s) o.told in
      kept_scrubs (record { told = rw z g; run = rw z refl })

pub pack_accepted : (s : List ℕ) → Bytes s → {found : Outline} {items : List Item} {maps : Mappings} → Outlined s (Ok found) items maps
    → Accepts s found.offset (take maps.count maps.places) (take found.count items)
pack_accepted s valid {found} {items} {maps} o =
    let d = done_of_lem outline_of (reading s) o.told in
    let r = d.0 in
    let t = subst (λ (x : Outcome Read). Tables (mappings_of x) maps) d.1 o.tables in
    let n = places_count s r (B.reading_bounds s valid r d.1) in
    record {
      bytes = valid;
      read = r;
      is = d.1;
      starts = ap (λ (x : Outline). x.offset) d.2;
      stand = ap (take maps.count) t.placed ∙ take_padded mapping_cap 0 (places_of r.mappings) maps.count (n ∙ sym t.counted);
      hold =
          ap (take found.count) (o.held ∙ ap items_of d.1) ∙ ap (λ (k : ℕ). take k (items_of (fine r))) (ap (λ (x : Outline). x.count) d.2)
          ∙ slots_taken r.body.parts;
    }

-- no more items than there are places for
pub found_few : (s : List ℕ) → Bytes s → {found : Outline} {items : List Item} {maps : Mappings} → Outlined s (Ok found) items maps → found.count ≤ 64
found_few s valid o =
    let d = done_of_lem outline_of (reading s) o.told in
    let n = (B.reading_bounds s valid d.0 d.1).count in
    let c = ap (λ (x : Outline). x.count) d.2 in
    omega arith

-- WRITING

module _ (sh : Sheet) {s : List ℕ} (before : List ℕ) {offset : ℕ} {places : List ℕ} {items : List Item} (a : Accepts s offset places items)
    {ms : List Mapping} {ops : List (Option Op)} {size : ℕ} (made : (q : Read) → reading s ≡ fine q → Ready (kept sh (meant s q)) s offset ms ops size) where
  abbrev what : Said
  what = kept sh (meant s a.read)

  abbrev whole : ℕ
  whole = 16 + length (length_bytes size) + size

  ready : Ready what s offset ms ops size
  ready = made a.read a.is

  pub packs : Packs s offset ms ops size
  packs = ready.packs

  room_is : kept_pack sh s (length before) ≡ room_for (length before) (written what)
  unfolding kept_pack
  room_is = then_fine _ a.is

  whole_is : whole ≡ length (written what)
  whole_is =
      ap (λ (k : ℕ). 16 + length (length_bytes k) + k) (packs.counted ∙ ap (λ (l : List ℕ). length l + 6) ready.content) ∙ sym (written_length what)

  pub no_room : {r : Refused} → r ≡ refused_at R.NoRoom 0 → (length before < whole) ⊎ (pack_cap < whole) → Writes sh s before (Err r) before
  unfolding answered leaves
  no_room e h =
      let z : kept_pack sh s (length before) ≡ refused R.NoRoom 0 = room_is ∙ room_short (length before) (written what) (rw (← whole_is) h) in
      record { told = rw (z, e) refl; run = rw z refl }

  pub wrote : (k : ℕ) (after : List ℕ) → whole ≤ length before → whole ≤ pack_cap → Packed before (sealed (framed (content_at s offset ms ops))) k after
      → Writes sh s before (Ok k) after
  unfolding answered
  wrote k after fits short p =
      let e : sealed (framed (content_at s offset ms ops)) ≡ written what =
      ap (λ (l : List ℕ). sealed (framed l)) ready.content ∙ sym (written_bytes what) in
      let w = whole_is in
      let z : kept_pack sh s (length before) ≡ fine (written what) = room_is ∙ room_enough (length before) (written what) (omega arith) (omega arith) in
      let n : k ≡ length (written what) = p.size ∙ ap length e in
      record {
        told = rw (z, n) refl;
        run = rw z (p.buffer ∙ ap (λ (l : List ℕ). leaves before (fine l)) e);
      }
