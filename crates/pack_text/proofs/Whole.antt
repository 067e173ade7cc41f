-- The listing, by what is answered of a pack: the lines that are shown of a reading, or the line of a refusal.
use mathlib.Core.Path.{◌≡◌, sym, ap, subst, ◌∙◌}
use mathlib.Core.List.{List, ◌++◌}
use Prim.Native.Nat.{ℕ, ◌≤◌}
use native.Mathlib.Omega.{arith}
use lib.ListN.{length, take}
use Rattle.std.specs.Prelude.{Ok, Err}
use Rattle.runs.specs.Digits.{Bytes}
use Rattle.runs.proofs.Writing.{Writing, writing_as, writing_begins}
use Rattle.refusals.specs.Refusals.{number_of}
use Rattle.refusals.specs.Outcomes.{answered}
use Rattle.refusals.specs.declared.Refused.{Refused}
use Rattle.refusals.proofs.Outcomes.{done_of_lem, refused_of}
use Rattle.pack.specs.Fixed.{item_cap}
use Rattle.pack.specs.Items.{count_of}
use Rattle.pack.specs.Reading.{reading}
use Rattle.pack.specs.Slots.{shown}
use Rattle.pack.specs.declared.Reading.{Reading}
use Rattle.pack.proofs.Slots.{slots_count, slots_taken}
use Rattle.pack_layout.proofs.Bounds.{reading_bounds}
use Rattle.pack_text.specs.Text.{line, pack_fields, refused_fields, listing}
use Rattle.pack_text.specs.Items.{item_lines, ItemsStand}
use Rattle.pack_text.proofs.Within.{listing_fits}
use Rattle.pack_text.proofs.Shown.{accepted_lines, accepted_stand}

-- the lines of a reading that is shown: the pack's, then those of its items
pub record Lines (s : List ℕ) (f : Reading) : Type 0 where
  pub few : f.count ≤ item_cap
  pub there : f.count ≡ length (take f.count f.items)
  pub whole : line (pack_fields f.offset f.count f.crc) ++ item_lines s f.labels (take f.count f.items) ≡ listing s (reading s)
  pub stand : ItemsStand s f.labels (take f.count f.items)

pub reading_lines : (s : List ℕ) → Bytes s → {f : Reading} → Ok f ≡ answered shown (reading s) → Lines s f
unfolding shown listing
reading_lines s b h =
    let d = done_of_lem shown (reading s) h in
    let r = d.0 in
    let a = reading_bounds s b r d.1 in
    subst (Lines s) (sym d.2)
    (record {
      few = a.count;
      there = sym (ap length (slots_taken r.body.parts) ∙ slots_count r.body.parts);
      whole = ap (λ (l : List ℕ). line (pack_fields r.offset (count_of r.body.parts) r.body.crc) ++ l) (accepted_lines s r a) ∙ sym (ap (listing s) d.1);
      stand = accepted_stand s r a;
    })

pub refused_line : (s : List ℕ) {x : Refused} → Err x ≡ answered shown (reading s) → line (refused_fields (number_of x.why) x.place) ≡ listing s (reading s)
unfolding listing
refused_line s h = sym (ap (listing s) (refused_of shown (reading s) h))

-- which are to be written, where there is room for any listing
pub reading_begins : (s out : List ℕ) → Bytes s → {f : Reading} → Ok f ≡ answered shown (reading s) → 4096 ≤ length out
    → Writing out 0 (listing s (reading s)) out 0 (line (pack_fields f.offset f.count f.crc) ++ item_lines s f.labels (take f.count f.items))
reading_begins s out b h room =
    writing_as (sym (reading_lines s b h).whole) (writing_begins out 0 (listing s (reading s)) (omega (arith, room, listing_fits s b)))
