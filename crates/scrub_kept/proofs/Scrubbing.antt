-- The scrub of an accepted pack by a good sheet: it writes what is kept, or gives NOROOM.
use mathlib.Core.Path.{◌≡◌, refl, sym, ap, ap₂, ◌∙◌}
use mathlib.Core.Bool.{◌&&◌}
use mathlib.Core.List.{List, ◌++◌}
use mathlib.Core.Logic.{◌⊎◌, inl, inr}
use Prim.Native.Nat.{ℕ, ◌-◌, ◌<◌, ◌≤◌}
use native.Mathlib.Omega.{arith}
use lib.Dec.{leb}
use lib.ListN.{length, take, drop, replicate}
use lib.Seq.{take_at, drop_at}
use borrow.Author.Tests.{leb-true, le-leb, lt-leb}
use Rattle.runs.specs.Digits.{Bytes}
use Rattle.runs.proofs.Cases.{split, absurd_eq}
use Rattle.refusals.specs.declared.Refusal.{Refusal}
use Rattle.refusals.specs.declared.Refusal.TheVariants as R
use Rattle.std.specs.Prelude.{Ok, Err}
use Rattle.refusals.specs.Outcomes.{Outcome, fine, refused, and_then, answered}
use Rattle.refusals.specs.Refusals.{number_of, refused_at}
use Rattle.refusals.proofs.Outcomes.{then_fine, then_stops}
use Rattle.pack.specs.Fixed.{pack_cap}
use Rattle.pack.specs.Said.{SaidItem}
use Rattle.pack.specs.Reading.{Read, reading}
use Rattle.pack.specs.Meaning.{meant}
use Rattle.pack_layout.proofs.Reasons.{reading_reason}
use Rattle.scrub_kept.specs.Sheet.{Sheet, sheet_of}
use Rattle.scrub_kept.specs.Kept.{kept_items, kept}
use Rattle.scrub_kept.specs.Written.{written}
use Rattle.scrub_kept.specs.Scrubbed.{room_for, scrubbed, leaves}
use Rattle.scrub_kept.proofs.Sheets.{sheet_why}

pub scrub_is : (sheet s : List ℕ) (sh : Sheet) (r : Read) (room : ℕ) → sheet_of sheet ≡ fine sh → reading s ≡ fine r
    → scrubbed sheet s room ≡ room_for room (written (kept sh (meant s r)))
unfolding scrubbed and_then
scrub_is sheet s sh r room a b = simp (a, b)

-- the sheet is judged first, then the pack
pub sheet_refused : (sheet s : List ℕ) (room : ℕ) (why : Refusal) (place : ℕ) → sheet_of sheet ≡ refused why place → scrubbed sheet s room ≡ refused R.Sheet 0
unfolding scrubbed and_then
sheet_refused sheet s room why place a = simp (sheet_why sheet why place a)

pub pack_refused : (sheet s : List ℕ) (room : ℕ) (sh : Sheet) (why : Refusal) (place : ℕ) → sheet_of sheet ≡ fine sh → reading s ≡ refused why place
    → scrubbed sheet s room ≡ refused why place
unfolding scrubbed and_then
pack_refused sheet s room sh why place a b = simp (a, b)

-- the same kept items make the same outcome
pub scrub_same : (sheet s t : List ℕ) (sh : Sheet) (r q : Read) (room : ℕ) → sheet_of sheet ≡ fine sh → reading s ≡ fine r → reading t ≡ fine q
    → (meant s r).offset ≡ (meant t q).offset → kept_items sh (meant s r).items ≡ kept_items sh (meant t q).items
    → scrubbed sheet s room ≡ scrubbed sheet t room
unfolding kept
scrub_same sheet s t sh r q room a b c o i =
    scrub_is sheet s sh r room a b
    ∙ ap₂ (λ (n : ℕ) (xs : List SaidItem). room_for room (written (record { offset = n; items = xs }))) o i
    ∙ sym (scrub_is sheet t sh q room a c)

-- the room that there is
pub room_enough : (room : ℕ) (w : List ℕ) → length w ≤ room → length w ≤ pack_cap → room_for room w ≡ fine w
unfolding room_for
room_enough room w h g = simp (le-leb (length w) room h, le-leb (length w) pack_cap g)

pub room_short : (room : ℕ) (w : List ℕ) → (room < length w) ⊎ (pack_cap < length w) → room_for room w ≡ refused R.NoRoom 0
unfolding room_for
room_short room w (inl h) = simp (lt-leb (length w) room h)
room_short room w (inr h) = split (leb (length w) room) (λ e. simp (e, lt-leb (length w) pack_cap h)) (λ e. simp e)

-- what was written is no longer than the buffer and the cap
pub room_is : (room : ℕ) (w b : List ℕ) → room_for room w ≡ fine b → (w ≡ b) × (length b ≤ room) × (length b ≤ pack_cap)
unfolding room_for
room_is room w b h =
    split (leb (length w) room)
    (λ e. split (leb (length w) pack_cap)
    (λ f. let i : fine w ≡ fine b = simp (e, f) at h in
    let z : w ≡ b = cc in
    let l : length w ≡ length b = ap length z in
    (z, omega (arith, leb-true), omega (arith, leb-true)))
    (λ f. let i : refused R.NoRoom 0 ≡ fine b = simp (e, f) at h in absurd_eq (cc)))
    (λ e. let i : refused R.NoRoom 0 ≡ fine b = simp e at h in absurd_eq (cc))

room_why : (room : ℕ) (w : List ℕ) (why : Refusal) (place : ℕ) → room_for room w ≡ refused why place → R.NoRoom ≡ why
unfolding room_for
room_why room w why place h =
    split (leb (length w) room && leb (length w) pack_cap)
    (λ e. let i : fine w ≡ refused why place = simp e at h in absurd_eq (cc))
    (λ e. let i : refused R.NoRoom 0 ≡ refused why place = simp e at h in cc)

-- by a good sheet no scrub is refused as SHEET
pub never_sheet : (sheet s : List ℕ) (room : ℕ) (sh : Sheet) (why : Refusal) (place : ℕ) → Bytes s → sheet_of sheet ≡ fine sh
    → scrubbed sheet s room ≡ refused why place → number_of why ≡ 14 → ⊥
unfolding scrubbed
never_sheet sheet s room sh why place bytes named h is =
    let into : Sheet → Read → Outcome (List ℕ) = λ x r. room_for room (written (kept x (meant s r))) in
    then_stops (reading s) (into sh) (sym (then_fine (λ (x : Sheet). and_then (reading s) (into x)) named) ∙ h)
    (λ e. omega (arith, is, reading_reason s bytes why place e))
    (λ r accepted e. omega (arith, is, ap number_of (room_why room (written (kept sh (meant s r))) why place e)))

-- where something is written, what the buffer held before is gone
pub done_same : (before other : List ℕ) (o : Outcome (List ℕ)) → length before ≡ length other
    → (n : ℕ) → answered length o ≡ Ok n → leaves before o ≡ leaves other o
unfolding answered leaves
done_same before other (fine b) l n h = ap (λ (m : ℕ). b ++ replicate (m - length b) 0) l
done_same before other (refused why place) l n h = absurd_eq (cc)

-- the pack of so many bytes as the answer says, and 0 after it
pub done_front : (before : List ℕ) (o : Outcome (List ℕ)) (n : ℕ) → answered length o ≡ Ok n → o ≡ fine (take n (leaves before o))
unfolding answered leaves
done_front before (fine b) n h = ap fine (sym (take_at b (replicate (length before - length b) 0) n (cc)))
done_front before (refused why place) n h = absurd_eq (cc)

pub done_rest : (before : List ℕ) (o : Outcome (List ℕ)) (n : ℕ) → answered length o ≡ Ok n → drop n (leaves before o) ≡ replicate (length before - n) 0
unfolding answered leaves
done_rest before (fine b) n h =
    let l : length b ≡ n = cc in drop_at b (replicate (length before - length b) 0) n l ∙ ap (λ (m : ℕ). replicate (length before - m) 0) l
done_rest before (refused why place) n h = absurd_eq (cc)

-- after a refusal the buffer holds what it held before
pub refused_same : (before : List ℕ) (o : Outcome (List ℕ)) (why : Refusal) (place : ℕ) → answered length o ≡ Err (refused_at why place) → leaves before o ≡ before
unfolding answered leaves
refused_same before (fine b) why place h = absurd_eq (cc)
refused_same before (refused w p) why place h = refl
