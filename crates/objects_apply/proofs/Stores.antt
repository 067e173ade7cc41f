-- A store into the array of a table in work: behind its entries, or into a slot.
use mathlib.Core.Path.{◌≡◌, sym, ap, ◌∙◌}
use mathlib.Core.List.{List, [], ◌∷◌, ◌++◌}
use mathlib.Core.Bool.{true, false}
use Prim.Native.Nat.{ℕ, ◌+◌, ◌<◌, ◌≤◌}
use native.Mathlib.Omega.{arith}
use lib.ListN.{length, get_or, set, take}
use lib.Dec.{eqb}
use lib.Seq.{length-take-le, take-set-lt, get_or-take}
use Rattle.std.proofs.lemmas.List.{take_more_set}
use Rattle.runs.specs.Finding.{place, change}
use Rattle.objects.specs.declared.Object.{Object}
use Rattle.objects.specs.declared.Aod.{Aod}
use Rattle.objects.specs.declared.Xyz.{Xyz}
use Rattle.objects.specs.Entries.{made, moved, blank, free, names, named}
use Rattle.objects.specs.Calls.{put}
use Rattle.objects_apply.specs.declared.table.Table.{Table}
use Rattle.objects_apply.specs.Held.{held}
use Rattle.objects_apply.specs.Marks.{Marks}
use Rattle.objects_apply.specs.Slots.{follows}
use Rattle.objects_apply.proofs.Judging.{marks_free, marks_used}
use Rattle.objects_apply.proofs.Places.{place_less}
use Rattle.objects_apply.proofs.Marks.{Stands, stands_change}
use Rattle.objects_apply.proofs.Seats.{Seated}
use Rattle.objects_apply.proofs.Putting.{put_store, put_marks, put_before}
use Rattle.objects_apply.proofs.Moving.{now_marks, now_place}

-- the entries that a table holds
module _ (t : Table) where
  pub held_length : length (held t) ≡ t.len
  held_length = let w = t.wide in length-take-le t.len t.entries (omega (arith, t.few))

  pub held_at : (i : ℕ) → i < t.len → get_or (held t) i blank ≡ get_or t.entries i blank
  held_at i h = get_or-take t.len t.entries i blank h

-- BEHIND THE ENTRIES

module _ (es : List Object) (len : ℕ) (o : Object) (h : len < length es) where
  pub pushed : take (len + 1) (set es len o) ≡ take len es ++ (o ∷ [])
  pushed = take_more_set es len o h

  pub pushed_free : {s : List ℕ} → Marks (take len es) s → free o ≡ true → Marks (take (len + 1) (set es len o)) s
  pushed_free m d = rw pushed (marks_free o m d)

  pub pushed_used : {s : List ℕ} → Marks (take len es) s → free o ≡ false → follows (take len es) o ≡ true
      → Marks (take (len + 1) (set es len o)) (set s o.element (len + 1))
  pushed_used m d f =
      let l = length-take-le len es (omega arith) in
      let u = marks_used o m d f in
      rw pushed (rw l at u)

  pub pushed_sought : {p : ℕ} → p ≤ place free (take len es) → p ≤ place free (take (len + 1) (set es len o))
  pushed_sought i = rw pushed (let g = place_less free (take len es) (o ∷ []) in omega arith)

-- INTO A SLOT

-- what a record makes, into the slot for its element
module _ (t : Table) (r : Aod) (real : eqb r.element 0 ≡ false) {at : ℕ} (st : Seated (held t) r.element at) {o : Object} (is : o ≡ made r) where
  pub seat_within : at < 128
  seat_within = let l = held_length t in omega (arith, t.few, st.within)

  pub set_held : take t.len (set t.entries at o) ≡ put r (held t)
  set_held =
      let l = held_length t in
      take-set-lt t.len t.entries at o (omega (arith, st.within)) ∙ ap (set (held t) at) is
      ∙ sym (put_store r (held t) real at st.at_goal st.within)

  pub set_marks : {v : ℕ} → r.element < 4096 → v ≡ at + 1 → Marks (take t.len (set t.entries at o)) (set t.slots r.element v)
  set_marks small e = rw (set_held, e) (put_marks r (held t) real at st.at_goal st.within small t.noted)

  pub set_sought : t.passed ≤ place free (take t.len (set t.entries at o))
  set_sought = rw set_held (let g = put_before r (held t) real at st.at_goal st.within in omega (arith, t.none_free))

-- an entry where a record puts it
module _ (t : Table) (m : Xyz) {at : ℕ} (st : Stands (held t) m.element at) where
  pub slot_within : at < 128
  slot_within = let l = held_length t in omega (arith, t.few, st.within)

  pub slot_entry : named (held t) m.element ≡ get_or t.entries at blank
  slot_entry = let l = held_length t in st.entry ∙ held_at t at (omega (arith, st.within))

  module _ {o : Object} (is : o ≡ moved m (named (held t) m.element)) where
    pub moved_held : take t.len (set t.entries at o) ≡ change (names m.element) (moved m) (held t)
    moved_held =
        let l = held_length t in
        take-set-lt t.len t.entries at o (omega (arith, st.within)) ∙ ap (set (held t) at) is ∙ sym (stands_change st (moved m))

    pub moved_marks : Marks (take t.len (set t.entries at o)) t.slots
    moved_marks = rw moved_held (now_marks m (held t) st.used t.noted)

    pub moved_sought : t.passed ≤ place free (take t.len (set t.entries at o))
    moved_sought = rw moved_held (let g = now_place m (held t) st.used in omega (arith, t.none_free))
