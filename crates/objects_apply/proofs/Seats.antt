-- The slot that an element takes.
use mathlib.Core.Path.{◌≡◌, ap}
use mathlib.Core.List.{List}
use mathlib.Core.Bool.{Bool, true, false, cond}
use Prim.Native.Nat.{ℕ, ◌<◌}
use native.Mathlib.Omega.{arith}
use lib.ListN.{length}
use lib.Dec.{ltb}
use borrow.Author.Tests.{lt-ltb, ltb-true, ltb-false}
use Rattle.std.specs.Prelude.{Some, None, Ok, Err}
use Rattle.runs.specs.Finding.{count, place}
use Rattle.runs.proofs.Cases.{split, absurd_eq}
use Rattle.runs.proofs.Filling.{place_in}
use Rattle.refusals.specs.Refusals.{refused_at}
use Rattle.refusals.specs.declared.Refusal.TheVariants as R
use Rattle.refusals.specs.declared.Refused.{Refused}
use Rattle.objects.specs.declared.Object.{Object}
use Rattle.objects.specs.declared.Aod.{Aod}
use Rattle.objects.specs.Entries.{free, names, named}
use Rattle.objects.proofs.Keys.{named_some}
use Rattle.objects.proofs.Folds.{Slot}
use Rattle.objects_apply.specs.Slots.{slot_of, free_slot, seat_of, has_seat, set_told}
use Rattle.objects_apply.proofs.Marks.{slot_stands, slot_absent}

-- the entry of element n, or a free one where it has none
abbrev pub goal_of : List Object → ℕ → Object → Bool
goal_of t n = cond (free (named t n)) free (names n)

-- THE FIRST FREE SLOT

module _ (t : List Object) where
  pub free_there : {at : ℕ} → at ≡ place free t → at < length t → 0 < count free t → Some at ≡ free_slot t
  unfolding free_slot
  free_there e h c = rw (lt-ltb 0 (count free t) c) (ap Some e)

  pub free_none : count free t ≡ 0 → None ≡ free_slot t
  unfolding free_slot
  free_none z = rw z

-- THE SLOT FOR AN ELEMENT

module _ (t : List Object) (n : ℕ) where
  pub seat_own : {at : ℕ} → Some at ≡ slot_of t n → Some at ≡ seat_of t n
  unfolding seat_of
  seat_own e = let st = slot_stands t n e in rw st.used (ap Some st.slot)

  pub seat_new : None ≡ slot_of t n → free_slot t ≡ seat_of t n
  unfolding seat_of
  seat_new e = rw (slot_absent t n e)

  pub record Seated (at : ℕ) : Type 0 where
    pub at_goal : at ≡ place (goal_of t n) t
    pub within : at < length t
    pub has : has_seat t n ≡ true

  pub seated : {at : ℕ} → Some at ≡ seat_of t n → Seated at
  unfolding seat_of free_slot has_seat
  seated {at} e =
      split (free (named t n))
      (λ d. split (ltb 0 (count free t))
      (λ f. let q : Some at ≡ Some (place free t) = rw (d, f) at e in
      let s : at ≡ place free t = cc in
      let w = place_in free t (ltb-true 0 (count free t) f) in
      record { at_goal = rw d s; within = omega arith; has = rw (d, f) })
      (λ f. let q : Some at ≡ None = rw (d, f) at e in absurd_eq (cc)))
      (λ d. let q : Some at ≡ Some (place (names n) t) = rw d at e in
      let s : at ≡ place (names n) t = cc in
      let w = place_in (names n) t (named_some n t d) in
      record { at_goal = rw d s; within = omega arith; has = rw d })

  pub unseated : None ≡ seat_of t n → has_seat t n ≡ false
  unfolding seat_of free_slot has_seat
  unseated e =
      split (free (named t n))
      (λ d. split (ltb 0 (count free t))
      (λ f. let q : None ≡ Some (place free t) = rw (d, f) at e in absurd_eq (cc))
      (λ f. rw (d, f)))
      (λ d. let q : None ≡ Some (place (names n) t) = rw d at e in absurd_eq (cc))

  -- where there is none, the element is new and no slot is free
  pub record Crowded : Type 0 where
    pub new : free (named t n) ≡ true
    pub none : count free t ≡ 0

  pub full_seats : has_seat t n ≡ false → Crowded
  unfolding has_seat
  full_seats e =
      split (free (named t n))
      (λ d. let f : ltb 0 (count free t) ≡ false = rw d at e in
      let z = ltb-false 0 (count free t) f in record { new = d; none = omega arith })
      (λ d. let q : true ≡ false = rw d at e in absurd_eq (cc))

-- where there is one, a record that is new has a free slot
pub seat_slot : (t : List Object) (r : Aod) → has_seat t r.element ≡ true → Slot t r
unfolding has_seat
seat_slot t r e d = let f : ltb 0 (count free t) ≡ true = rw d at e in ltb-true 0 (count free t) f

-- the told outcome of a record
module _ (t : List Object) (n : ℕ) where
  pub set_done : has_seat t n ≡ true → Ok tt ≡ set_told t n
  unfolding set_told
  set_done h = rw h

  pub set_full : {e : Refused} → has_seat t n ≡ false → e ≡ refused_at R.Full 0 → Err e ≡ set_told t n
  unfolding set_told
  set_full h e = rw h (ap Err e)

  pub done_seat : Ok tt ≡ set_told t n → has_seat t n ≡ true
  unfolding set_told
  done_seat e = split (has_seat t n) (λ d. d) (λ d. let q : Ok tt ≡ Err (refused_at R.Full 0) = rw d at e in absurd_eq (cc))

  pub record Full (e : Refused) : Type 0 where
    pub none : has_seat t n ≡ false
    pub told : e ≡ refused_at R.Full 0

  pub full_told : {e : Refused} → Err e ≡ set_told t n → Full e
  unfolding set_told
  full_told {e} h =
      split (has_seat t n) (λ d. let q : Err e ≡ Ok tt = rw d at h in absurd_eq (cc))
      (λ d. let q : Err e ≡ Err (refused_at R.Full 0) = rw d at h in
      let s : e ≡ refused_at R.Full 0 = cc in record { none = d; told = s })
