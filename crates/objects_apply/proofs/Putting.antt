-- The loop over an AOD's records: what is left of them comes, on the table as it is, to what all of them come to on the table as it was.
use mathlib.Core.Path.{◌≡◌, refl, sym, ap, ◌∙◌}
use mathlib.Core.List.{List, [], ◌∷◌}
use mathlib.Core.Bool.{true, false}
use Prim.Native.Nat.{ℕ, suc, ◌+◌, ◌-◌, ◌≤◌, ◌<◌}
use native.Mathlib.Omega.{arith}
use native.Mathlib.Numerals.{add-one}
use lib.ListN.{length, get_or, set, drop, drop_of_length-le}
use lib.Seq.{drop-cons}
use lib.Dec.{eqb}
use borrow.Author.Tests.{eqb-true, eq-eqb, lt-ltb, le-ltb}
use Rattle.std.specs.Prelude.{Ok, Err}
use Rattle.runs.specs.Those.{those}
use Rattle.runs.specs.Finding.{count, place, distinct}
use Rattle.runs.proofs.Cases.{split}
use Rattle.runs.proofs.Those.{each_at}
use Rattle.runs.proofs.Filling.{change_place}
use Rattle.refusals.specs.declared.Refusal.TheVariants as R
use Rattle.refusals.specs.Outcomes.{Answer}
use Rattle.refusals.specs.Refusals.{refused_at}
use Rattle.objects.specs.declared.Object.{Object}
use Rattle.objects.specs.declared.Aod.{Aod}
use Rattle.objects.specs.Entries.{made, blank, free, names, named}
use Rattle.objects.specs.Calls.{aod, fresh, verdict, put, put_all, changed, Sound}
use Rattle.objects.proofs.Keys.{key_names, free_apart, names_apart, named_none, named_some}
use Rattle.objects.proofs.Edits.{with, put_named, put_free}
use Rattle.objects.proofs.Folds.{Slot, fresh_with, fresh_put}
use Rattle.objects_pmd.specs.Values.{good}
use Rattle.objects_apply.specs.Marks.{mark_of, Marks}
use Rattle.objects_apply.specs.Slots.{has_seat}
use Rattle.objects_apply.specs.Worked.{Worked}
use Rattle.objects_apply.proofs.Good.{good_small}
use Rattle.objects_apply.proofs.Places.{place_there, place_passes, place_same, place_new, place_grows}
use Rattle.objects_apply.proofs.Marks.{mark_none, mark_some, marks_set}
use Rattle.objects_apply.proofs.Seats.{goal_of, full_seats, seat_slot}

-- ONE RECORD IS PUT

module _ (r : Aod) (t : List Object) (real : eqb r.element 0 ≡ false) (at : ℕ) (is : at ≡ place (goal_of t r.element) t) (h : at < length t) where
  pub put_store : put r t ≡ set t at (made r)
  unfolding put
  put_store =
      change_place (goal_of t r.element) (λ (_ : Object). made r) blank t ∙ ap (λ (i : ℕ). set t i (made r)) (sym is)

  own : names r.element (made r) ≡ true
  own = key_names (record { used = real; element = refl })

  -- what stood in the slot was free, or the element's
  slot_of : Slot t r
  slot_of e = let q : at ≡ place free t = rw e at is in place_there free t (omega arith)

  was_free : free (named t r.element) ≡ true → free (get_or t at blank) ≡ true
  was_free e =
      let q : at ≡ place free t = rw e at is in rw q (place_passes free blank t (slot_of e))

  was_own : free (named t r.element) ≡ false → names r.element (get_or t at blank) ≡ true
  was_own e =
      let q : at ≡ place (names r.element) t = rw e at is in rw q (place_passes (names r.element) blank t (named_some r.element t e))

  was_other : (n : ℕ) → eqb n r.element ≡ false → names n (get_or t at blank) ≡ false
  was_other n d =
      split (free (named t r.element))
      (λ e. free_apart n (get_or t at blank) (was_free e))
      (λ e. names_apart r.element n (get_or t at blank) (was_own e) d)

  own_place : place (names r.element) (put r t) ≡ at
  own_place =
      rw put_store
      (split (free (named t r.element))
      (λ e. place_new (names r.element) t at (made r) h (named_none r.element t e) own)
      (λ e. place_same (names r.element) blank t at (made r) (own ∙ sym (was_own e)) ∙ sym (rw e at is)))

  other_place : (n : ℕ) → eqb n r.element ≡ false → place (names n) (put r t) ≡ place (names n) t
  other_place n d =
      rw put_store
      (place_same (names n) blank t at (made r) (names_apart r.element n (made r) own d ∙ sym (was_other n d)))

  now_named : named (put r t) ≡ with (named t) r.element (made r)
  now_named = put_named r t real slot_of

  own_mark : mark_of (put r t) r.element ≡ at + 1
  own_mark =
      let e : named (put r t) r.element ≡ made r = ap (λ (has : ℕ → Object). has r.element) now_named ∙ rw (eq-eqb r.element r.element refl) in
      let m = mark_some (put r t) r.element (ap free e ∙ real) in
      let p = own_place in omega arith

  other_mark : (n : ℕ) → eqb n r.element ≡ false → mark_of (put r t) n ≡ mark_of t n
  other_mark n d =
      let e : named (put r t) n ≡ named t n = ap (λ (has : ℕ → Object). has n) now_named ∙ rw d in
      split (free (named t n))
      (λ f. mark_none (put r t) n (ap free e ∙ f) ∙ sym (mark_none t n f))
      (λ f. mark_some (put r t) n (ap free e ∙ f) ∙ ap suc (other_place n d) ∙ sym (mark_some t n f))

  pub put_marks : {s : List ℕ} → r.element < 4096 → Marks t s → Marks (put r t) (set s r.element (at + 1))
  put_marks b m =
      marks_set r.element (at + 1) b m
      (λ n. split (eqb n r.element)
      (λ d. let q : n ≡ r.element = eqb-true n r.element d in rw (d, q) own_mark)
      (λ d. rw d (other_mark n d)))

  pub put_before : place free t ≤ place free (put r t)
  put_before = rw put_store (place_grows free t at (made r) real)

-- THE LOOP

pub record Putting (rs : List Aod) (t₀ t : List Object) (k : ℕ) : Type 0 where
  pub within : k ≤ length rs
  pub room : length (fresh (named t) (drop k rs)) + count free t₀ ≡ length (fresh (named t₀) rs) + count free t
  pub left : put_all (drop k rs) t ≡ put_all rs t₀

pub starts : (rs : List Aod) (t : List Object) → Putting rs t t 0
starts rs t = record { within = omega arith; room = refl; left = refl }

-- FULL or not, by the new elements of all records and the room of the table as it was
module _ (rs : List Aod) (t₀ after : List Object) {r : Answer} where
  full : count free t₀ < length (fresh (named t₀) rs) → r ≡ Err (refused_at R.Full 0) → Worked (aod rs) t₀ r after
  unfolding verdict
  full h e = record { told = e ∙ simp (lt-ltb (count free t₀) (length (fresh (named t₀) rs)) h); table = rw e }

  done : length (fresh (named t₀) rs) ≤ count free t₀ → after ≡ put_all rs t₀ → r ≡ Ok (length rs) → Worked (aod rs) t₀ r after
  unfolding verdict changed
  done h l e = record { told = e ∙ simp (le-ltb (count free t₀) (length (fresh (named t₀) rs)) h); table = rw e l }

fresh_none : (has : ℕ → Object) → length (fresh has []) ≡ 0
unfolding fresh distinct those
fresh_none has = refl

module _ {rs : List Aod} {t₀ t : List Object} {k : ℕ} (p : Putting rs t₀ t k) where
  pub ends : length rs ≤ k → {r : Answer} → r ≡ Ok (length rs) → Worked (aod rs) t₀ r t
  unfolding put_all
  ends h e =
      let d : drop k rs ≡ [] = drop_of_length-le rs h in
      let m = rw d at p.room in
      let z = fresh_none (named t) in
      done rs t₀ t (omega arith) (rw d at p.left) e

  module _ (h : k < length rs) (sound : Sound good (aod rs)) (r : Aod) (is : r ≡ get_or rs k r) where
    sound_here : (eqb r.element 0 ≡ false) × (good (made r) ≡ true)
    sound_here =
        rw (sym is) at (each_at (λ (x : Aod). (eqb x.element 0 ≡ false) × (good (made x) ≡ true)) rs k r sound h)

    pub real : eqb r.element 0 ≡ false
    real = sound_here.0

    pub small : r.element < 4096
    small = good_small (made r) sound_here.1

    next : drop k rs ≡ r ∷ drop (k + 1) rs
    next = drop-cons rs k r h ∙ ap (λ (x : Aod). x ∷ drop (suc k) rs) (sym is) ∙ rw (add-one k)

    -- no slot is free, and the element is new
    pub fills : has_seat t r.element ≡ false → {a : Answer} {after : List Object} → a ≡ Err (refused_at R.Full 0) → Worked (aod rs) t₀ a after
    fills n {a} {after} q =
        let o = full_seats t r.element n in
        let l = ap (λ (ns : List ℕ). length ns) (fresh_with (named t) r (drop (k + 1) rs) (made r) real) in
        let l1 = rw o.new at l in
        let m1 = rw next at p.room in
        full rs t₀ after (omega (arith, o.none)) q

    pub puts : has_seat t r.element ≡ true → {u : List Object} → u ≡ put r t → Putting rs t₀ u (k + 1)
    unfolding put_all
    puts n {u} c =
        let sl = seat_slot t r n in
        let a = fresh_put r (drop (k + 1) rs) t real sl in
        let b = put_free r t real sl in
        let m1 = rw next at p.room in
        rw c (record { within = omega arith; room = omega arith; left = rw next at p.left })
