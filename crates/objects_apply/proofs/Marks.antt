-- The marks of a table: what they say of an element, and how they follow the table.
use mathlib.Core.Path.{◌≡◌, refl, sym, ap, ◌∙◌}
use mathlib.Core.List.{List, [], ◌∷◌, ◌++◌}
use mathlib.Core.Bool.{Bool, true, false, not, cond}
use Prim.Native.Nat.{ℕ, zero, suc, ◌+◌, ◌-◌, ◌<◌, ◌≤◌}
use native.Mathlib.Omega.{arith}
use lib.ListN.{length, get_or, set, replicate, length-replicate, length-set}
use lib.Seq.{get_or-set_same, get_or-set_other}
use lib.Dec.{eqb, ltb}
use borrow.Author.Tests.{eqb-true, eqb-false, lt-ltb, le-ltb}
use Rattle.std.specs.Prelude.{Option, Some, None}
use Rattle.std.specs.Option.{SomeIff, is_some}
use Rattle.runs.specs.Finding.{first, change, place}
use Rattle.runs.proofs.Cases.{split, absurd_eq}
use Rattle.runs.proofs.Filling.{place_in, first_place, change_place}
use Rattle.objects.specs.declared.Object.{Object}
use Rattle.objects.specs.Entries.{blank, free, names, named}
use Rattle.objects.proofs.Keys.{names_key, named_none, named_some}
use Rattle.objects_apply.specs.Marks.{mark_of, mark_in, Marks}
use Rattle.objects_apply.specs.Slots.{slot_of}
use Rattle.objects_apply.proofs.Places.{first_before, first_behind, place_before, place_behind}

-- WHAT A MARK SAYS

module _ (t : List Object) (n : ℕ) where
  pub mark_none : free (named t n) ≡ true → mark_of t n ≡ 0
  unfolding mark_of
  mark_none e = rw e

  pub mark_some : free (named t n) ≡ false → mark_of t n ≡ suc (place (names n) t)
  unfolding mark_of
  mark_some e = rw e

-- an element of mark 0 has no entry
pub unmarked : (t : List Object) (n : ℕ) {m : ℕ} → m ≡ mark_of t n → m ≡ 0 → free (named t n) ≡ true
unmarked t n e z = split (free (named t n)) (λ d. d) (λ d. let k = mark_some t n d in absurd (omega arith))

-- and one of another mark has it in the slot before
pub record Stands (t : List Object) (n at : ℕ) : Type 0 where
  pub used : free (named t n) ≡ false
  pub slot : at ≡ place (names n) t
  pub within : at < length t
  pub entry : named t n ≡ get_or t at blank

pub marked : (t : List Object) (n : ℕ) {m : ℕ} → m ≡ mark_of t n → 0 < m → Stands t n (m - 1)
unfolding named
marked t n {m} e h =
    split (free (named t n)) (λ d. let k = mark_none t n d in absurd (omega arith))
    (λ d. let k = mark_some t n d in
    let s : m - 1 ≡ place (names n) t = omega arith in
    let w = place_in (names n) t (named_some n t d) in
    record { used = d; slot = s; within = omega arith; entry = first_place (names n) blank t ∙ ap (λ (i : ℕ). get_or t i blank) (sym s) })

-- a change of an element's entry is a store into its slot
pub stands_change : {t : List Object} {n at : ℕ} → Stands t n at → (g : Object → Object) → change (names n) g t ≡ set t at (g (named t n))
unfolding named
stands_change {t} {n} {at} s g =
    change_place (names n) g blank t ∙ ap (λ (i : ℕ). set t i (g (get_or t i blank))) (sym s.slot) ∙ ap (λ (e : Object). set t at (g e)) (sym s.entry)

-- the slot of an element, and what it says of the table
module _ (t : List Object) (n : ℕ) {m : ℕ} (is : m ≡ mark_of t n) where
  pub slot_none : m ≡ 0 → None ≡ slot_of t n
  unfolding slot_of
  slot_none z = rw (unmarked t n is z)

  pub slot_some : 0 < m → Some (m - 1) ≡ slot_of t n
  unfolding slot_of
  slot_some h = let st = marked t n is h in rw st.used (ap Some st.slot)

-- the mark less 1, where there is one
pub slot_by : (t : List Object) (n : ℕ) {m : ℕ} (r : Option ℕ) → m ≡ mark_of t n → SomeIff r (1 ≤ m) (m - 1) → r ≡ slot_of t n
slot_by t n None is never = slot_none t n is (omega (arith, never))
slot_by t n (Some x) is there = ap Some there.1 ∙ slot_some t n is there.0

flipped : (b x : Bool) → x ≡ not b → b ≡ not x
flipped true x e = sym (ap not e)
flipped false x e = sym (ap not e)

-- an element has no slot exactly where it has no entry
pub slot_free : (t : List Object) (n : ℕ) {b : Bool} {r : Option ℕ} → r ≡ slot_of t n → is_some r ≡ not b → b ≡ free (named t n)
unfolding slot_of
slot_free t n {b} {r} e f =
    flipped b (is_some r) f
    ∙ split (free (named t n)) (λ d. let q : r ≡ None = rw d at e in rw (d, q)) (λ d. let q : r ≡ Some (place (names n) t) = rw d at e in rw (d, q))

pub slot_stands : (t : List Object) (n : ℕ) {at : ℕ} → Some at ≡ slot_of t n → Stands t n at
unfolding slot_of named
slot_stands t n {at} e =
    split (free (named t n)) (λ d. let q : Some at ≡ None = rw d at e in absurd_eq (cc))
    (λ d. let q : Some at ≡ Some (place (names n) t) = rw d at e in
    let s : at ≡ place (names n) t = cc in
    let w = place_in (names n) t (named_some n t d) in
    record { used = d; slot = s; within = omega arith; entry = first_place (names n) blank t ∙ ap (λ (i : ℕ). get_or t i blank) (sym s) })

pub slot_absent : (t : List Object) (n : ℕ) → None ≡ slot_of t n → free (named t n) ≡ true
unfolding slot_of
slot_absent t n e =
    split (free (named t n)) (λ d. d)
    (λ d. let q : None ≡ Some (place (names n) t) = rw d at e in absurd_eq (cc))

-- THE ARRAY

-- where nothing is noted; k is a variable so that no list of 4096 numbers is computed
nothing : (k n : ℕ) → ◌≡◌ {A = ℕ} (get_or (replicate k 0) n 0) 0
nothing zero n = refl
nothing (suc k) zero = refl
nothing (suc k) (suc n) = nothing k n

unmarked_in : (s : List ℕ) (n : ℕ) → get_or s n 0 ≡ 0 → mark_in s n ≡ 0
unfolding mark_in
unmarked_in s n h = split (ltb n 4096) (λ e. rw e h) (λ e. rw e)

named_nothing : (n : ℕ) → free (named [] n) ≡ true
unfolding named first
named_nothing n = refl

pub marks_none : (k : ℕ) {s : List ℕ} → k ≡ 4096 → s ≡ replicate k 0 → Marks [] s
marks_none k {s} l e = record {
  long = ap length e ∙ length-replicate k 0 ∙ l;
  each = λ n.
      unmarked_in s n (ap (λ (l : List ℕ). get_or l n 0) e ∙ nothing k n) ∙ sym (mark_none [] n (named_nothing n));
}

-- an array with the marks of a table has none for a number that is no element
pub mark_far : {t : List Object} {s : List ℕ} (n : ℕ) → Marks t s → 4096 ≤ n → mark_of t n ≡ 0
unfolding mark_in
mark_far n a h = sym (a.each n) ∙ simp (le-ltb n 4096 h)

pub mark_near : {t : List Object} {s : List ℕ} (n : ℕ) → Marks t s → n < 4096 → get_or s n 0 ≡ mark_of t n
unfolding mark_in
mark_near {s = s} n a h = (simp (lt-ltb n 4096 h) at (a.each n))

-- with another mark for k
mark_set : (s : List ℕ) (k m n : ℕ) → k < 4096 → length s ≡ 4096 → mark_in (set s k m) n ≡ cond (eqb n k) m (mark_in s n)
unfolding mark_in
mark_set s k m n h l =
    split (eqb n k)
    (λ e. let q : n ≡ k = eqb-true n k e in rw (e, q, lt-ltb k 4096 h) (get_or-set_same s k m 0 (omega arith)))
    (λ e. let q = eqb-false n k e in rw e (ap (λ (v : ℕ). cond (ltb n 4096) v 0) (get_or-set_other s k n m 0 q)))

-- a table whose marks are those of another but for k's
pub marks_set : {t u : List Object} {s : List ℕ} (k m : ℕ) → k < 4096 → Marks t s → ((n : ℕ) → mark_of u n ≡ cond (eqb n k) m (mark_of t n)) → Marks u (set s k m)
marks_set {t} {u} {s} k m h a e = record {
  long = length-set s k m ∙ a.long;
  each = λ n.
      mark_set s k m n h a.long ∙ ap (λ (v : ℕ). cond (eqb n k) m v) (a.each n) ∙ sym (e n);
}

-- and one whose marks are all the same
pub marks_same : {t u : List Object} {s : List ℕ} → Marks t s → ((n : ℕ) → mark_of u n ≡ mark_of t n) → Marks u s
marks_same a e = record { long = a.long; each = λ n. a.each n ∙ sym (e n) }

-- A TABLE THAT GROWS

module _ (t : List Object) (o : Object) (n : ℕ) where
  -- an element that has its entry already
  named_before : free (named t n) ≡ false → named (t ++ (o ∷ [])) n ≡ named t n
  unfolding named
  named_before d = first_before (names n) blank t (o ∷ []) (named_some n t d)

  -- and one that has none
  named_behind : free (named t n) ≡ true → named (t ++ (o ∷ [])) n ≡ cond (names n o) o blank
  unfolding named first
  named_behind d = first_behind (names n) blank t (o ∷ []) (named_none n t d)

  -- an entry of no element or of another
  pub mark_past : names n o ≡ false → mark_of (t ++ (o ∷ [])) n ≡ mark_of t n
  mark_past e =
      split (free (named t n))
      (λ d. let b : named (t ++ (o ∷ [])) n ≡ blank = rw e at (named_behind d) in
      mark_none (t ++ (o ∷ [])) n (ap free b) ∙ sym (mark_none t n d))
      (λ d. mark_some (t ++ (o ∷ [])) n (ap free (named_before d) ∙ d)
      ∙ ap suc (place_before (names n) t (o ∷ []) (named_some n t d)) ∙ sym (mark_some t n d))

  -- the first entry of its element
  pub mark_new : names n o ≡ true → free (named t n) ≡ true → mark_of (t ++ (o ∷ [])) n ≡ length t + 1
  unfolding place
  mark_new e d =
      let b : named (t ++ (o ∷ [])) n ≡ o = rw e at (named_behind d) in
      let q : place (names n) (o ∷ []) ≡ 0 = rw e in
      let l = place_behind (names n) t (o ∷ []) (named_none n t d) in
      let m = mark_some (t ++ (o ∷ [])) n (ap free b ∙ (names_key e).used) in
      omega arith
