-- A table is judged entry by entry: what is noted of the entries that were passed, and what follows from an entry that may not stand.
use mathlib.Core.Path.{◌≡◌, refl, sym, ap, ◌∙◌}
use mathlib.Core.List.{List, [], ◌∷◌, ◌++◌}
use mathlib.Core.Bool.{Bool, true, false, cond, ◌&&◌}
use Prim.Native.Nat.{ℕ, ◌+◌, ◌<◌, ◌≤◌}
use native.Mathlib.Omega.{arith}
use native.Mathlib.Numerals.{add-one}
use lib.ListN.{length, get_or, set, take, drop, take-append-drop}
use lib.Seq.{take-suc, take_all}
use lib.Dec.{eqb}
use borrow.Author.Tests.{eqb-true, lt-leb}
use Rattle.runs.specs.Those.{Each}
use Rattle.runs.specs.Finding.{count}
use Rattle.runs.proofs.Cases.{split}
use Rattle.runs.proofs.Bools.{and_both, neither}
use Rattle.runs.proofs.Those.{each_at, each_append}
use Rattle.objects.specs.declared.Object.{Object}
use Rattle.objects.specs.Entries.{blank, free, names, named}
use Rattle.objects.specs.Table.{every, fit, rules, judged}
use Rattle.objects.proofs.Keys.{names_key, key_names, free_apart, names_apart, named_none, named_some}
use Rattle.objects.proofs.Well.{judged_well, well_judged}
use Rattle.objects_pmd.specs.Values.{good}
use Rattle.objects_apply.specs.Marks.{mark_of, Marks}
use Rattle.objects_apply.specs.Slots.{follows}
use Rattle.objects_apply.proofs.Good.{good_small}
use Rattle.objects_apply.proofs.Places.{count_append}
use Rattle.objects_apply.proofs.Marks.{marks_same, marks_set, mark_past, mark_new}

-- ONE ENTRY

module _ (t : List Object) (o : Object) where
  pub follows_free : free o ≡ true → true ≡ follows t o
  unfolding follows
  follows_free d = rw d

  -- a used one by what is found of it
  pub follows_used : {g n : Bool} → free o ≡ false → g ≡ good o → n ≡ free (named t o.element) → g && n ≡ follows t o
  unfolding follows
  follows_used d e f = rw (d, e, f)

  pub follows_both : free o ≡ false → follows t o ≡ true → (good o ≡ true) × (free (named t o.element) ≡ true)
  unfolding follows
  follows_both d e = and_both (good o) (free (named t o.element)) (rw d at e)

-- its marks, and those of the entries before it
module _ {t : List Object} {s : List ℕ} (o : Object) (m : Marks t s) where
  pub marks_free : free o ≡ true → Marks (t ++ (o ∷ [])) s
  marks_free d = marks_same m (λ n. mark_past t o n (free_apart n o d))

  pub marks_used : free o ≡ false → follows t o ≡ true → Marks (t ++ (o ∷ [])) (set s o.element (length t + 1))
  marks_used d f = marks_set o.element (length t + 1) (good_small o (follows_both t o d f).0) m (λ n. one n)
    where
      own : names o.element o ≡ true
      own = key_names (record { used = d; element = refl })

      one : (n : ℕ) → mark_of (t ++ (o ∷ [])) n ≡ cond (eqb n o.element) (length t + 1) (mark_of t n)
      one n =
          split (eqb n o.element)
          (λ q. let k : n ≡ o.element = eqb-true n o.element q in rw (q, k) (mark_new t o o.element own (follows_both t o d f).1))
          (λ q. rw q (mark_past t o n (names_apart o.element n o own q)))

-- THE ENTRIES THAT WERE PASSED

pub record Passed (t : List Object) (i : ℕ) : Type 0 where
  pub within : i ≤ length t
  pub sound : Each (λ (e : Object). fit good e ≡ true) (take i t)
  pub single : (n : ℕ) → count (names n) (take i t) ≤ 1

module _ {t : List Object} {i : ℕ} (p : Passed t i) (h : i < length t) (o : Object) (is : o ≡ get_or t i blank) where
  abbrev before : List Object
  before = take i t

  pub one_more : take (i + 1) t ≡ before ++ (o ∷ [])
  one_more = rw (add-one i) (take-suc t i blank h ∙ ap (λ (e : Object). before ++ (e ∷ [])) (sym is))

  counted : (n : ℕ) → count (names n) (take (i + 1) t) ≡ count (names n) before + cond (names n o) 1 0
  unfolding count
  counted n = rw one_more (count_append (names n) before (o ∷ []))

  module _ (f : follows before o ≡ true) where
    now_sound : fit good o ≡ true
    unfolding fit
    now_sound = split (free o) (λ d. rw d) (λ d. rw d (follows_both before o d f).0)

    now_single : (k : ℕ) → count (names k) (take (i + 1) t) ≤ 1
    now_single k =
        let c = counted k in
        let w = p.single k in
        split (names k o)
        (λ e. let u = names_key e in
        let z = (follows_both before o u.used f).1 in
        let y : count (names k) before ≡ 0 = named_none k before (rw u.element at z) in
        let b = rw e at c in omega arith)
        (λ e. let b = rw e at c in omega arith)

    pub passes : Passed t (i + 1)
    passes = record {
      within = omega arith;
      sound = rw one_more (each_append (λ (e : Object). fit good e ≡ true) before (o ∷ []) p.sound (now_sound, tt));
      single = now_single;
    }

  -- an entry that may not stand: a table that is taken has none
  stops : follows before o ≡ false → judged good t ≡ true → ⊥
  unfolding follows fit
  stops n j =
      let w = judged_well good t j in
      let a = neither (free o) (good o && free (named before o.element)) n in
      let f : fit good o ≡ true = rw (sym is) at (each_at (λ (e : Object). fit good e ≡ true) t i blank w.sound h) in
      let g : good o ≡ true = rw a.0 at f in
      let z : free (named before o.element) ≡ false = rw g at a.1 in
      let own : names o.element o ≡ true = key_names (record { used = a.0; element = refl }) in
      let c = rw own at (counted o.element) in
      let l = rw (take-append-drop (i + 1) t) at (count_append (names o.element) (take (i + 1) t) (drop (i + 1) t)) in
      let b = w.single o.element in
      let y = named_some o.element before z in omega arith

  pub refuses : follows before o ≡ false → judged good t ≡ false
  refuses n = split (judged good t) (λ j. absurd (stops n j)) (λ j. j)

pub starts : (t : List Object) → Passed t 0
unfolding count
starts t = record { within = omega arith; sound = tt; single = λ n. omega arith }

pub ends : {t : List Object} {i : ℕ} → Passed t i → length t ≤ i → length t ≤ 128 → judged good t ≡ true
ends {t} {i} p h l =
    let e : take i t ≡ t = take_all i t h in
    well_judged good t (record { short = l; sound = rw e at p.sound; single = λ n. rw e at (p.single n) })

-- a table that is too long is not taken
pub too_long : (t : List Object) → 128 < length t → judged good t ≡ false
unfolding judged rules every
too_long t h = rw (lt-leb (length t) 128 h)
