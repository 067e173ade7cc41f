-- The loop over an XYZ's records: what is left of them comes, on the table as it is, to what all of them come to on the table as it was.
use mathlib.Core.Path.{◌≡◌, refl, sym, ap, ◌∙◌}
use mathlib.Core.List.{List, [], ◌∷◌}
use mathlib.Core.Bool.{true, false, cond}
use Prim.Native.Nat.{ℕ, suc, ◌+◌, ◌≤◌, ◌<◌}
use native.Mathlib.Omega.{arith}
use native.Mathlib.Numerals.{add-one}
use lib.ListN.{length, get_or, drop, drop_of_length-le}
use lib.Seq.{drop-cons}
use lib.Dec.{eqb}
use borrow.Author.Tests.{eqb-true, eq-eqb, ne_eqb}
use Rattle.std.specs.Prelude.{Ok, Err}
use Rattle.runs.specs.Finding.{change, place}
use Rattle.runs.proofs.Cases.{split, absurd_eq}
use Rattle.refusals.specs.declared.Refusal.TheVariants as R
use Rattle.refusals.specs.Outcomes.{Answer}
use Rattle.refusals.specs.Refusals.{refused_at}
use Rattle.objects.specs.declared.Object.{Object}
use Rattle.objects.specs.declared.Xyz.{Xyz}
use Rattle.objects.specs.Entries.{moved, free, names, named}
use Rattle.objects.specs.Calls.{xyz, movable, verdict, move_all, changed}
use Rattle.objects.proofs.Keys.{key_same}
use Rattle.objects.proofs.Edits.{with, edit_named}
use Rattle.objects.proofs.Folds.{moved_keeps}
use Rattle.refusals.specs.declared.Refused.{Refused}
use Rattle.objects_apply.specs.Marks.{mark_of, Marks}
use Rattle.objects_apply.specs.Slots.{move_told}
use Rattle.objects_apply.specs.Worked.{Worked}
use Rattle.objects_apply.proofs.Places.{place_unseen}
use Rattle.objects_apply.proofs.Marks.{mark_none, mark_some, marks_same}

-- entries that are used alike and dynamic alike are movable alike
movable_same : (has new : ℕ → Object) → ((n : ℕ) → free (new n) ≡ free (has n)) → ((n : ℕ) → (new n).dynamic ≡ (has n).dynamic)
    → (k : ℕ) (ms : List Xyz) → movable new k ms ≡ movable has k ms
unfolding movable
movable_same has new f d k [] = refl
movable_same has new f d k (m ∷ ms) =
    rw (f m.element, d m.element)
    (ap (λ (a : Answer). cond (free (has m.element)) (Err (refused_at R.Unknown k)) (cond (eqb (has m.element).dynamic 0) (Err (refused_at R.Static k)) a))
    (movable_same has new f d (suc k) ms))

-- one move
module _ (m : Xyz) (t : List Object) (used : free (named t m.element) ≡ false) where
  abbrev pub now : List Object
  now = change (names m.element) (moved m) t

  now_named : named now ≡ with (named t) m.element (moved m (named t m.element))
  now_named = edit_named m.element (moved m) (moved_keeps m m.element) t used

  now_free : (n : ℕ) → free (named now n) ≡ free (named t n)
  now_free n =
      rw now_named (split (eqb n m.element) (λ e. let q : n ≡ m.element = eqb-true n m.element e in rw (e, q)) (λ e. rw e))

  now_dynamic : (n : ℕ) → (named now n).dynamic ≡ (named t n).dynamic
  now_dynamic n =
      rw now_named (split (eqb n m.element) (λ e. let q : n ≡ m.element = eqb-true n m.element e in rw (e, q)) (λ e. rw e))

  pub now_place : place free now ≡ place free t
  now_place = place_unseen (names m.element) (moved m) free (λ x p. refl) t

  now_mark : (n : ℕ) → mark_of now n ≡ mark_of t n
  now_mark n =
      split (free (named t n))
      (λ e. mark_none now n (now_free n ∙ e) ∙ sym (mark_none t n e))
      (λ e. mark_some now n (now_free n ∙ e)
      ∙ ap suc (place_unseen (names m.element) (moved m) (names n) (λ x p. key_same n (moved m x) x refl) t) ∙ sym (mark_some t n e))

  pub now_marks : {s : List ℕ} → Marks t s → Marks now s
  now_marks a = marks_same a now_mark

-- THE LOOP

pub record Moving (ms : List Xyz) (t₀ t : List Object) (k : ℕ) : Type 0 where
  pub within : k ≤ length ms
  pub verdict : movable (named t) k (drop k ms) ≡ movable (named t₀) 0 ms
  pub left : move_all (drop k ms) t ≡ move_all ms t₀

pub starts : (ms : List Xyz) (t : List Object) → Moving ms t t 0
starts ms t = record { within = omega arith; verdict = refl; left = refl }

module _ {ms : List Xyz} {t₀ : List Object} {t : List Object} {k : ℕ} (p : Moving ms t₀ t k) where
  pub ends : length ms ≤ k → {r : Answer} → r ≡ Ok (length ms) → Worked (xyz ms) t₀ r t
  unfolding verdict changed movable move_all
  ends h {r} e =
      let z : k ≡ length ms = omega (arith, p.within) in
      let d : drop k ms ≡ [] = drop_of_length-le ms h in
      let v : Ok k ≡ movable (named t₀) 0 ms = rw d at p.verdict in
      let l : t ≡ move_all ms t₀ = rw d at p.left in
      record { told = e ∙ ap Ok (sym z) ∙ v; table = rw e l }

  module _ (h : k < length ms) (m : Xyz) (is : m ≡ get_or ms k m) where
    next : drop k ms ≡ m ∷ drop (k + 1) ms
    next = drop-cons ms k m h ∙ ap (λ (x : Xyz). x ∷ drop (suc k) ms) (sym is) ∙ rw (add-one k)

    -- a record that is refused
    pub stops : {e : Refused} {r : Answer} {after : List Object} → Err e ≡ move_told t m.element k → r ≡ Err e → Worked (xyz ms) t₀ r after
    unfolding verdict movable move_told
    stops {e} {r} {after} told is =
        split (free (named t m.element))
        (λ f. let q : Err e ≡ Err (refused_at R.Unknown k) = rw f at told in
        let s : e ≡ refused_at R.Unknown k = cc in
        let v : Err (refused_at R.Unknown k) ≡ movable (named t₀) 0 ms = rw (next, f) at p.verdict in refused (ap Err s ∙ v))
        (λ f. split (eqb (named t m.element).dynamic 0)
        (λ d. let q : Err e ≡ Err (refused_at R.Static k) = rw (f, d) at told in
        let s : e ≡ refused_at R.Static k = cc in
        let v : Err (refused_at R.Static k) ≡ movable (named t₀) 0 ms = rw (next, f, d) at p.verdict in refused (ap Err s ∙ v))
        (λ d. let q : Err e ≡ Ok tt = rw (f, d) at told in absurd_eq (cc)))
      where
        refused : Err e ≡ movable (named t₀) 0 ms → Worked (xyz ms) t₀ r after
        refused v = record { told = is ∙ v; table = rw is }

    -- and one that is not
    pub moves : Ok tt ≡ move_told t m.element k → {u : List Object} → u ≡ change (names m.element) (moved m) t → Moving ms t₀ u (k + 1)
    unfolding movable move_all move_told
    moves told {u} g =
        split (free (named t m.element))
        (λ f. let q : Ok tt ≡ Err (refused_at R.Unknown k) = rw f at told in absurd_eq (cc))
        (λ f. split (eqb (named t m.element).dynamic 0)
        (λ d. let q : Ok tt ≡ Err (refused_at R.Static k) = rw (f, d) at told in absurd_eq (cc))
        (λ d.
        let v : movable (named t) (suc k) (drop (k + 1) ms) ≡ movable (named t₀) 0 ms = rw (next, f, d) at p.verdict in
        let l : move_all (drop (k + 1) ms) (now m t f) ≡ move_all ms t₀ = rw next at p.left in
        rw g (record {
          within = omega arith;
          verdict =
              ap (λ (i : ℕ). movable (named (now m t f)) i (drop (k + 1) ms)) (add-one k)
              ∙ movable_same (named t) (named (now m t f)) (now_free m t f) (now_dynamic m t f) (suc k) (drop (k + 1) ms)
              ∙ v;
          left = l;
        })))

-- what is told of a record, by what is found
module _ (t : List Object) (n k : ℕ) where
  pub told_unknown : free (named t n) ≡ true → {e : Refused} → e ≡ refused_at R.Unknown k → Err e ≡ move_told t n k
  unfolding move_told
  told_unknown f e = rw f (ap Err e)

  module _ (used : free (named t n) ≡ false) {o : Object} (own : named t n ≡ o) where
    pub told_static : o.dynamic ≡ 0 → {e : Refused} → e ≡ refused_at R.Static k → Err e ≡ move_told t n k
    unfolding move_told
    told_static d e = rw (used, own, eq-eqb o.dynamic 0 d) (ap Err e)

    pub told_moved : (o.dynamic ≡ 0 → ⊥) → Ok tt ≡ move_told t n k
    unfolding move_told
    told_moved d = rw (used, own, ne_eqb o.dynamic 0 d)
