-- A value that was read into an array: its numbers stand at the start of it, or, where the array has room for any, its refusal is the call's.
use mathlib.Core.Path.{◌≡◌, refl, sym, ap, ◌∙◌}
use mathlib.Core.List.{List, [], ◌∷◌}
use Prim.Native.Nat.{ℕ, zero, suc, ◌-◌, ◌≤◌}
use native.Mathlib.Nat.{zero-add, sub-zero}
use native.Mathlib.Omega.{arith}
use lib.ListN.{length, take, drop}
use lib.Dec.{eqb}
use borrow.Author.Tests.{eqb-true}
use Rattle.std.specs.Prelude.{Option, Some, None, Ok, Err}
use Rattle.runs.specs.Over.{over}
use Rattle.runs.proofs.Cases.{split, absurd_eq}
use Rattle.runs.proofs.Over.{length_over, take_over}
use Rattle.refusals.specs.Outcomes.{Outcome, fine, refused, and_then, Answer}
use Rattle.refusals.specs.Lent.{within, lent, Delivered}
use Rattle.refusals.specs.declared.Refusal.{Refusal}
use Rattle.refusals.specs.declared.Refusal.TheVariants as R
use Rattle.refusals.specs.declared.Refused.{Refused}
use Rattle.refusals.proofs.Lent.{within_fine, fine_within, done_was, refused_was}
use Rattle.pmd.specs.declared.Kind.{Kind}
use Rattle.pmd.specs.declared.Kind.TheVariants as K
use Rattle.pmd.specs.Reading.{read_as}
use Rattle.pmd.specs.Table.{kind_of}
use Rattle.objects.specs.declared.Object.{Object}
use Rattle.objects.specs.Calls.{Call, aod, xyz, unread, verdict, Sound}
use Rattle.objects_pmd.specs.Values.{good, aods_of, aod_call, xyz_call, call_of}
use Rattle.objects_apply.specs.Worked.{Worked, moves_of, IsWithin}

take_nothing : (m : ℕ) → take {A = ℕ} m [] ≡ []
take_nothing zero = refl
take_nothing (suc m) = refl

take_behind : (m : ℕ) (l : List ℕ) → 1 ≤ m → take (m - 1) (drop 1 l) ≡ drop 1 (take m l)
take_behind zero l h = absurd (omega arith)
take_behind (suc m) [] h = take_nothing (suc m - 1)
take_behind (suc m) (x ∷ l) h = let e : suc m - 1 ≡ m = omega arith in rw e

module _ (o : Outcome (List ℕ)) {before after : List ℕ} {r : Answer} (d : Delivered (within (length before) o) before r after) where
  -- so many numbers
  pub record Got (m : ℕ) : Type 0 where
    pub numbers : List ℕ
    pub is : o ≡ fine numbers
    pub many : m ≡ length numbers
    pub fits : m ≤ length after
    pub front : take m after ≡ numbers

  pub got : {m : ℕ} → r ≡ Ok m → Got m
  unfolding lent
  got {m} e =
      let x = done_was length d.told e in
      let w = within_fine (length before) o x.0 x.1 in
      let a : after ≡ over before 0 x.0 = d.run ∙ ap (lent before) x.1 in
      let l = length_over before 0 x.0 (omega (arith, w.1)) in
      record {
        numbers = x.0;
        is = w.0;
        many = sym x.2;
        fits = rw a (omega (arith, x.2, w.1));
        front =
            ap (λ (k : ℕ). take k after) (sym x.2) ∙ ap (take (length x.0)) a
            ∙ ap (λ (k : ℕ). take k (over before 0 x.0)) (sym (zero-add (length x.0))) ∙ take_over before 0 x.0 (omega arith);
      }

  -- as a part of the array, and as one that leaves its first number out
  module _ {m : ℕ} (g : Got m) where
    pub all_read : take (m - 0) after ≡ g.numbers
    all_read = rw (sub-zero m) g.front

    pub rest_read : 1 ≤ m → take (m - 1) (drop 1 after) ≡ drop 1 g.numbers
    rest_read h = take_behind m after h ∙ ap (drop 1) g.front

-- a refusal of an outcome that has room is its own
own_refusal : (room : ℕ) (o : Outcome (List ℕ)) {why : Refusal} {place : ℕ} → IsWithin room o → within room o ≡ refused why place → o ≡ refused why place
unfolding and_then
own_refusal room (fine xs) f e = let z = sym (fine_within room xs (f xs refl)) ∙ e in absurd_eq (cc)
own_refusal room (refused w p) f e = e

pub refusal_was : (o : Outcome (List ℕ)) {before after : List ℕ} {r : Answer} (d : Delivered (within (length before) o) before r after)
    {e : Refused} → IsWithin (length before) o → r ≡ Err e → o ≡ refused e.why e.place
refusal_was o {before} d f e = own_refusal (length before) o f (refused_was length d.told e)

-- and the call's, on the table as it was
module _ {t : List Object} {r : Answer} {e : Refused} (is : r ≡ Err e) where
  pub worked_unread : {c : Call} → c ≡ unread e.why e.place → Worked c t r t
  unfolding verdict
  worked_unread q = rw q (record { told = is; table = rw is })

  pub aod_unread : {o : Outcome (List ℕ)} → o ≡ refused e.why e.place → Worked (aod_call o) t r t
  unfolding aod_call
  aod_unread q = worked_unread (ap aod_call q)

  pub xyz_unread : {o : Outcome (List ℕ)} → o ≡ refused e.why e.place → Worked (xyz_call o) t r t
  unfolding xyz_call
  xyz_unread q = worked_unread (ap xyz_call q)

-- a value that is fine is the call of its records
module _ {t after : List Object} {r : Answer} {o : Outcome (List ℕ)} {xs ys : List ℕ} (e : o ≡ fine xs) where
  pub aod_read : ys ≡ xs → Worked (aod (aods_of ys)) t r after → Worked (aod_call o) t r after
  unfolding aod_call
  aod_read q w = rw e (rw q at w)

  pub xyz_read : ys ≡ drop 1 xs → Worked (xyz (moves_of ys)) t r after → Worked (xyz_call o) t r after
  unfolding xyz_call
  xyz_read q w = rw e (rw q at w)

-- and its records are sound
pub sound_part : {xs ys : List ℕ} → Sound good (aod (aods_of xs)) → ys ≡ xs → Sound good (aod (aods_of ys))
sound_part s e = rw e s

-- BY THE KIND

abbrev pub by_kind : Option Kind → List ℕ → Call
by_kind (Some K.Apd) s = unread R.Kind 0
by_kind (Some K.Apn) s = unread R.Kind 0
by_kind (Some K.Aod) s = aod_call (read_as (Some K.Aod) s)
by_kind (Some K.Xyz) s = xyz_call (read_as (Some K.Xyz) s)
by_kind (Some K.Aen) s = unread R.Kind 0
by_kind (Some K.Esn) s = unread R.Kind 0
by_kind (Some K.Etd) s = unread R.Kind 0
by_kind None s = unread R.Kind 0

pub call_by : (n : ℕ) (s : List ℕ) → call_of n s ≡ by_kind (kind_of n) s
unfolding call_of
call_by n s =
    split (eqb n 3) (λ e. let q : n ≡ 3 = eqb-true n 3 e in rw q)
    (λ e3. split (eqb n 4) (λ e. let q : n ≡ 4 = eqb-true n 4 e in rw q)
    (λ e4. split (eqb n 1) (λ e. let q : n ≡ 1 = eqb-true n 1 e in rw q)
    (λ e1. split (eqb n 2) (λ e. let q : n ≡ 2 = eqb-true n 2 e in rw q)
    (λ e2. split (eqb n 5) (λ e. let q : n ≡ 5 = eqb-true n 5 e in rw q)
    (λ e5. split (eqb n 6) (λ e. let q : n ≡ 6 = eqb-true n 6 e in rw q)
    (λ e6. split (eqb n 7) (λ e. let q : n ≡ 7 = eqb-true n 7 e in rw q)
    (λ e7. rw (e1, e2, e3, e4, e5, e6, e7))))))))

pub worked_by : (n : ℕ) (s : List ℕ) {o : Option Kind} {t after : List Object} {r : Answer} → kind_of n ≡ o → Worked (by_kind o s) t r after
    → Worked (call_of n s) t r after
worked_by n s k w = rw (call_by n s, k) w

-- any kind but these two
pub by_other : (k : Kind) (s : List ℕ) → (k ≡ K.Aod → ⊥) → (k ≡ K.Xyz → ⊥) → by_kind (Some k) s ≡ unread R.Kind 0
by_other K.Apd s a x = refl
by_other K.Apn s a x = refl
by_other K.Aod s a x = absurd (a refl)
by_other K.Xyz s a x = absurd (x refl)
by_other K.Aen s a x = refl
by_other K.Esn s a x = refl
by_other K.Etd s a x = refl
