-- The call that a PMD value is, is sound, and the elements of an accepted AOD are below 4096.
use mathlib.Core.Path.{◌≡◌, refl}
use mathlib.Core.List.{List, [], ◌∷◌}
use mathlib.Core.Bool.{true, false, not}
use Prim.Native.Nat.{ℕ, ◌+◌, ◌/◌, ◌^◌, ◌≤◌, ◌<◌}
use native.Mathlib.Nat.{add-zero}
use native.Mathlib.Omega.{arith}
use lib.ListN.{length, take, drop}
use lib.Dec.{eqb, ltb, lit<}
use borrow.Author.Tests.{not-true, ltb-true}
use Rattle.std.specs.Prelude.{Some}
use Rattle.runs.specs.Those.{Each}
use Rattle.runs.proofs.Cases.{split, absurd_eq}
use Rattle.runs.proofs.Bools.{and_both, both_and}
use Rattle.runs.proofs.Those.{each_map}
use Rattle.refusals.specs.Outcomes.{Outcome, fine, refused}
use Rattle.pmd.specs.declared.Kind.TheVariants as K
use Rattle.pmd.specs.declared.Field.TheVariants as F
use Rattle.pmd.specs.Table.{Part, record_of}
use Rattle.pmd.specs.Records.{takes}
use Rattle.pmd.specs.Reading.{read_as}
use Rattle.objects.specs.declared.Aod.{Aod}
use Rattle.objects.specs.declared.Xyz.{Xyz}
use Rattle.objects.specs.declared.Object.{Object}
use Rattle.objects.specs.Entries.{made, moved, fields_of}
use Rattle.objects.specs.Calls.{aod, xyz, Sound}
use Rattle.objects_pmd.specs.Values.{taken, good, aod_at, xyz_at, aods_of, xyzs_of, aod_call, xyz_call, call_of}
use Rattle.runs.proofs.Cells.{window, take_window}
use Rattle.objects_pmd.proofs.Records.{aod_fields, xyz_fields, cells_each, aod_wrote, xyz_wrote}
use Rattle.objects_pmd.proofs.Refusals.{Early, read_early}

window_taken : (ps : List Part) (w : ℕ) (s : List ℕ) (at : ℕ) → at + w ≤ length s → taken ps (take w (drop at s)) ≡ true
    → taken ps (window w s at 0) ≡ true
window_taken ps w s at h k =
    let e = take_window w s at 0 (omega arith) in
    let z : at + 0 ≡ at = add-zero at in
    rw e at (rw (← z) at k)

-- the numbers of a record that is taken, each by itself
abbrev Singly : List Part → List ℕ → Type 0
Singly [] [] = Unit
Singly [] (v ∷ vs) = ⊥
Singly (p ∷ ps) [] = ⊥
Singly (p ∷ ps) (v ∷ vs) = (takes (p ∷ ps) v ≡ true) × Singly ps vs

taken_singly : (ps : List Part) (vs : List ℕ) → taken ps vs ≡ true → Singly ps vs
unfolding taken
taken_singly [] [] h = search
taken_singly [] (v ∷ vs) h = absurd_eq (cc)
taken_singly (p ∷ ps) [] h = absurd_eq (cc)
taken_singly (p ∷ ps) (v ∷ vs) h = let both = and_both (takes (p ∷ ps) v) (taken ps vs) h in (both.0, taken_singly ps vs both.1)

singly_taken : (ps : List Part) (vs : List ℕ) → Singly ps vs → taken ps vs ≡ true
unfolding taken
singly_taken [] [] h = refl
singly_taken [] (v ∷ vs) h = absurd h
singly_taken (p ∷ ps) [] h = absurd h
singly_taken (p ∷ ps) (v ∷ vs) h = both_and (takes (p ∷ ps) v) (taken ps vs) h.0 (singly_taken ps vs h.1)

-- AN AOD

-- its records make good entries, of elements that are not 0 and have no more than 12 bits
abbrev Proper : Aod → Type 0
Proper r = (eqb r.element 0 ≡ false) × (good (made r) ≡ true) × (r.element < 4096)

module _ (s : List ℕ) (at : ℕ) (h : at + 11 ≤ length s) (k : taken (record_of K.Aod) (take 11 (drop at s)) ≡ true) where
  aod_good : good (made (aod_at s at)) ≡ true
  unfolding good window
  aod_good = window_taken (record_of K.Aod) 11 s at h k

  aod_element : (ltb (aod_at s at).element (2 ^ 12) ≡ true) × (not (eqb (aod_at s at).element 0) ≡ true)
  unfolding window takes
  aod_element =
      let t = (taken_singly (record_of K.Aod) (window 11 s at 0) (window_taken (record_of K.Aod) 11 s at h k)).0 in
      and_both (ltb (aod_at s at).element (2 ^ 12)) (not (eqb (aod_at s at).element 0)) t

  aod_proper : Proper (aod_at s at)
  aod_proper =
      let e = aod_element in
      let n = (aod_at s at).element in
      (not-true (eqb n 0) e.1, aod_good, ltb-true n (2 ^ 12) e.0)

aods_proper : (s xs : List ℕ) → read_as (Some K.Aod) s ≡ fine xs → Each Proper (aods_of xs)
aods_proper s xs e =
    let w = aod_wrote s xs e in
    cells_each F.Element aod_fields Proper aod_at xs (λ at h k. aod_proper xs at h k) (length xs / 11) 0 w.first w.run (omega arith) w.same

pub aod_small : (s xs : List ℕ) → read_as (Some K.Aod) s ≡ fine xs → Each (λ (r : Aod). r.element < 4096) (aods_of xs)
aod_small s xs e = each_map (λ r f. f.2) (aods_of xs) (aods_proper s xs e)

pub aod_sound : (s xs : List ℕ) → read_as (Some K.Aod) s ≡ fine xs → Sound good (aod (aods_of xs))
aod_sound s xs e = each_map (λ r f. (f.0, f.1)) (aods_of xs) (aods_proper s xs e)

-- AN XYZ

-- its records keep an entry good
abbrev Keeps : Xyz → Type 0
Keeps m = (e : Object) → good e ≡ true → good (moved m e) ≡ true

xyz_keeps : (s : List ℕ) (at : ℕ) → at + 4 ≤ length s → taken (record_of K.Xyz) (take 4 (drop at s)) ≡ true → Keeps (xyz_at s at)
unfolding good window takes
xyz_keeps s at h k e g =
    let a = taken_singly (record_of K.Aod) (fields_of e) g in
    let b = taken_singly (record_of K.Xyz) (window 4 s at 0) (window_taken (record_of K.Xyz) 4 s at h k) in
    singly_taken (record_of K.Aod) (fields_of (moved (xyz_at s at) e))
    (a.0, (a.1.0, (a.1.1.0, (b.1.0, (b.1.1.0, (b.1.1.1.0, a.1.1.1.1.1.1))))))

pub xyz_sound : (s xs : List ℕ) → read_as (Some K.Xyz) s ≡ fine xs → Sound good (xyz (xyzs_of xs))
xyz_sound s xs e =
    let w = xyz_wrote s xs e in
    cells_each F.Element xyz_fields Keeps xyz_at (drop 1 xs) (λ at h k. xyz_keeps (drop 1 xs) at h k) (length (drop 1 xs) / 4) 0 w.first w.run
    (omega arith) w.same

-- ANY VALUE

aod_call_lem : (o : Outcome (List ℕ)) → ((xs : List ℕ) → o ≡ fine xs → Sound good (aod (aods_of xs))) → Early o → Sound good (aod_call o)
unfolding aod_call
aod_call_lem (fine xs) h l = h xs refl
aod_call_lem (refused why place) h l = l

xyz_call_lem : (o : Outcome (List ℕ)) → ((xs : List ℕ) → o ≡ fine xs → Sound good (xyz (xyzs_of xs))) → Early o → Sound good (xyz_call o)
unfolding xyz_call
xyz_call_lem (fine xs) h l = h xs refl
xyz_call_lem (refused why place) h l = l

-- whatever the kind and the bytes
pub value_sound : (kind : ℕ) (s : List ℕ) → Sound good (call_of kind s)
unfolding call_of
value_sound kind s =
    split (eqb kind 3)
    (λ e. rw e (aod_call_lem (read_as (Some K.Aod) s) (aod_sound s) (read_early K.Aod s)))
    (λ e. split (eqb kind 4)
    (λ d. rw (e, d) (xyz_call_lem (read_as (Some K.Xyz) s) (xyz_sound s) (read_early K.Xyz s)))
    (λ d. rw (e, d) (lit< tt)))
