-- The numbers of an accepted AOD or XYZ are whole records, each number taken by its field: how many they are, and how many at most.
use mathlib.Core.Path.{◌≡◌, refl, sym, ap, ◌∙◌}
use mathlib.Core.List.{List, [], ◌∷◌, ◌++◌, map, append-nil}
use mathlib.Core.Bool.{true}
use mathlib.Core.Logic.{⊎_elim}
use Prim.Native.Nat.{ℕ, zero, suc, ◌+◌, ◌-◌, ◌*◌, ◌≤◌, ◌<◌}
use native.Mathlib.Nat.{mul-zero, mul-suc}
use native.Mathlib.Omega.{arith}
use lib.Dec.{ltb}
use lib.ListN.{length, take, drop, replicate, length-append, length-drop}
use lib.Seq.{drop-drop}
use borrow.Author.Tests.{ltb-false}
use Rattle.std.specs.Prelude.{Some}
use Rattle.runs.specs.Those.{Each}
use Rattle.runs.specs.Digits.{digits}
use Rattle.runs.specs.Cells.{cells_from}
use Rattle.runs.proofs.Cases.{split, absurd_eq, lt_or_ge}
use Rattle.runs.proofs.Bools.{both_and}
use Rattle.runs.proofs.Digits.{length_digits}
use Rattle.refusals.specs.Outcomes.{fine, refused}
use Rattle.refusals.specs.declared.Refusal.TheVariants as R
use Rattle.bits.specs.Bits.{bits}
use Rattle.bits.proofs.Bits.{bits_below, length_bits}
use Rattle.pmd.specs.declared.Kind.{Kind}
use Rattle.pmd.specs.declared.Kind.TheVariants as K
use Rattle.pmd.specs.declared.Field.{Field}
use Rattle.pmd.specs.declared.Field.TheVariants as F
use Rattle.pmd.specs.Table.{width_of, Part, once, record_of}
use Rattle.pmd.specs.Records.{width, takes, after, closed, opened, first_record}
use Rattle.pmd.specs.Reading.{read_as}
use Rattle.pmd.specs.Writing.{write_from}
use Rattle.pmd.proofs.Trip.{write_parted, write_end, read_write}
use Rattle.objects_pmd.specs.Values.{taken}

-- how many bits these fields have
unfoldable pub widths : List Field → ℕ
widths [] = 0
widths (f ∷ fs) = width_of f + widths fs

-- A list that is written where these fields are left, and then other parts, begins with numbers that the fields take.
pub record Ran (again : List Part) (fs : List Field) (left : List Part) (xs p : List ℕ) : Type 0 where
  pub enough : length fs ≤ length xs
  pub fitting : taken (map once fs) (take (length fs) xs) ≡ true
  pub next : ℕ
  pub rest : List ℕ
  pub from : write_from again left (drop (length fs) xs) next ≡ fine rest
  pub paid : length p ≡ widths fs + length rest

pub ran : (again : List Part) (fs : List Field) (left : List Part) (xs : List ℕ) (i : ℕ) (p : List ℕ)
    → write_from again (map once fs ++ left) xs i ≡ fine p → Ran again fs left xs p
unfolding taken takes width after closed opened widths
ran again [] left xs i p e = record { enough = omega arith; fitting = refl; next = i; rest = p; from = e; paid = omega arith }
ran again (f ∷ fs) left [] i p e = let c = (write_end again (once f ∷ (map once fs ++ left)) i p e).0 in absurd_eq (cc)
ran again (f ∷ fs) left (v ∷ vs) i p e =
    let s = write_parted again (once f ∷ (map once fs ++ left)) v vs i p e in
    let r = ran again fs left vs (i + 1) s.rest s.from in
    record {
      enough = omega (arith, r.enough);
      fitting = both_and (takes (once f ∷ map once fs) v) (taken (map once fs) (take (length fs) vs)) s.taken r.fitting;
      next = r.next;
      rest = r.rest;
      from = r.from;
      paid =
          omega (
            arith,
            r.paid,
            ap length s.whole,
            length-append (digits 2 (width_of f) v) s.rest,
            length_digits 2 (width_of f) v,
          );
    }

-- RECORDS OF FIELDS

module _ (f : Field) (fs : List Field) where
  abbrev again : List Part
  again = map once (f ∷ fs)

  -- a record may begin where one ended
  opens : (xs : List ℕ) (i : ℕ) (p : List ℕ) → 0 < length xs → write_from again [] xs i ≡ fine p → write_from again again xs i ≡ fine p
  unfolding write_from opened
  opens [] i p h e = absurd (omega arith)
  opens (x ∷ xs) i p h e = e

  pub closes : (xs : List ℕ) (i : ℕ) (p : List ℕ) → write_from again again xs i ≡ fine p → write_from again [] xs i ≡ fine p
  unfolding write_from opened closed
  closes [] i p e = let c = (write_end again again i p e).0 in absurd_eq (cc)
  closes (x ∷ xs) i p e = e

  ran_one : (xs : List ℕ) (i : ℕ) (p : List ℕ) → 0 < length xs → write_from again [] xs i ≡ fine p → Ran again (f ∷ fs) [] xs p
  ran_one xs i p h e = ran again (f ∷ fs) [] xs i p (ap (λ (left : List Part). write_from again left xs i) (append-nil again) ∙ opens xs i p h e)

  -- so many records
  pub record Whole (xs p : List ℕ) : Type 0 where
    pub k : ℕ
    pub numbers : length xs ≡ length (f ∷ fs) * k
    pub bits : length p ≡ widths (f ∷ fs) * k

  none : (xs : List ℕ) (i : ℕ) (p : List ℕ) → length xs ≤ 0 → write_from again [] xs i ≡ fine p → Whole xs p
  none [] i p h e = record {
    k = 0;
    numbers = sym (mul-zero (length (f ∷ fs)));
    bits = ap length (sym (write_end again [] i p e).1) ∙ sym (mul-zero (widths (f ∷ fs)));
  }
  none (x ∷ xs) i p h e = absurd (omega arith)

  one_more : (xs p : List ℕ) (r : Ran again (f ∷ fs) [] xs p) → Whole (drop (length (f ∷ fs)) xs) r.rest → Whole xs p
  one_more xs p r w = record {
    k = suc w.k;
    numbers = omega (arith, length-drop (length (f ∷ fs)) xs, r.enough, w.numbers, mul-suc (length (f ∷ fs)) w.k);
    bits = omega (arith, r.paid, w.bits, mul-suc (widths (f ∷ fs)) w.k);
  }

  wholes : (n : ℕ) (xs : List ℕ) (i : ℕ) (p : List ℕ) → length xs ≤ n → write_from again [] xs i ≡ fine p → Whole xs p
  wholes zero xs i p h e = none xs i p h e
  wholes (suc n) xs i p h e =
      ⊎_elim
      (λ some.
      let r = ran_one xs i p some e in
      let l = length-drop (length (f ∷ fs)) xs in
      one_more xs p r (wholes n (drop (length (f ∷ fs)) xs) r.next r.rest (omega arith) r.from))
      (λ empty. none xs i p empty e) (lt_or_ge 0 (length xs))

  pub whole : (xs : List ℕ) (i : ℕ) (p : List ℕ) → write_from again [] xs i ≡ fine p → Whole xs p
  whole xs i p e = wholes (length xs) xs i p (omega arith) e

  -- and each cell of numbers is a record that its fields take
  module _ {A : Type 0} (P : A → Type 0) (read : List ℕ → ℕ → A) (s : List ℕ)
      (each : (at : ℕ) → at + length (f ∷ fs) ≤ length s → taken again (take (length (f ∷ fs)) (drop at s)) ≡ true → P (read s at)) where
    pub cells_each : (k at i : ℕ) (p : List ℕ) → at + length (f ∷ fs) * k ≤ length s → write_from again [] (drop at s) i ≡ fine p
        → Each P (cells_from read (length (f ∷ fs)) k s at)
    unfolding cells_from
    cells_each zero at i p h e = search
    cells_each (suc k) at i p h e =
        let l = length-drop at s in
        let q = mul-suc (length (f ∷ fs)) k in
        let m : at + length (f ∷ fs) + length (f ∷ fs) * k ≤ length s = omega arith in
        let r = ran_one (drop at s) i p (omega arith) e in (
          each at (omega arith) r.fitting,
          cells_each k (at + length (f ∷ fs)) r.next r.rest m (rw (drop-drop (length (f ∷ fs)) at s) at r.from),
        )

-- ACCEPTED VALUES

-- the fields of an AOD's record, and of an XYZ's
abbrev pub aod_fields : List Field
aod_fields =
    F.Class ∷ F.Dynamic ∷ F.Coordinate ∷ F.Coordinate ∷ F.Coordinate ∷ F.Size ∷ F.Size3d ∷ F.Diverge ∷ F.Source ∷ F.Gain ∷ []

abbrev pub xyz_fields : List Field
xyz_fields = F.Coordinate ∷ F.Coordinate ∷ F.Coordinate ∷ []

-- a list can be written, in no more bits than these
pub record Wrote (again left : List Part) (xs : List ℕ) (most : ℕ) : Type 0 where
  pub first : ℕ
  pub run : List ℕ
  pub same : write_from again left xs first ≡ fine run
  pub few : length run ≤ most

-- what is read can be, in no more than its bytes have, of which there are at most 4,096
read_short : (kind : Kind) (s xs : List ℕ) → read_as (Some kind) s ≡ fine xs → length s ≤ 4096
unfolding read_as
read_short kind s xs e =
    split (ltb 4096 (length s)) (λ l. let q : refused R.Big 0 ≡ fine xs = simp l at e in absurd_eq (cc)) (λ l. ltb-false 4096 (length s) l)

read_wrote : (kind : Kind) (s xs : List ℕ) → read_as (Some kind) s ≡ fine xs → Wrote (record_of kind) (first_record kind) xs (8 * length s)
unfolding read_as
read_wrote kind s xs e =
    split (ltb 4096 (length s))
    (λ l. let q : refused R.Big 0 ≡ fine xs = simp l at e in absurd_eq (cc))
    (λ l.
    let w = read_write (suc (8 * length s)) (record_of kind) (first_record kind) (bits s) 0 0 xs (bits_below s) (simp l at e) in
    let long = length-append w.run (replicate w.pad 0) in
    record {
      first = 0;
      run = w.run;
      same = w.same;
      few = omega (arith, ap length w.whole, length_bits s);
    })

module _ (s xs : List ℕ) (e : read_as (Some K.Aod) s ≡ fine xs) where
  -- the records of an AOD are all of it
  pub aod_wrote : Wrote (record_of K.Aod) [] xs (8 * length s)
  aod_wrote =
      let w = read_wrote K.Aod s xs e in
      record { first = w.first; run = w.run; same = closes F.Element aod_fields xs w.first w.run w.same; few = w.few }

  aod_whole : Whole F.Element aod_fields xs aod_wrote.run
  aod_whole = let w = aod_wrote in whole F.Element aod_fields xs w.first w.run w.same

  pub aod_few : length xs ≤ 5291
  unfolding widths
  aod_few = omega (arith, aod_whole.numbers, aod_whole.bits, aod_wrote.few, read_short K.Aod s xs e)

module _ (s xs : List ℕ) (e : read_as (Some K.Xyz) s ≡ fine xs) where
  -- those of an XYZ are all but its first number, which has 6 bits
  xyz_ran : Ran (record_of K.Xyz) (F.SampleTime ∷ []) (record_of K.Xyz) xs (read_wrote K.Xyz s xs e).run
  xyz_ran =
      let w = read_wrote K.Xyz s xs e in
      ran (record_of K.Xyz) (F.SampleTime ∷ []) (record_of K.Xyz) xs w.first w.run w.same

  pub xyz_wrote : Wrote (record_of K.Xyz) [] (drop 1 xs) (8 * length s - 6)
  unfolding widths
  xyz_wrote =
      let r = xyz_ran in
      record {
        first = r.next;
        run = r.rest;
        same = closes F.Element xyz_fields (drop 1 xs) r.next r.rest r.from;
        few = omega (arith, r.paid, (read_wrote K.Xyz s xs e).few);
      }

  xyz_whole : Whole F.Element xyz_fields (drop 1 xs) xyz_wrote.run
  xyz_whole = let w = xyz_wrote in whole F.Element xyz_fields (drop 1 xs) w.first w.run w.same

  pub xyz_some : 5 ≤ length xs
  xyz_some =
      let w = read_wrote K.Xyz s xs e in
      (ran (record_of K.Xyz) (F.SampleTime ∷ F.Element ∷ xyz_fields) [] xs w.first w.run w.same).enough

  pub xyz_few : length xs ≤ 3121
  unfolding widths
  xyz_few = omega (arith, xyz_whole.numbers, xyz_whole.bits, length-drop 1 xs, xyz_wrote.few, read_short K.Xyz s xs e)

  -- a short value has few numbers
  pub xyz_short : length s ≤ 672 → length xs ≤ 512
  unfolding widths
  xyz_short h = omega (arith, xyz_whole.numbers, xyz_whole.bits, length-drop 1 xs, xyz_wrote.few, h)
