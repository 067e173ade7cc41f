-- Of 4,096 bytes no more than 9,828 numbers are read: as many as 3,276 turnarounds of three numbers have, of ten bits each.
use Prim.Native.Nat.{ℕ, suc, ◌+◌, ◌*◌, ◌≤◌}
use mathlib.Core.Path.{◌≡◌, refl, sym, ap, subst, ◌∙◌}
use mathlib.Core.List.{List, [], ◌∷◌}
use mathlib.Core.Bool.{true}
use mathlib.Core.Logic.{◌⊎◌, inl, inr, ⊎_elim}
use native.Mathlib.Omega.{arith}
use lib.Dec.{ltb, eqb}
use lib.ListN.{length, drop, replicate, length-append}
use borrow.Author.Tests.{ltb-false}
use Rattle.runs.specs.Digits.{digits}
use Rattle.runs.proofs.Cases.{split, absurd_eq}
use Rattle.runs.proofs.Digits.{length_digits}
use Rattle.bits.specs.Bits.{bits}
use Rattle.bits.proofs.Bits.{bits_below, length_bits}
use Rattle.refusals.specs.Outcomes.{fine, refused}
use Rattle.refusals.specs.declared.Refusal.TheVariants as R
use Rattle.pmd.specs.declared.Kind.{Kind}
use Rattle.pmd.specs.declared.Kind.TheVariants as K
use Rattle.std.specs.Prelude.{Option, Some, None}
use Rattle.pmd.specs.Table.{Part, kind_of, record_of}
use Rattle.pmd.specs.Records.{width, after, closed, opened, first_record}
use Rattle.pmd.specs.Reading.{read_as, fields_read}
use Rattle.pmd.specs.Writing.{write_from}
use Rattle.pmd.proofs.Records.{sure, need, many_pay, after_pays, after_paid, opened_pays, opened_paid}
use Rattle.pmd.proofs.Trip.{write_parted, write_end, read_write}

-- what is written pays for its numbers
module _ (again : List Part) (pay : many_pay again ≡ true) (enough : need again ≤ sure again) where
  written_paid : (left : List Part) (xs : List ℕ) (i : ℕ) (p : List ℕ) → many_pay left ≡ true → write_from again left xs i ≡ fine p
      → 10 * length xs + sure left ≤ 3 * length p + need left
  unfolding sure need closed
  written_paid [] [] i p m e = omega arith
  written_paid (x ∷ left) [] i p m e = let c = (write_end again (x ∷ left) i p e).0 in absurd_eq (cc)
  written_paid left (v ∷ vs) i p m e =
      let s = write_parted again left v vs i p e in
      let next = opened again left in
      let many = opened_pays again left pay m in
      omega (
        arith,
        written_paid (after next v) vs (i + 1) s.rest (after_pays next v many) s.from,
        after_paid next v many s.taken,
        opened_paid again left enough,
        ap length s.whole,
        length-append (digits 2 (width next) v) s.rest,
        length_digits 2 (width next) v,
      )

-- A TURNAROUND

abbrev record' : List Part
record' = record_of K.Etd

-- where the shortest turnaround, of an id and two flags of 0, may stand; it has then as many numbers still to come, of a bit each
data Stage : Type 0 where
  over : Stage
  first : Stage
  second : Stage

left_in : Stage → List Part
left_in over = []
left_in first = drop 1 record'
left_in second = drop 4 record'

flags : Stage → ℕ
flags over = 0
flags first = 2
flags second = 1

-- n numbers in b bits are those of r shortest turnarounds, or leave more over than the last record of 4,096 bytes could use
record Shortest (s : Stage) (n b : ℕ) : Type 0 where
  r : ℕ
  numbers : n ≡ 3 * r + flags s
  bits : b ≡ 10 * r + flags s

Tally : Stage → ℕ → ℕ → Type 0
Tally s n b = Shortest s n b ⊎ (10 * n + 15 ≤ 3 * b + 7 * flags s)

-- an id, a flag of 0, and a flag that is set, behind which fields have much over
tally_id : (n b : ℕ) → Tally first n b → Tally over (n + 1) (b + 8)
unfolding Tally flags
tally_id n b t =
    ⊎_elim
    (λ (s : Shortest first n b). inl (record { r = s.r + 1; numbers = omega (arith, s.numbers); bits = omega (arith, s.bits) }))
    (λ (l : 10 * n + 15 ≤ 3 * b + 14). inr (omega arith)) t

tally_zero : (s z : Stage) (n b : ℕ) → flags s ≡ flags z + 1 → Tally z n b → Tally s (n + 1) (b + 1)
unfolding Tally
tally_zero s z n b f t =
    ⊎_elim
    (λ (q : Shortest z n b). inl (record { r = q.r; numbers = omega (arith, q.numbers, f); bits = omega (arith, q.bits, f) }))
    (λ (l : 10 * n + 15 ≤ 3 * b + 7 * flags z). inr (omega (arith, f))) t

as_long : (s : Stage) (n : ℕ) {b c : ℕ} → b ≡ c → Tally s (n + 1) c → Tally s (suc n) b
as_long s n {b} {c} e t = let more : n + 1 ≡ suc n = omega arith in subst (λ (m : ℕ). Tally s m b) more (subst (λ (m : ℕ). Tally s (n + 1) m) (sym e) t)

-- what is written of a number and what follows it is as long
longer : (again left : List Part) (v : ℕ) (vs : List ℕ) (i : ℕ) (p : List ℕ) (e : write_from again left (v ∷ vs) i ≡ fine p)
    → length p ≡ length (write_parted again left v vs i p e).rest + width (opened again left)
longer again left v vs i p e =
    let s = write_parted again left v vs i p e in
    let w = width (opened again left) in
    ap length s.whole ∙ length-append (digits 2 w v) s.rest ∙ (let q : length (digits 2 w v) + length s.rest ≡ length s.rest + w = omega (arith, length_digits 2 w v) in q)

-- where a flag of 0 leads
first_passed : (v : ℕ) → eqb v 0 ≡ true → after (left_in first) v ≡ left_in second
unfolding after left_in
first_passed v z = simp z

second_passed : (v : ℕ) → eqb v 0 ≡ true → after (left_in second) v ≡ left_in over
unfolding after left_in
second_passed v z = simp z

tally : (s : Stage) (xs : List ℕ) (i : ℕ) (p : List ℕ) → write_from record' (left_in s) xs i ≡ fine p → Tally s (length xs) (length p)
unfolding left_in flags Tally closed opened after width sure need many_pay
tally over [] i p e = inl (record { r = 0; numbers = refl; bits = sym (ap length (write_end record' [] i p e).1) })
tally first [] i p e = let c = (write_end record' (left_in first) i p e).0 in absurd_eq (cc)
tally second [] i p e = let c = (write_end record' (left_in second) i p e).0 in absurd_eq (cc)
tally over (v ∷ vs) i p e =
    let s = write_parted record' [] v vs i p e in
    as_long over (length vs) (longer record' [] v vs i p e) (tally_id (length vs) (length s.rest) (tally first vs (i + 1) s.rest s.from))
tally first (v ∷ vs) i p e =
    let s = write_parted record' (left_in first) v vs i p e in
    as_long first (length vs) (longer record' (left_in first) v vs i p e)
    (split (eqb v 0)
    (λ z. tally_zero first second (length vs) (length s.rest) refl (tally second vs (i + 1) s.rest (ap (λ (k : List Part). write_from record' k vs (i + 1)) (sym (first_passed v z)) ∙ s.from)))
    (λ z. inr (omega (arith, written_paid record' refl (omega arith) (drop 2 record') vs (i + 1) s.rest refl (simp z at s.from)))))
tally second (v ∷ vs) i p e =
    let s = write_parted record' (left_in second) v vs i p e in
    as_long second (length vs) (longer record' (left_in second) v vs i p e)
    (split (eqb v 0)
    (λ z. tally_zero second over (length vs) (length s.rest) refl (tally over vs (i + 1) s.rest (ap (λ (k : List Part). write_from record' k vs (i + 1)) (sym (second_passed v z)) ∙ s.from)))
    (λ z. inr (omega (arith, written_paid record' refl (omega arith) (drop 5 record') vs (i + 1) s.rest refl (simp z at s.from)))))

-- BY THE KIND

-- fields in a row are sure to leave as much over
module _ (again first : List Part) (pay : (many_pay again ≡ true) × (many_pay first ≡ true)) (enough : (need again ≤ sure again) × (need first + 15 ≤ sure first)) where
  row_few : (xs p : List ℕ) → write_from again first xs 0 ≡ fine p → length p ≤ 32768 → length xs ≤ 9828
  row_few xs p e h = omega (arith, written_paid again pay.0 enough.0 first xs 0 p pay.1 e, enough.1)

turnaround_few : (xs p : List ℕ) → write_from record' record' xs 0 ≡ fine p → length p ≤ 32768 → length xs ≤ 9828
unfolding write_from opened Tally flags left_in
turnaround_few [] p e h = omega arith
turnaround_few (v ∷ vs) p e h =
    ⊎_elim
    (λ (s : Shortest over (length (v ∷ vs)) (length p)). omega (arith, s.numbers, s.bits))
    (λ (l : 10 * length (v ∷ vs) + 15 ≤ 3 * length p + 0). omega arith)
    (tally over (v ∷ vs) 0 p e)

written_few : (kind : Kind) (xs p : List ℕ) → write_from (record_of kind) (first_record kind) xs 0 ≡ fine p → length p ≤ 32768 → length xs ≤ 9828
unfolding many_pay sure need
written_few K.Apd = row_few (record_of K.Apd) (first_record K.Apd) (refl, refl) (omega arith, omega arith)
written_few K.Apn = row_few (record_of K.Apn) (first_record K.Apn) (refl, refl) (omega arith, omega arith)
written_few K.Aod = row_few (record_of K.Aod) (first_record K.Aod) (refl, refl) (omega arith, omega arith)
written_few K.Xyz = row_few (record_of K.Xyz) (first_record K.Xyz) (refl, refl) (omega arith, omega arith)
written_few K.Aen = row_few (record_of K.Aen) (first_record K.Aen) (refl, refl) (omega arith, omega arith)
written_few K.Esn = row_few (record_of K.Esn) (first_record K.Esn) (refl, refl) (omega arith, omega arith)
written_few K.Etd = turnaround_few

read_few : (named : Option Kind) (s xs : List ℕ) → read_as named s ≡ fine xs → length xs ≤ 9828
unfolding read_as
read_few None s xs e = absurd_eq (cc)
read_few (Some kind) s xs e =
    split (ltb 4096 (length s))
    (λ l. let q : refused R.Big 0 ≡ fine xs = simp l at e in absurd_eq (cc))
    (λ l.
    let w = read_write (suc (8 * length s)) (record_of kind) (first_record kind) (bits s) 0 0 xs (bits_below s) (simp l at e) in
    written_few kind xs w.run w.same
    (omega (arith, ap length w.whole, length-append w.run (replicate w.pad 0), length_bits s, ltb-false 4096 (length s) l)))

pub fields_few : (kind : ℕ) (s xs : List ℕ) → fields_read kind s ≡ fine xs → length xs ≤ 9828
fields_few kind s xs = read_few (kind_of kind) s xs
