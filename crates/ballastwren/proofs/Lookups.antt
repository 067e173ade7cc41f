-- What a look-up tells C: by what its answer means, and by what a check of each pack tells.
use mathlib.Core.Path.{◌≡◌, refl, sym, ap, ap₂, subst, ◌∙◌}
use mathlib.Core.List.{List, [], ◌∷◌}
use mathlib.Core.Logic.{◌⊎◌, inl, inr}
use Prim.Native.Nat.{ℕ}
use lib.IntN.{ℤ, pos}
use lib.ListN.{length}
use borrow.Author.Tests.{le-leb}
use Rattle.std.specs.Prelude.{Ok, Err}
use Rattle.runs.specs.Digits.{Bytes}
use Rattle.runs.proofs.Cases.{absurd_eq}
use Rattle.refusals.specs.declared.Refusal.{Refusal}
use Rattle.refusals.specs.declared.Refused.{Refused}
use Rattle.refusals.specs.declared.Refusal.TheVariants as R
use Rattle.std.specs.Prelude.{Ok, Err}
use Rattle.refusals.specs.Refusals.{refused_at}
use Rattle.refusals.specs.Refusals.{number_of}
use Rattle.refusals.specs.Outcomes.{Outcome, fine, refused, answered}
use Rattle.refusals.proofs.Numbers.{numbers_apart}
use Rattle.refusals.proofs.Outcomes.{done_of_lem}
use Rattle.pack.specs.Items.{count_of}
use Rattle.pack.specs.Reading.{Read, reading, checked}
use Rattle.pack.specs.Meaning.{stretch_in}
use Rattle.pack.specs.declared.Payload.{Payload}
use Rattle.lookup.specs.Lookup.{carried, Looked, first_of, accepted, looked_up, pack_of, part_of}
use Rattle.lookup.specs.Named.{Without, Says}
use Rattle.lookup.specs.declared.Mark.{Mark}
use Rattle.lookup.specs.declared.Mark.TheVariants as M
use Rattle.lookup.specs.declared.Found.{Found}
use Rattle.lookup.specs.declared.Unfound.TheVariants as U
use Rattle.lookup.proofs.Means.{Means, MeansIn, strange_none, first_named, same_said, lookup_means}
use Rattle.ballastwren.specs.Told.{told_of, mark_number, told_unfound, told_found_of}
use Rattle.ballastwren.specs.Looked.{FirstTold, TotalTold, PartTold, absent_told}
use Rattle.ballastwren.specs.declared.Told.{Told}
use Rattle.ballastwren.specs.declared.ToldFound.{ToldFound}
use Rattle.ballastwren.proofs.Edge.{done_told}

-- a refusal has no number 0
never : {P : Type 0} (why : Refusal) (place : ℕ) → number_of why ≡ 0 → P
never why place z = let done = done_told (Err (refused_at why place)) z in absurd_eq (cc)

-- NO TWO ANSWERS ALIKE

marks_apart : (m n : Mark) → mark_number m ≡ mark_number n → m ≡ n
marks_apart M.Main M.Main e = refl
marks_apart M.Main M.Backup e = absurd_eq (cc)
marks_apart M.Main M.Neither e = absurd_eq (cc)
marks_apart M.Backup M.Main e = absurd_eq (cc)
marks_apart M.Backup M.Backup e = refl
marks_apart M.Backup M.Neither e = absurd_eq (cc)
marks_apart M.Neither M.Main e = absurd_eq (cc)
marks_apart M.Neither M.Backup e = absurd_eq (cc)
marks_apart M.Neither M.Neither e = refl

found_same : (f g : Found) → told_found_of (Ok f) ≡ told_found_of (Ok g) → f ≡ g
found_same f g e =
    ap₂ (λ (m : Mark) (v : ℕ). let x : Found = record { from = m; value = record { start = v; len = f.value.len }; total = f.total } in x)
    (marks_apart f.from g.from (ap (λ (t : ToldFound). t.from) e)) (ap (λ (t : ToldFound). t.start) e)
    ∙ ap₂ (λ (l : ℕ) (x : ℤ). let y : Found = record { from = g.from; value = record { start = g.value.start; len = l }; total = x } in y)
    (ap (λ (t : ToldFound). t.value) e) (ap (λ (t : ToldFound). t.total) e)

unfound_same : (r q : Refused) {m n : ℕ} → told_unfound r m ≡ told_unfound q n → r ≡ q
unfound_same r q e = ap₂ refused_at (numbers_apart r.why q.why (ap (λ (t : ToldFound). t.number) e)) (ap (λ (t : ToldFound). t.value) e)

-- a refusal is no value, and none of another pack
unlike : {P : Type 0} (r q : Refused) (m n : ℕ) → (m ≡ n → ⊥) → told_unfound r m ≡ told_unfound q n → P
unlike r q m n d e = absurd (d (ap (λ (t : ToldFound). t.from) e))

value_or_not : {P : Type 0} (f : Found) (r : Refused) {m : ℕ} → told_found_of (Ok f) ≡ told_unfound r m → P
value_or_not f r e = never r.why r.place (sym (ap (λ (t : ToldFound). t.number) e))

pub found_apart : (a b : Looked) → told_found_of a ≡ told_found_of b → a ≡ b
found_apart (Ok f) (Ok g) e = ap Ok (found_same f g e)
found_apart (Ok f) (Err (U.Main r)) e = value_or_not f r e
found_apart (Ok f) (Err (U.Backup r)) e = value_or_not f r e
found_apart (Ok f) (Err U.Absent) e = value_or_not f (refused_at R.Absent 0) e
found_apart (Err (U.Main r)) (Ok f) e = value_or_not f r (sym e)
found_apart (Err (U.Backup r)) (Ok f) e = value_or_not f r (sym e)
found_apart (Err U.Absent) (Ok f) e = value_or_not f (refused_at R.Absent 0) (sym e)
found_apart (Err (U.Main r)) (Err (U.Main q)) e = ap (λ (x : Refused). Err (U.Main x)) (unfound_same r q e)
found_apart (Err (U.Backup r)) (Err (U.Backup q)) e = ap (λ (x : Refused). Err (U.Backup x)) (unfound_same r q e)
found_apart (Err U.Absent) (Err U.Absent) e = refl
found_apart (Err (U.Main r)) (Err (U.Backup q)) e = unlike r q 1 2 (λ z. absurd_eq (cc)) e
found_apart (Err (U.Backup r)) (Err (U.Main q)) e = unlike r q 2 1 (λ z. absurd_eq (cc)) e
found_apart (Err (U.Main r)) (Err U.Absent) e = unlike r (refused_at R.Absent 0) 1 0 (λ z. absurd_eq (sym z)) e
found_apart (Err (U.Backup r)) (Err U.Absent) e = unlike r (refused_at R.Absent 0) 2 0 (λ z. absurd_eq (cc)) e
found_apart (Err U.Absent) (Err (U.Main q)) e = unlike (refused_at R.Absent 0) q 0 1 (λ z. absurd_eq (z)) e
found_apart (Err U.Absent) (Err (U.Backup q)) e = unlike (refused_at R.Absent 0) q 0 2 (λ z. absurd_eq (cc)) e

-- AS THE CHECKS TELL

abbrev counted : Outcome Read → Told
counted o = told_of (answered (λ (r : Read). count_of r.body.parts) o)

abbrev InOrder : Told → Told → ToldFound → Type 0
InOrder c d a =
    ((c.number ≡ 0 → ⊥) → a ≡ record { number = c.number; value = c.value; from = 1; start = 0; total = pos 0 })
    × (c.number ≡ 0 → (d.number ≡ 0 → ⊥) → a ≡ record { number = d.number; value = d.value; from = 2; start = 0; total = pos 0 })
    × (c.number ≡ 0 → d.number ≡ 0 → (a.number ≡ 0) ⊎ (a ≡ absent_told))

abbrev absent : Looked
absent = Err U.Absent

found_or_absent : (xs ys : List Payload)
    → let a = told_found_of (first_of M.Main xs (first_of M.Backup ys absent)) in (a.number ≡ 0) ⊎ (a ≡ absent_told)
found_or_absent (x ∷ xs) ys = inl refl
found_or_absent [] (y ∷ ys) = inl refl
found_or_absent [] [] = inr refl

in_order : (l : List ℕ) (o p : Outcome Read)
    → InOrder (counted o) (counted p)
    (told_found_of (accepted U.Main o (λ m. accepted U.Backup p (λ b. first_of M.Main (carried l m) (first_of M.Backup (carried l b) absent)))))
unfolding answered
in_order l (fine m) (fine b) = (λ h. absurd (h refl), λ z h. absurd (h refl), λ z y. found_or_absent (carried l m) (carried l b))
in_order l (fine m) (refused why p) = (λ h. absurd (h refl), λ z h. refl, λ z y. never why p y)
in_order l (refused why p) o = (λ h. refl, λ z h. never why p z, λ z y. never why p z)

module _ (main backup l : List ℕ) {a : ToldFound} (x : a ≡ told_found_of (looked_up main backup l)) where
  pub lookup_refused : {c d : Told} → c ≡ told_of (checked main) → d ≡ told_of (checked backup) → InOrder c d a
  unfolding looked_up checked
  lookup_refused {c} {d} p q =
      subst (λ (t : Told). InOrder t d a) (sym p) (subst (λ (t : Told). InOrder (counted (reading main)) t a) (sym q)
      (subst (InOrder (counted (reading main)) (counted (reading backup))) (sym x) (in_order l (reading main) (reading backup))))

  -- the pack of a check that counts is read
  read : (s : List ℕ) {c : Told} → c ≡ told_of (checked s) → c.number ≡ 0 → (r : Read) × (reading s ≡ fine r)
  unfolding checked
  read s p z =
      let d = done_of_lem (λ (r : Read). count_of r.body.parts) (reading s) (sym (done_told (checked s) (sym (ap (λ (t : Told). t.number) p) ∙ z))) in (d.0, d.1)

  looked_both : {m b : Read} → reading main ≡ fine m → reading backup ≡ fine b → looked_up main backup l ≡ first_of M.Main (carried l m) (first_of M.Backup (carried l b) absent)
  unfolding looked_up
  looked_both e g =
      ap₂ (λ (o p : Outcome Read). accepted U.Main o (λ m. accepted U.Backup p (λ b. first_of M.Main (carried l m) (first_of M.Backup (carried l b) absent)))) e g

  pub label_of_sixteen : {c d : Told} → c ≡ told_of (checked main) → d ≡ told_of (checked backup) → (length l ≡ 16 → ⊥) → c.number ≡ 0 → d.number ≡ 0 → a ≡ absent_told
  label_of_sixteen p q strange y z =
      let m = read main p y in
      let b = read backup q z in
      x ∙ ap told_found_of (looked_both m.1 b.1
      ∙ ap₂ (λ (us vs : List Payload). first_of M.Main us (first_of M.Backup vs absent)) (strange_none main l m.1 strange) (strange_none backup l b.1 strange))

-- WHAT IS FOUND

module _ (main backup l : List ℕ) where
  first_in : (m : Mark) (start len : ℕ) (total : ℤ) → MeansIn m main backup l start len total
      → FirstTold main backup l (record { number = 0; value = len; from = mark_number m; start = start; total = total })
  first_in M.Main start len total m = inl (refl, m.1, m.2)
  first_in M.Backup start len total m = inr (refl, m.1, m.2)
  first_in M.Neither start len total m = absurd m

  total_in : (m : Mark) (start len : ℕ) (total : ℤ) → MeansIn m main backup l start len total
      → TotalTold main backup l (record { number = 0; value = len; from = mark_number m; start = start; total = total })
  total_in M.Main start len total m = inl (refl, m.3)
  total_in M.Backup start len total m = inr (refl, m.3)
  total_in M.Neither start len total m = absurd m

  part_in : (m : Mark) (start len : ℕ) (total : ℤ) {v : List ℕ} → MeansIn m main backup l start len total → v ≡ stretch_in (pack_of m main backup) start len
      → PartTold main backup v (record { number = 0; value = len; from = mark_number m; start = start; total = total })
  unfolding stretch_in
  part_in M.Main start len total m q = inl (refl, (m.0, q ∙ simp (le-leb _ _ m.0)))
  part_in M.Backup start len total m q = inr (refl, (m.0, q ∙ simp (le-leb _ _ m.0)))
  part_in M.Neither start len total m q = absurd m

  -- a pack that has a value does not say that it has none
  value_not_absent : {P : Type 0} (m : Mark) (start len : ℕ) (total : ℤ) → MeansIn m main backup l start len total → Says main (Without l) → Says backup (Without l) → P
  value_not_absent M.Main start len total m u v = same_said m.1 u (λ xs f w. absurd (first_named f w))
  value_not_absent M.Backup start len total m u v = same_said m.2 v (λ xs f w. absurd (first_named f w))
  value_not_absent M.Neither start len total m u v = absurd m

  first_of_lem : (f : Looked) → Means main backup l f → (told_found_of f).number ≡ 0 → FirstTold main backup l (told_found_of f)
  first_of_lem (Ok f) m z = first_in f.from f.value.start f.value.len f.total m
  first_of_lem (Err (U.Main r)) m z = never r.why r.place z
  first_of_lem (Err (U.Backup r)) m z = never r.why r.place z
  first_of_lem (Err U.Absent) m z = never R.Absent 0 z

  total_of : (f : Looked) → Means main backup l f → (told_found_of f).number ≡ 0 → TotalTold main backup l (told_found_of f)
  total_of (Ok f) m z = total_in f.from f.value.start f.value.len f.total m
  total_of (Err (U.Main r)) m z = never r.why r.place z
  total_of (Err (U.Backup r)) m z = never r.why r.place z
  total_of (Err U.Absent) m z = never R.Absent 0 z

  part_of_lem : {v : List ℕ} (f : Looked) → Means main backup l f → v ≡ part_of main backup f
      → ((told_found_of f).number ≡ 0 → PartTold main backup v (told_found_of f)) × (((told_found_of f).number ≡ 0 → ⊥) → ((told_found_of f).start ≡ 0) × (v ≡ []))
  unfolding part_of
  part_of_lem (Ok f) m q = (λ z. part_in f.from f.value.start f.value.len f.total m q, λ h. absurd (h refl))
  part_of_lem (Err (U.Main r)) m q = (λ z. never r.why r.place z, λ h. (refl, q))
  part_of_lem (Err (U.Backup r)) m q = (λ z. never r.why r.place z, λ h. (refl, q))
  part_of_lem (Err U.Absent) m q = (λ z. never R.Absent 0 z, λ h. (refl, q))

  absent_of : (f : Looked) → Means main backup l f → told_found_of f ≡ absent_told → Says main (Without l) × Says backup (Without l)
  absent_of (Ok f) m e = value_or_not f (refused_at R.Absent 0) {m = 0} e
  absent_of (Err (U.Main r)) m e = unlike r (refused_at R.Absent 0) 1 0 (λ z. absurd_eq (sym z)) e
  absent_of (Err (U.Backup r)) m e = unlike r (refused_at R.Absent 0) 2 0 (λ z. absurd_eq (cc)) e
  absent_of (Err U.Absent) m e = m

  of_absent : (f : Looked) → Means main backup l f → Says main (Without l) → Says backup (Without l) → told_found_of f ≡ absent_told
  of_absent (Ok f) m u v = value_not_absent f.from f.value.start f.value.len f.total m u v
  of_absent (Err (U.Main r)) m u v = absurd_eq (cc (m, u.accepted))
  of_absent (Err (U.Backup r)) m u v = absurd_eq (cc (m.1, v.accepted))
  of_absent (Err U.Absent) m u v = refl

module _ (main backup l : List ℕ) (b₁ : Bytes main) (b₂ : Bytes backup) {a : ToldFound} (x : a ≡ told_found_of (looked_up main backup l)) where
  means : Means main backup l (looked_up main backup l)
  means = lookup_means main backup l b₁ b₂

  pub lookup_first : a.number ≡ 0 → FirstTold main backup l a
  lookup_first z = subst (FirstTold main backup l) (sym x) (first_of_lem main backup l (looked_up main backup l) means (sym (ap (λ (t : ToldFound). t.number) x) ∙ z))

  pub lookup_total : a.number ≡ 0 → TotalTold main backup l a
  lookup_total z = subst (TotalTold main backup l) (sym x) (total_of main backup l (looked_up main backup l) means (sym (ap (λ (t : ToldFound). t.number) x) ∙ z))

  pub lookup_stretch : {v : List ℕ} → v ≡ part_of main backup (looked_up main backup l)
      → (a.number ≡ 0 → PartTold main backup v a) × ((a.number ≡ 0 → ⊥) → (a.start ≡ 0) × (v ≡ []))
  lookup_stretch {v} q =
      subst (λ (t : ToldFound). (t.number ≡ 0 → PartTold main backup v t) × ((t.number ≡ 0 → ⊥) → (t.start ≡ 0) × (v ≡ []))) (sym x)
      (part_of_lem main backup l (looked_up main backup l) means q)

  pub absent_exactly : (a ≡ absent_told → Says main (Without l) × Says backup (Without l)) × (Says main (Without l) → Says backup (Without l) → a ≡ absent_told)
  absent_exactly = (λ e. absent_of main backup l (looked_up main backup l) means (sym x ∙ e), λ u v. x ∙ of_absent main backup l (looked_up main backup l) means u v)
