-- What two packs come to, by what was sought in each.
use mathlib.Core.Path.{◌≡◌, refl, sym, ap, ◌∙◌}
use mathlib.Core.List.{List, [], ◌∷◌}
use Prim.Native.Nat.{ℕ}
use Rattle.std.specs.Prelude.{Option, Some, None, Result, Ok, Err}
use Rattle.std.specs.Result.{MatchResult, IsErrAnd}
use Rattle.std.proofs.lemmas.Result.{err_from_is_err_and}
use Rattle.runs.proofs.Cases.{absurd_eq}
use Rattle.refusals.specs.declared.Refused.{Refused}
use Rattle.refusals.specs.Outcomes.{Outcome, fine, answered, Answer}
use Rattle.refusals.proofs.Lent.{done_was, refused_was}
use Rattle.pack.specs.Items.{count_of}
use Rattle.pack.specs.Reading.{Read, reading, checked}
use Rattle.pack.specs.declared.Payload.{Payload}
use Rattle.lookup.specs.Lookup.{Looked, found_in, carried, first_of, accepted, looked_up}
use Rattle.lookup.specs.Sought.{first_at, sought_read}
use Rattle.lookup.specs.declared.Mark.{Mark}
use Rattle.lookup.specs.declared.Mark.TheVariants as M
use Rattle.lookup.specs.declared.Spot.{Spot}
use Rattle.lookup.specs.declared.Unfound.TheVariants as U

-- an error that is told by another: what it was told of
module _ {A E D : Type 0} (tells : E → D) (r : Result A E) {q : Result A D} (m : MatchResult r (λ x. q ≡ Ok x) (λ e. IsErrAnd q (λ d. d ≡ tells e))) where
  pub told_ok : {x : A} → q ≡ Ok x → r ≡ Ok x
  told_ok {x} e = was r m
    where
      was : (r : Result A E) → MatchResult r (λ x. q ≡ Ok x) (λ e. IsErrAnd q (λ d. d ≡ tells e)) → r ≡ Ok x
      was (Ok y) m = let is : y ≡ x = cc in ap Ok is
      was (Err y) m = let p = err_from_is_err_and q m in let z = p.1 in absurd_eq (cc)

  pub told_err : {d : D} → q ≡ Err d → (x : E) × (r ≡ Err x) × (d ≡ tells x)
  told_err {d} e = was r m
    where
      was : (r : Result A E) → MatchResult r (λ x. q ≡ Ok x) (λ e. IsErrAnd q (λ d. d ≡ tells e)) → (x : E) × (r ≡ Err x) × (d ≡ tells x)
      was (Ok y) m = absurd_eq (cc)
      was (Err y) m = let p = err_from_is_err_and q m in let z = p.1 in let is : p.0 ≡ d = cc in (y, refl, sym is ∙ p.2)

first_some : (m : Mark) (xs : List Payload) (next : Looked) {x : Spot} → first_at xs ≡ Some x → first_of m xs next ≡ Ok (found_in m x.start x.len x.total)
first_some m [] next e = absurd_eq (cc)
first_some m (y ∷ ys) next e = ap (λ (z : Option Spot). told z) e
  where
    told : Option Spot → Looked
    told (Some z) = Ok (found_in m z.start z.len z.total)
    told None = next

first_none : (m : Mark) (xs : List Payload) (next : Looked) → first_at xs ≡ None → first_of m xs next ≡ next
first_none m [] next e = refl
first_none m (x ∷ xs) next e = absurd_eq (cc)

abbrev absent : Looked
absent = Err U.Absent

module _ (main backup l : List ℕ) where
  -- backup, where main was read as m
  abbrev after : Read → Outcome Read → Looked
  after m o = accepted U.Backup o (λ b. first_of M.Main (carried l m) (first_of M.Backup (carried l b) absent))

  looked_first : {o : Outcome Read} → reading main ≡ o → looked_up main backup l ≡ accepted U.Main o (λ m. after m (reading backup))
  unfolding looked_up
  looked_first e = ap (λ (o : Outcome Read). accepted U.Main o (λ m. after m (reading backup))) e

  -- by what was sought in main
  module _ {first : Result (Option Spot) Refused} (f : first ≡ answered (sought_read l) (reading main)) where
    pub main_refused : {x : Refused} → first ≡ Err x → looked_up main backup l ≡ Err (U.Main x)
    main_refused e = looked_first (refused_was (sought_read l) f e)

    module _ {h : Option Spot} (e : first ≡ Ok h) where
      main_read : (m : Read) × (reading main ≡ fine m) × (first_at (carried l m) ≡ h)
      main_read = done_was (sought_read l) f e

      -- then backup is read, or refused
      next : {o : Outcome Read} → reading backup ≡ o → looked_up main backup l ≡ after main_read.0 o
      next g = looked_first main_read.1 ∙ ap (after main_read.0) g

    -- main has it
    module _ {x : Spot} (e : first ≡ Ok (Some x)) {other : Answer} (k : other ≡ checked backup) where
      pub other_refused : {y : Refused} → other ≡ Err y → looked_up main backup l ≡ Err (U.Backup y)
      unfolding checked
      other_refused d = next e (refused_was (λ (r : Read). count_of r.body.parts) k d)

      pub in_main : {n : ℕ} → other ≡ Ok n → looked_up main backup l ≡ Ok (found_in M.Main x.start x.len x.total)
      unfolding checked
      in_main d = next e (done_was (λ (r : Read). count_of r.body.parts) k d).1 ∙ first_some M.Main (carried l (main_read e).0) _ (main_read e).2

    -- main does not have it
    module _ (e : first ≡ Ok None) {second : Result (Option Spot) Refused} (g : second ≡ answered (sought_read l) (reading backup)) where
      pub backup_refused : {y : Refused} → second ≡ Err y → looked_up main backup l ≡ Err (U.Backup y)
      backup_refused d = next e (refused_was (sought_read l) g d)

      backup_next : {h : Option Spot} (d : second ≡ Ok h) → looked_up main backup l ≡ first_of M.Backup (carried l (done_was (sought_read l) g d).0) absent
      backup_next d = next e (done_was (sought_read l) g d).1 ∙ first_none M.Main (carried l (main_read e).0) _ (main_read e).2

      pub in_backup : {x : Spot} → second ≡ Ok (Some x) → looked_up main backup l ≡ Ok (found_in M.Backup x.start x.len x.total)
      in_backup d = let b = done_was (sought_read l) g d in backup_next d ∙ first_some M.Backup (carried l b.0) absent b.2

      pub in_neither : second ≡ Ok None → looked_up main backup l ≡ absent
      in_neither d = let b = done_was (sought_read l) g d in backup_next d ∙ first_none M.Backup (carried l b.0) absent b.2
