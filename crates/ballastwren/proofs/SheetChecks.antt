-- What a check of a sheet tells C: what every scrub by that sheet tells of it, and how many entries stand on it.
use mathlib.Core.Path.{◌≡◌, refl, sym, ap, ◌∙◌}
use mathlib.Core.List.{List}
use Prim.Native.Nat.{ℕ, ◌+◌, ◌≤◌}
use native.Mathlib.Omega.{arith}
use lib.ListN.{length}
use Rattle.runs.specs.Digits.{Bytes}
use Rattle.refusals.specs.declared.Refusal.{Refusal}
use Rattle.refusals.specs.declared.Refusal.TheVariants as R
use Rattle.refusals.specs.Outcomes.{Outcome, fine, refused, answered}
use Rattle.refusals.specs.Refusals.{number_of}
use Rattle.refusals.proofs.Outcomes.{done_of_lem, refused_of, answered_fine, answered_refused}
use Rattle.scrub_kept.specs.Sheet.{Sheet, everything, these, all_sheet, sheet_of, entries_on, sheet_checked}
use Rattle.scrub_kept.specs.Scrubbed.{scrubbed}
use Rattle.scrub_kept.proofs.Sheets.{sheet_why, all_is, entries_few}
use Rattle.scrub_kept.proofs.Scrubbing.{sheet_refused, never_sheet}
use Rattle.ballastwren.specs.Told.{told_of, BwScrub}
use Rattle.ballastwren.specs.declared.Told.{Told}
use Rattle.ballastwren.proofs.Edge.{done_told, refused_told}

-- a refusal is told by its number
told_sheet : (o : Outcome (List ℕ)) → (told_of (answered length o)).number ≡ 14
    → (why : Refusal) × (place : ℕ) × (o ≡ refused why place) × (number_of why ≡ 14)
unfolding answered
told_sheet (fine xs) e = absurd (omega arith)
told_sheet (refused why place) e = (why, place, refl, e)

module _ (sheet : List ℕ) {a : Told} (x : a ≡ told_of (sheet_checked sheet)) where
  -- the sheet that was accepted, or that was not
  accepted : a.number ≡ 0 → (sh : Sheet) × (sheet_of sheet ≡ fine sh) × (a.value ≡ entries_on sh)
  unfolding sheet_checked
  accepted zero =
      let d = done_of_lem entries_on (sheet_of sheet) (sym (done_told (sheet_checked sheet) (sym (ap (λ (t : Told). t.number) x) ∙ zero))) in
      (d.0, d.1, ap (λ (t : Told). t.value) x ∙ d.2)

  malformed : (a.number ≡ 0 → ⊥) → sheet_of sheet ≡ refused R.Sheet 0
  unfolding sheet_checked
  malformed h =
      let r = refused_told (sheet_checked sheet) (λ z. h (ap (λ (t : Told). t.number) x ∙ z)) in
      sheet_why sheet r.0 r.1 (refused_of entries_on (sheet_of sheet) (sym r.2))

  -- what is told of a sheet that is known
  counts : (sh : Sheet) → sheet_of sheet ≡ fine sh → a ≡ record { number = 0; value = entries_on sh }
  unfolding sheet_checked
  counts sh e = x ∙ ap told_of (sym (answered_fine entries_on e))

  pub sheet_check_then_scrub : (s : List ℕ) {before after : List ℕ} {b : Told} → Bytes s → BwScrub sheet s before b after
      → ((a.number ≡ 0 → ⊥) → (a ≡ record { number = 14; value = 0 }) × (b ≡ a)) × (a.number ≡ 0 → b.number ≡ 14 → ⊥)
  unfolding sheet_checked
  sheet_check_then_scrub s {before} bytes y = (
    λ h.
        let bad = malformed h in
        let told : a ≡ record { number = 14; value = 0 } = x ∙ ap told_of (sym (answered_refused entries_on bad refl)) in
        (told, y.told ∙ ap told_of (sym (answered_refused length (sheet_refused sheet s (length before) R.Sheet 0 bad) refl)) ∙ sym told),
    λ zero is.
        let good = accepted zero in
        let r = told_sheet (scrubbed sheet s (length before)) (sym (ap (λ (t : Told). t.number) y.told) ∙ is) in
        never_sheet sheet s (length before) good.0 r.0 r.1 bytes good.1 r.2 r.3,
  )

  pub sheet_entries : ((ls : List (List ℕ)) (ts : List ℕ) → sheet_of sheet ≡ fine (these ls ts) → a ≡ record { number = 0; value = length ls + length ts })
      × (sheet ≡ all_sheet → a ≡ record { number = 0; value = 0 })
      × (a.number ≡ 0 → a.value ≤ 64)
  sheet_entries = (
    λ ls ts e. counts (these ls ts) e,
    λ e. counts everything (ap sheet_of e ∙ all_is),
    λ zero. let good = accepted zero in omega (arith, good.2, entries_few sheet good.0 good.1),
  )
