-- What a check tells C: what reading the pack tells, whether the pack is one that can be made, and else what is wrong with it.
use mathlib.Core.Path.{◌≡◌, refl, sym, ap, subst, ◌∙◌}
use mathlib.Core.List.{List}
use Prim.Native.Nat.{ℕ, ◌+◌, ◌*◌, ◌<◌, ◌≤◌}
use native.Mathlib.Omega.{arith}
use lib.ListN.{length}
use Rattle.runs.specs.Digits.{Bytes}
use Rattle.runs.proofs.Cases.{absurd_eq}
use Rattle.std.specs.Prelude.{Err}
use Rattle.refusals.specs.Refusals.{refused_at}
use Rattle.refusals.specs.declared.Refusal.{Refusal}
use Rattle.refusals.specs.Outcomes.{Outcome, fine, refused, and_then, answered}
use Rattle.refusals.specs.Lent.{within}
use Rattle.refusals.specs.Refusals.{number_of}
use Rattle.refusals.proofs.Lent.{fine_within, none_within}
use Rattle.refusals.proofs.Outcomes.{done_of_lem, refused_of, answered_fine, answered_refused}
use Rattle.pack.specs.Items.{count_of}
use Rattle.pack.specs.Reading.{Read, reading, checked}
use Rattle.pack_layout.specs.Layout.{Description, layout}
use Rattle.pack_layout.specs.Well.{WellFormed}
use Rattle.pack_layout.specs.Agrees.{Sound}
use Rattle.pack_layout.specs.Refused.{Refused}
use Rattle.pack_layout.proofs.Complete.{reading_complete}
use Rattle.pack_layout.proofs.Sound.{reading_sound}
use Rattle.pack_layout.proofs.Refusals.{refused_exactly}
use Rattle.pack_rows.specs.Rows.{rows_of}
use Rattle.ballastwren.specs.Told.{told_of, BwRead}
use Rattle.ballastwren.specs.declared.Told.{Told}
use Rattle.ballastwren.proofs.Edge.{told_apart, done_told}
use Rattle.ballastwren.proofs.Most.{rows_long}

-- AS A READING TELLS

-- of what reading a pack comes to: the answer of a check, and that of the rows in so much room
abbrev counted : Outcome Read → Told
counted o = told_of (answered (λ (r : Read). count_of r.body.parts) o)

abbrev rowed : ℕ → Outcome Read → Told
rowed room o = told_of (answered length (within room (and_then o (λ (r : Read). fine (rows_of r)))))

abbrev Agree : ℕ → Told → Told → Type 0
Agree room a b =
    ((a.number ≡ 0 → ⊥) → b ≡ a)
    × (a.number ≡ 0 → 8 * (1 + a.value) ≤ room → b ≡ record { number = 0; value = 8 * (1 + a.value) })
    × (a.number ≡ 0 → room < 8 * (1 + a.value) → b ≡ record { number = 15; value = 0 })

agree : (room : ℕ) (o : Outcome Read) → Agree room (counted o) (rowed room o)
unfolding answered and_then
agree room (fine r) =
    let tell : Outcome (List ℕ) → Told = λ x. told_of (answered length x) in (
      λ h. absurd (h refl),
      λ z h.
          ap tell (fine_within room (rows_of r) (omega (arith, rows_long r, h))) ∙ ap (λ (n : ℕ). let t : Told = record { number = 0; value = n } in t) (rows_long r),
      λ z h. ap tell (none_within room (rows_of r) (omega (arith, rows_long r, h))),
    )
agree room (refused why place) = (
  λ h. refl,
  λ z h. let never = done_told (Err (refused_at why place)) z in absurd_eq (cc),
  λ z h. let never = done_told (Err (refused_at why place)) z in absurd_eq (cc),
)

pub check_then_read : (pack : List ℕ) {before after : List ℕ} {a b : Told} → a ≡ told_of (checked pack) → BwRead pack before b after
    → ((a.number ≡ 0 → ⊥) → b ≡ a)
    × (a.number ≡ 0 → 8 * (1 + a.value) ≤ length before → b ≡ record { number = 0; value = 8 * (1 + a.value) })
    × (a.number ≡ 0 → length before < 8 * (1 + a.value) → b ≡ record { number = 15; value = 0 })
unfolding checked
check_then_read pack {before} {after} {a} {b} x y =
    let room = length before in
    subst (λ (t : Told). Agree room t b) (sym x) (subst (Agree room (counted (reading pack))) (sym y.told) (agree room (reading pack)))

-- EXACTLY THE PACKS THAT CAN BE MADE

pub accepted_exactly : (pack : List ℕ) → Bytes pack → {a : Told} → a ≡ told_of (checked pack)
    → (a.number ≡ 0 → (r : Read) × (reading pack ≡ fine r) × Sound pack r) × ((d : Description) → WellFormed d → layout d ≡ pack → a.number ≡ 0)
unfolding checked
accepted_exactly pack bytes {a} x =
    let count : Read → ℕ = λ r. count_of r.body.parts in (
      λ zero.
          let d = done_of_lem count (reading pack) (sym (done_told (checked pack) (sym (ap (λ (t : Told). t.number) x) ∙ zero))) in
          (d.0, d.1, reading_sound pack bytes d.0 d.1),
      λ d well gives.
          let c = reading_complete d well in
          ap (λ (t : Told). t.number) (x ∙ ap told_of (sym (answered_fine count (ap reading (sym gives) ∙ c.reads)))),
    )

-- EXACTLY WHERE THEY ARE WRONG

pub told_exactly : (pack : List ℕ) → Bytes pack → {a : Told} → a ≡ told_of (checked pack) → (why : Refusal) (place : ℕ)
    → (a ≡ record { number = number_of why; value = place } → Refused pack why place) × (Refused pack why place → a ≡ record { number = number_of why; value = place })
unfolding checked
told_exactly pack bytes x why place =
    let count : Read → ℕ = λ r. count_of r.body.parts in
    let exactly = refused_exactly pack bytes why place in (
      λ e. exactly.0 (refused_of count (reading pack) (told_apart (Err (refused_at why place)) (checked pack) (sym e ∙ x))),
      λ h. x ∙ ap told_of (sym (answered_refused count (exactly.1 h) refl)),
    )
