-- What C is told tells the answer, and with it the outcome: so what is known of an outcome is known of what C is told and of what a lent run holds.
use mathlib.Core.Path.{◌≡◌, refl, sym, ap, ap₂, ◌∙◌}
use mathlib.Core.List.{List}
use Prim.Native.Nat.{ℕ, ◌<◌, ◌≤◌}
use native.Mathlib.Nat.{zero-add}
use native.Mathlib.Omega.{arith}
use lib.ListN.{length, take}
use Rattle.runs.specs.Over.{over}
use Rattle.runs.proofs.Cases.{absurd_eq}
use Rattle.runs.proofs.Over.{take_over}
use Rattle.refusals.specs.declared.Refusal.{Refusal}
use Rattle.refusals.specs.Outcomes.{Answer}
use Rattle.std.specs.Prelude.{Ok, Err}
use Rattle.refusals.specs.Refusals.{refused_at}
use Rattle.refusals.specs.Outcomes.{Outcome, fine, refused, answered, told}
use Rattle.refusals.specs.Lent.{within, lent, Lends}
use Rattle.refusals.proofs.Lent.{within_fine, fine_within, none_within}
use Rattle.refusals.proofs.Numbers as numbers
use Rattle.refusals.proofs.Outcomes.{done_of_lem, refused_of}
use Rattle.scrub_kept.specs.Scrubbed.{leaves}
use Rattle.scrub_kept.proofs.Scrubbing.{refused_same}
use Rattle.objects.specs.declared.Object.{Object}
use Rattle.objects.specs.Calls.{Call}
use Rattle.objects_apply.specs.Applied.{Applied}
use Rattle.ballastwren.specs.Objects.{BwObjects}
use Rattle.ballastwren.specs.Told.{told_of}
use Rattle.ballastwren.specs.declared.Told.{Told}

-- two answers that are told alike are the same
same_told : (a b : Answer) → told_of a ≡ told_of b → told a ≡ told b
same_told (Ok m) (Ok n) e = ap (λ (t : Told). record { number = t.number; value = t.value }) e
same_told (Ok m) (Err r) e = ap (λ (t : Told). record { number = t.number; value = t.value }) e
same_told (Err r) (Ok n) e = ap (λ (t : Told). record { number = t.number; value = t.value }) e
same_told (Err r) (Err other) e = ap (λ (t : Told). record { number = t.number; value = t.value }) e

pub told_apart : (a b : Answer) → told_of a ≡ told_of b → a ≡ b
told_apart a b e = numbers.told_apart a b (same_told a b e)

-- number 0 tells a count, any other a refusal
pub done_told : (a : Answer) → (told_of a).number ≡ 0 → a ≡ Ok (told_of a).value
done_told (Ok n) e = refl
done_told (Err r) e = let never = told_apart (Err r) (Ok r.place) (ap (λ (n : ℕ). record { number = n; value = r.place }) e) in absurd_eq (cc)

pub refused_told : (a : Answer) → ((told_of a).number ≡ 0 → ⊥) → (why : Refusal) × (place : ℕ) × (a ≡ Err (refused_at why place))
refused_told (Ok n) h = absurd (h refl)
refused_told (Err r) h = (r.why, r.place, refl)

module _ {holds : List ℕ → Outcome (List ℕ) → List ℕ} {o : Outcome (List ℕ)} {before after : List ℕ} {t : Told} (x : Lends told_of holds o before t after) where
  -- the answer that was told
  pub answer_done : t.number ≡ 0 → answered length o ≡ Ok t.value
  answer_done zero =
      done_told (answered length o) (sym (ap (λ (u : Told). u.number) x.told) ∙ zero) ∙ ap Ok (sym (ap (λ (u : Told). u.value) x.told))

  pub outcome_done : t.number ≡ 0 → (xs : List ℕ) × (o ≡ fine xs) × (t.value ≡ length xs)
  outcome_done zero = done_of_lem length o (sym (answer_done zero))

  -- a refusal leaves what was there, if the run's rule says so
  pub unchanged : ((why : Refusal) (place : ℕ) → holds before (refused why place) ≡ before) → (t.number ≡ 0 → ⊥) → after ≡ before
  unchanged same h =
      let r = refused_told (answered length o) (λ z. h (ap (λ (u : Told). u.number) x.told ∙ z)) in
      x.run ∙ ap (holds before) (refused_of length o (sym r.2)) ∙ same r.0 r.1

pub lent_unchanged : (before : List ℕ) (why : Refusal) (place : ℕ) → lent before (refused why place) ≡ before
unfolding lent
lent_unchanged before why place = refl

pub leaves_unchanged : (before : List ℕ) (why : Refusal) (place : ℕ) → leaves before (refused why place) ≡ before
unfolding answered
leaves_unchanged before why place = refused_same before (refused why place) why place refl

-- a list is told by its length where the lent run has room for it, and by NOROOM where it has not
pub room_told : {o : Outcome (List ℕ)} {xs before after : List ℕ} {t : Told} → o ≡ fine xs → Lends told_of lent (within (length before) o) before t after
    → (length xs ≤ length before → t ≡ record { number = 0; value = length xs }) × (length before < length xs → t ≡ record { number = 15; value = 0 })
unfolding answered
room_told {o} {xs} {before} e x =
    let tell : Outcome (List ℕ) → Told = λ z. told_of (answered length z) in
    let is = x.told ∙ ap (λ (z : Outcome (List ℕ)). tell (within (length before) z)) e in
    (λ h. is ∙ ap tell (fine_within (length before) xs h), λ h. is ∙ ap tell (none_within (length before) xs h))

-- THERE AND BACK

-- what stands at the front of the run after a success
front : {o : Outcome (List ℕ)} {before after : List ℕ} {t : Told} → Lends told_of lent (within (length before) o) before t after → t.number ≡ 0
    → (xs : List ℕ) × (o ≡ fine xs) × (take t.value after ≡ xs)
unfolding lent
front {o} {before} x zero =
    let d = outcome_done x zero in
    let xs = d.0 in
    let w = within_fine (length before) o xs d.1 in
    (xs, w.0, ap₂ take (d.2 ∙ sym (zero-add (length xs))) (x.run ∙ ap (lent before) d.1) ∙ take_over before 0 xs (omega arith))

-- a call whose run is handed to the next, which comes back to `list`: where there is room, that is what it tells and leaves
pub there_and_back : {o : Outcome (List ℕ)} (next : List ℕ → Outcome (List ℕ)) (list : List ℕ) {before after run end : List ℕ} {t u : Told}
    → ((xs : List ℕ) → o ≡ fine xs → next xs ≡ fine list)
    → Lends told_of lent (within (length before) o) before t after → t.number ≡ 0
    → Lends told_of lent (within (length run) (next (take t.value after))) run u end → length list ≤ length run
    → (u ≡ told_of (Ok (length list))) × (end ≡ over run 0 list)
unfolding answered lent
there_and_back next list {run = run} back x zero y room =
    let f = front x zero in
    let o = ap (λ (l : List ℕ). within (length run) (next l)) f.2 ∙ ap (within (length run)) (back f.0 f.1) ∙ fine_within (length run) list room in
    (y.told ∙ ap (λ (z : Outcome (List ℕ)). told_of (answered length z)) o, y.run ∙ ap (lent run) o)

-- a call on a lent table whose answer is told
pub table_told : {c : Call} {before after : List Object} {r : Answer} {t : Told} → Applied c before r after → t ≡ told_of r → BwObjects c before t after
table_told x e = record { told = e ∙ ap told_of x.told; table = x.table }
