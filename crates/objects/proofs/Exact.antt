-- When an AOD is refused as FULL, and what an XYZ is answered: its count, or the first record that is at fault.
use mathlib.Core.Path.{◌≡◌, refl, ap}
use mathlib.Core.Logic.{◌↔◌}
use mathlib.Core.List.{List, map}
use mathlib.Core.Bool.{Bool, true, false}
use Prim.Native.Nat.{ℕ, ◌≤◌, ◌<◌}
use native.Mathlib.Omega.{arith}
use lib.ListN.{length}
use lib.Dec.{ltb}
use borrow.Author.Tests.{ltb-true, ltb-false}
use Rattle.std.specs.Prelude.{Ok, Err}
use Rattle.runs.specs.Those.{Each}
use Rattle.runs.specs.Finding.{count}
use Rattle.runs.proofs.Cases.{split, never, absurd_eq}
use Rattle.runs.proofs.Those.{each_on}
use Rattle.runs.proofs.Tallies.{distinct_tally}
use Rattle.refusals.specs.declared.Refusal.TheVariants as R
use Rattle.refusals.specs.Outcomes.{Answer}
use Rattle.refusals.specs.Refusals.{refused_at}
use Rattle.refusals.specs.declared.Refused.{Refused}
use Rattle.objects.specs.declared.Object.{Object}
use Rattle.objects.specs.declared.Aod.{Aod}
use Rattle.objects.specs.Entries.{free, named}
use Rattle.objects.specs.Table.{judged}
use Rattle.objects.specs.Calls.{aod, fresh, verdict, answer}
use Rattle.objects.specs.Meanings.{newcomers}

-- the new elements, counted with no order
pub fresh_newcomers : (has : ℕ → Object) (rs : List Aod) → Each (λ (r : Aod). r.element < 4096) rs → length (fresh has rs) ≡ newcomers has rs
unfolding fresh newcomers
fresh_newcomers has rs h =
    distinct_tally (λ (n : ℕ). free (has n)) 4096 (map (λ (r : Aod). r.element) rs)
    (each_on (λ (n : ℕ). n < 4096) (λ (r : Aod). r.element) rs h)

-- FULL exactly when the new elements exceed the free slots
module _ (good : Object → Bool) (rs : List Aod) (t : List Object) where
  abbrev pub more : ℕ
  more = length (fresh (named t) rs)

  by_cases : (P : Answer → Type 0) → (judged good t ≡ false → P (Err (refused_at R.Table 0)))
      → (judged good t ≡ true → count free t < more → P (Err (refused_at R.Full 0))) → (more ≤ count free t → P (Ok (length rs)))
      → P (answer good (aod rs) t)
  unfolding answer verdict
  by_cases P b d e =
      split (judged good t)
      (λ j. split (ltb (count free t) more) (λ l. rw (j, l) (d j (ltb-true (count free t) more l)))
      (λ l. rw (j, l) (e (ltb-false (count free t) more l))))
      (λ j. rw j (b j))

  pub fulls : (answer good (aod rs) t ≡ Err (refused_at R.Full 0)) ↔ ((judged good t ≡ true) × (count free t < more))
  fulls = (there, back)
    where
      there : answer good (aod rs) t ≡ Err (refused_at R.Full 0) → (judged good t ≡ true) × (count free t < more)
      there =
          by_cases (λ (x : Answer). x ≡ Err (refused_at R.Full 0) → (judged good t ≡ true) × (count free t < more))
          (λ j h. let same : refused_at R.Table 0 ≡ refused_at R.Full 0 = cc in let why = ap (λ (x : Refused). x.why) same in absurd_eq (cc))
          (λ j l h. (j, l)) (λ l h. absurd_eq (cc))

      back : (judged good t ≡ true) × (count free t < more) → answer good (aod rs) t ≡ Err (refused_at R.Full 0)
      back h =
          by_cases (λ (x : Answer). x ≡ Err (refused_at R.Full 0)) (λ j. never h.0 j) (λ j l. refl) (λ l. absurd (omega (arith, h.1)))
