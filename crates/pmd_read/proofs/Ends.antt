-- What the end of a field's bits was, by what was answered.
use Prim.Native.Nat.{ℕ, ◌+◌, ◌<◌, ◌≤◌}
use mathlib.Core.Path.{◌≡◌}
use mathlib.Core.Bool.{cond}
use lib.Dec.{ltb}
use borrow.Author.Tests.{ltb-true, ltb-false}
use Rattle.std.specs.Prelude.{Ok, Err}
use Rattle.runs.proofs.Cases.{split, absurd_eq}
use Rattle.refusals.specs.Outcomes.{Answer}
use Rattle.refusals.specs.Refusals.{refused_at}
use Rattle.refusals.specs.declared.Refusal.TheVariants as R
use Rattle.refusals.specs.declared.Refused.{Refused}

-- the end of w bits from bit `at` on, of which so many are left
abbrev pub ends : ℕ → ℕ → ℕ → Answer
ends left at w = cond (ltb left w) (Err (refused_at R.Bits at)) (Ok (at + w))

module _ (left at w : ℕ) where
  pub end_was : {end : ℕ} → Ok end ≡ ends left at w → (w ≤ left) × (end ≡ at + w)
  end_was {end} e =
      split (ltb left w)
      (λ l. let no : ◌≡◌ {A = Answer} (Ok end) (Err (refused_at R.Bits at)) = simp l at e in absurd_eq (cc))
      (λ l. let is : ◌≡◌ {A = Answer} (Ok end) (Ok (at + w)) = simp l at e in (ltb-false _ _ l, cc))

  pub end_none : {r : Refused} → Err r ≡ ends left at w → (left < w) × (r ≡ refused_at R.Bits at)
  end_none {r} e =
      split (ltb left w)
      (λ l. let is : ◌≡◌ {A = Answer} (Err r) (Err (refused_at R.Bits at)) = simp l at e in (ltb-true _ _ l, cc))
      (λ l. let no : ◌≡◌ {A = Answer} (Err r) (Ok (at + w)) = simp l at e in absurd_eq (cc))
