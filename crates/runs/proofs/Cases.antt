-- By cases on a test, and what follows from two constructors that are told equal.
use Prim.Native.Nat.{ℕ, ◌<◌, ◌≤◌}
use mathlib.Core.Path.{◌≡◌, refl, sym, ◌∙◌}
use mathlib.Core.Bool.{Bool, true, false}
use mathlib.Core.Logic.{◌⊎◌, inl, inr}
use native.Mathlib.Omega.{arith}
use lib.Dec.{ltb}
use borrow.Author.Tests.{ltb-true, ltb-false}

pub split : {P : Type 0} (b : Bool) → (b ≡ true → P) → (b ≡ false → P) → P
split true t f = t refl
split false t f = f refl

-- `cc` proves 0 ≡ 1 from an equation between two constructors
pub absurd_eq : {P : Type 0} → ◌≡◌ {A = ℕ} 0 1 → P
absurd_eq z = absurd (omega arith)

-- a test is not both
pub never : {P : Type 0} {b : Bool} → b ≡ true → b ≡ false → P
never e f = let z : true ≡ false = sym e ∙ f in absurd_eq (cc)

pub lt_or_ge : (m n : ℕ) → (m < n) ⊎ (n ≤ m)
lt_or_ge m n = split (ltb m n) (λ e. inl (ltb-true m n e)) (λ e. inr (ltb-false m n e))

-- two outcomes that meet the same equation coincide
pub one : {A : Type 0} {x y z : A} → x ≡ z → y ≡ z → x ≡ y
one p q = p ∙ sym q
