-- Trusted. The elements of a list that pass a test, and a rule that holds of all of them.
use Rattle.std.specs.Prelude.{List, [], ◌∷◌, Bool, cond}

-- the elements that pass the test, in their order
unfoldable pub those : {A : Type 0} → (A → Bool) → List A → List A
those test [] = []
those test (x ∷ r) = cond (test x) (x ∷ those test r) (those test r)

-- each element obeys the rule
abbrev pub Each : {A : Type 0} → (A → Type 0) → List A → Type 0
Each Rule [] = Unit
Each Rule (x ∷ r) = Rule x × Each Rule r
