-- Trusted. An array of numbers as cells of so many numbers each.
use Rattle.std.specs.Prelude.{◌≡◌, List, [], ◌∷◌, ◌++◌, ℕ, zero, suc, ◌+◌, ◌*◌, set}
use Rattle.runs.specs.Over.{over}

-- k cells of w numbers, the first at `at`, each as `read` has it
unfoldable pub cells_from : {A : Type 0} → (List ℕ → ℕ → A) → ℕ → ℕ → List ℕ → ℕ → List A
cells_from read w zero s at = []
cells_from read w (suc k) s at = read s at ∷ cells_from read w k s (at + w)

-- the first k cells of an array
abbrev pub cells : {A : Type 0} → (List ℕ → ℕ → A) → ℕ → ℕ → List ℕ → List A
cells read w k s = cells_from read w k s 0

-- the numbers of cells, one after the other, each as `put` has them
unfoldable pub numbers_of : {A : Type 0} → (A → List ℕ) → List A → List ℕ
numbers_of put [] = []
numbers_of put (x ∷ xs) = put x ++ numbers_of put xs

-- what a store into the cell i promises: its numbers stand there and nothing else changes, and so of the cells
pub record Puts {A : Type 0} (read : List ℕ → ℕ → A) (put : A → List ℕ) (w k : ℕ) (before : List ℕ) (i : ℕ) (x : A) (after : List ℕ) : Type 0 where
  pub numbers : after ≡ over before (w * i) (put x)
  pub held : cells read w k after ≡ set (cells read w k before) i x

-- an array is the numbers of its own k cells, and so it holds nothing but what they tell
abbrev pub Own : {A : Type 0} → (List ℕ → ℕ → A) → (A → List ℕ) → ℕ → ℕ → List ℕ → Type 0
Own read put w k s = s ≡ numbers_of put (cells read w k s)
