-- Trusted. Whether two lists of bytes are the same, byte for byte, and whether a list has a number or a list among its elements.
use Rattle.std.specs.Prelude.{List, [], ◌∷◌, Bool, true, false, cond, ℕ, eqb}

unfoldable pub same : List ℕ → List ℕ → Bool
same [] [] = true
same [] (y ∷ ys) = false
same (x ∷ xs) [] = false
same (x ∷ xs) (y ∷ ys) = cond (eqb x y) (same xs ys) false

unfoldable pub among : ℕ → List ℕ → Bool
among n [] = false
among n (x ∷ xs) = cond (eqb x n) true (among n xs)

unfoldable pub listed : List ℕ → List (List ℕ) → Bool
listed l [] = false
listed l (x ∷ xs) = cond (same x l) true (listed l xs)
