-- Lists whose elements are below a bound.
use mathlib.Core.Path.{sym, subst}
use mathlib.Core.List.{List, [], ◌∷◌, ◌++◌}
use Prim.Native.Nat.{ℕ, zero, suc, ◌+◌, ◌<◌}
use native.Mathlib.Omega.{arith}
use lib.ListN.{take, drop}
use lib.Seq.{get_or-drop}
use Rattle.runs.specs.Digits.{Below}

pub below_none : (b : ℕ) → 0 < b → Below b []
below_none b p i = p

pub below_cons : (b x : ℕ) (xs : List ℕ) → x < b → Below b xs → Below b (x ∷ xs)
below_cons b x xs h g zero = h
below_cons b x xs h g (suc i) = g i

pub below_append : (b : ℕ) (xs ys : List ℕ) → Below b xs → Below b ys → Below b (xs ++ ys)
below_append b [] ys h g k = g k
below_append b (x ∷ xs) ys h g zero = h 0
below_append b (x ∷ xs) ys h g (suc k) = below_append b xs ys (λ i. h (suc i)) g k

pub below_take : (b n : ℕ) (xs : List ℕ) → Below b xs → Below b (take n xs)
below_take b zero xs h k = omega (arith, h k)
below_take b (suc n) [] h k = h k
below_take b (suc n) (x ∷ xs) h zero = h 0
below_take b (suc n) (x ∷ xs) h (suc k) = below_take b n xs (λ i. h (suc i)) k

pub below_drop : (b n : ℕ) (xs : List ℕ) → Below b xs → Below b (drop n xs)
below_drop b n xs h k = subst (λ (x : ℕ). x < b) (sym (get_or-drop n xs k 0)) (h (n + k))

pub below_part : (b at n : ℕ) (xs : List ℕ) → Below b xs → Below b (take n (drop at xs))
below_part b at n xs h = below_take b n (drop at xs) (below_drop b at xs h)
