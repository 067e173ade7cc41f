-- An array that is the numbers of its own cells: one of zeros is, it stays one when a cell's numbers are stored, and no two have the same cells.
use mathlib.Core.Path.{◌≡◌, sym, ap, ap₂, ◌∙◌}
use mathlib.Core.List.{List, [], ◌∷◌, ◌++◌, append_assoc}
use Prim.Native.Nat.{ℕ, zero, suc, ◌+◌, ◌*◌, ◌<◌, ◌≤◌}
use native.Mathlib.Nat.{mul-zero, mul-suc}
use native.Mathlib.Omega.{arith}
use lib.ListN.{length, take, drop, set, replicate, replicate-append-replicate}
use lib.Seq.{drop_at, take-append-add, drop-append-add, drop-drop, take-add, take_all}
use Rattle.runs.specs.Over.{over}
use Rattle.runs.specs.Cells.{cells_from, cells, numbers_of, Puts, Own}
use Rattle.runs.proofs.Cells.{Local, length_cells, cells_put}

-- a run into what stands behind a front
over_behind : (xs ys zs : List ℕ) (a : ℕ) → over (xs ++ ys) (length xs + a) zs ≡ xs ++ over ys a zs
unfolding over
over_behind xs ys zs a =
    let e : length xs + a + length zs ≡ length xs + (a + length zs) = omega arith in
    ap₂ (λ (p q : List ℕ). p ++ (zs ++ q)) (take-append-add xs ys a) (ap (λ (n : ℕ). drop n (xs ++ ys)) e ∙ drop-append-add xs ys (a + length zs))
    ∙ append_assoc xs (take a ys) (zs ++ drop (a + length zs) ys)

module _ {A : Type 0} (put : A → List ℕ) (w : ℕ) where
  -- the numbers of a cell of zeros again and again
  numbers_none : (k : ℕ) (d : A) → put d ≡ replicate w 0 → numbers_of put (replicate k d) ≡ replicate (w * k) 0
  unfolding numbers_of
  numbers_none zero d e = ap (λ (n : ℕ). replicate n 0) (sym (mul-zero w))
  numbers_none (suc k) d e =
      let m = mul-suc w k in
      let n : w + w * k ≡ w * suc k = omega arith in
      ap₂ (λ (p q : List ℕ). p ++ q) e (numbers_none k d e) ∙ replicate-append-replicate w (w * k) 0 ∙ ap (λ (n : ℕ). replicate n 0) n

  module _ (wide : (x : A) → length (put x) ≡ w) where
    -- those of a cell in the place of another's
    numbers_set : (xs : List A) (n : ℕ) (x : A) → n < length xs → numbers_of put (set xs n x) ≡ over (numbers_of put xs) (w * n) (put x)
    unfolding numbers_of over
    numbers_set [] n x h = absurd (omega arith)
    numbers_set (y ∷ xs) zero x h =
        let z = mul-zero w in
        let l = wide x in
        let e : w * 0 + length (put x) ≡ w = omega arith in
        sym (ap₂ (λ (p q : List ℕ). p ++ (put x ++ q)) (ap (λ (n : ℕ). take n (put y ++ numbers_of put xs)) z)
        (ap (λ (n : ℕ). drop n (put y ++ numbers_of put xs)) e ∙ drop_at (put y) (numbers_of put xs) w (wide y)))
    numbers_set (y ∷ xs) (suc n) x h =
        let m = mul-suc w n in
        let l = wide y in
        let e : length (put y) + w * n ≡ w * suc n = omega arith in
        ap (λ (r : List ℕ). put y ++ r) (numbers_set xs n x (omega arith))
        ∙ sym (ap (λ (i : ℕ). over (put y ++ numbers_of put xs) i (put x)) (sym e) ∙ over_behind (put y) (numbers_of put xs) (put x) (w * n))

module _ {A : Type 0} (read : List ℕ → ℕ → A) (put : A → List ℕ) (w k : ℕ) where
  -- an array of zeros, where that is what a cell that holds nothing is
  pub own_none : (d : A) → put d ≡ replicate w 0 → cells read w k (replicate (w * k) 0) ≡ replicate k d → Own read put w k (replicate (w * k) 0)
  own_none d e c = sym (ap (numbers_of put) c ∙ numbers_none put w k d e)

  -- a store of numbers from which the cell is read back
  pub puts : Local read w → (s : List ℕ) → w * k ≤ length s → (n : ℕ) → n < k → (x : A) → length (put x) ≡ w → read (put x) 0 ≡ x → {r : List ℕ} → r ≡ over s (w * n) (put x)
      → Puts read put w k s n x r
  puts near s long n h x wide back e =
      record { numbers = e; held = ap (cells read w k) e ∙ cells_put read w near k s long n h (put x) wide x ∙ ap (set (cells read w k s) n) back }

  -- such a store into an array that is the numbers of its own cells
  pub own_put : ((x : A) → length (put x) ≡ w) → {s r : List ℕ} {n : ℕ} {x : A} → n < k → Puts read put w k s n x r → Own read put w k s → Own read put w k r
  own_put wide {s} {r} {n} {x} h p o =
      let l = length_cells read w k s in
      p.numbers ∙ ap (λ (t : List ℕ). over t (w * n) (put x)) o
      ∙ sym (ap (numbers_of put) p.held ∙ numbers_set put w wide (cells read w k s) n x (omega arith))

  -- the same cells are the same array
  pub own_one : {s t : List ℕ} → Own read put w k s → Own read put w k t → cells read w k s ≡ cells read w k t → s ≡ t
  own_one p q c = p ∙ ap (numbers_of put) c ∙ sym q

-- where what is read of a cell tells all its numbers, an array of so many cells is the numbers of its own
module _ {A : Type 0} (read : List ℕ → ℕ → A) (put : A → List ℕ) (w : ℕ) (here : (s : List ℕ) (at : ℕ) → at + w ≤ length s → put (read s at) ≡ take w (drop at s)) where
  numbers_cells : (k : ℕ) (s : List ℕ) (at : ℕ) → at + w * k ≤ length s → numbers_of put (cells_from read w k s at) ≡ take (w * k) (drop at s)
  unfolding numbers_of cells_from
  numbers_cells zero s at h = ap (λ (n : ℕ). take n (drop at s)) (sym (mul-zero w))
  numbers_cells (suc k) s at h =
      let m = mul-suc w k in
      let e : w + w * k ≡ w * suc k = omega arith in
      ap₂ (λ (p q : List ℕ). p ++ q) (here s at (omega arith)) (numbers_cells k s (at + w) (omega arith) ∙ ap (take (w * k)) (sym (drop-drop w at s)))
      ∙ sym (take-add w (w * k) (drop at s))
      ∙ ap (λ (n : ℕ). take n (drop at s)) e

  pub own_all : (k : ℕ) (s : List ℕ) → length s ≡ w * k → Own read put w k s
  own_all k s l = sym (numbers_cells k s 0 (omega arith) ∙ take_all (w * k) s (omega arith))
