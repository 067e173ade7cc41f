-- The entries of a run of labels or numbers, one by one: what the next one decides.
use mathlib.Core.Path.{◌≡◌, ap, ap₂, ◌∙◌}
use mathlib.Core.List.{List, ◌∷◌}
use mathlib.Core.Bool.{Bool, true, false, cond, not, ◌&&◌}
use Prim.Native.Nat.{ℕ, zero, suc, ◌+◌, ◌-◌, ◌*◌, ◌^◌, ◌<◌, ◌≤◌}
use native.Mathlib.Omega.{arith}
use lib.Dec.{ltb, leb, eqb}
use lib.ListN.{take, drop}
use borrow.Author.Tests.{lt-ltb, le-ltb}
use Rattle.runs.specs.Same.{same, among, listed}
use Rattle.numbers.specs.Big.{big_at}
use Rattle.pack.specs.Fixed.{utility_labels}
use Rattle.scrub_kept.specs.Sheet.{labels_at, numbers_at, labels_good, numbers_good}

labels_next : (s : List ℕ) (at n : ℕ) → 0 < n → labels_at s at n ≡ take 16 (drop at s) ∷ labels_at s (at + 16) (n - 1)
unfolding labels_at
labels_next s at zero h = absurd (omega arith)
labels_next s at (suc n) h = ap (λ (k : ℕ). take 16 (drop at s) ∷ labels_at s (at + 16) k) (let z : n ≡ suc n - 1 = omega arith in z)

numbers_next : (s : List ℕ) (at n : ℕ) → 0 < n → numbers_at s at n ≡ big_at s at 4 ∷ numbers_at s (at + 4) (n - 1)
unfolding numbers_at
numbers_next s at zero h = absurd (omega arith)
numbers_next s at (suc n) h = ap (λ (k : ℕ). big_at s at 4 ∷ numbers_at s (at + 4) k) (let z : n ≡ suc n - 1 = omega arith in z)

-- of n entries from `at` on the entry k
module _ (s : List ℕ) (at n k : ℕ) (h : k < n) where
  labels_after : labels_at s (at + 16 * k + 16) (n - k - 1) ≡ labels_at s (at + 16 * (k + 1)) (n - (k + 1))
  labels_after =
      let e : at + 16 * k + 16 ≡ at + 16 * (k + 1) = omega arith in
      let f : n - k - 1 ≡ n - (k + 1) = omega arith in
      ap₂ (labels_at s) e f

  numbers_after : numbers_at s (at + 4 * k + 4) (n - k - 1) ≡ numbers_at s (at + 4 * (k + 1)) (n - (k + 1))
  numbers_after =
      let e : at + 4 * k + 4 ≡ at + 4 * (k + 1) = omega arith in
      let f : n - k - 1 ≡ n - (k + 1) = omega arith in
      ap₂ (numbers_at s) e f

  label_here : labels_at s (at + 16 * k) (n - k) ≡ take 16 (drop (at + 16 * k) s) ∷ labels_at s (at + 16 * (k + 1)) (n - (k + 1))
  label_here = labels_next s (at + 16 * k) (n - k) (omega arith) ∙ ap (λ (l : List (List ℕ)). take 16 (drop (at + 16 * k) s) ∷ l) labels_after

  pub number_here : numbers_at s (at + 4 * k) (n - k) ≡ big_at s (at + 4 * k) 4 ∷ numbers_at s (at + 4 * (k + 1)) (n - (k + 1))
  number_here = numbers_next s (at + 4 * k) (n - k) (omega arith) ∙ ap (λ (l : List ℕ). big_at s (at + 4 * k) 4 ∷ l) numbers_after

  -- is sought
  pub label_sought : (l : List ℕ) {b : Bool} → same (take 16 (drop (at + 16 * k) s)) l ≡ b
      → listed l (labels_at s (at + 16 * k) (n - k)) ≡ cond b true (listed l (labels_at s (at + 16 * (k + 1)) (n - (k + 1))))
  unfolding listed
  label_sought l e = rw (label_here, e)

  pub number_sought : (t : ℕ) {b : Bool} → eqb (big_at s (at + 4 * k) 4) t ≡ b
      → among t (numbers_at s (at + 4 * k) (n - k)) ≡ cond b true (among t (numbers_at s (at + 4 * (k + 1)) (n - (k + 1))))
  unfolding among
  number_sought t e = rw (number_here, e)

  -- is judged
  pub label_judged : {u again : Bool} → listed (take 16 (drop (at + 16 * k) s)) utility_labels ≡ u
      → listed (take 16 (drop (at + 16 * k) s)) (labels_at s (at + 16 * k + 16) (n - k - 1)) ≡ again
      → labels_good (labels_at s (at + 16 * k) (n - k)) ≡ not u && (not again && labels_good (labels_at s (at + 16 * (k + 1)) (n - (k + 1))))
  unfolding labels_good
  label_judged e f = rw (label_here, e, ← labels_after, f)

  pub number_judged : {t : ℕ} {low high again : Bool} → t ≡ big_at s (at + 4 * k) 4 → leb 4 t ≡ low → ltb t (128 ^ 4) ≡ high
      → among t (numbers_at s (at + 4 * k + 4) (n - k - 1)) ≡ again
      → numbers_good (numbers_at s (at + 4 * k) (n - k)) ≡ low && (high && (not again && numbers_good (numbers_at s (at + 4 * (k + 1)) (n - (k + 1)))))
  unfolding numbers_good
  number_judged e a b f = rw (number_here, ← e, a, b, ← numbers_after, f)

-- the most that a number may be
pub number_small : (t : ℕ) → t ≤ 268435455 → ltb t (128 ^ 4) ≡ true
number_small t h = lt-ltb t (128 ^ 4) (omega arith)

pub number_large : (t : ℕ) → 268435455 < t → ltb t (128 ^ 4) ≡ false
number_large t h = le-ltb t (128 ^ 4) (omega arith)
