-- Signed numbers in two's complement: a sign that was extended to 32 bits is that of the 16, and a sum of two such numbers is exact.
use Prim.Native.Nat.{ℕ, suc, ◌+◌, ◌-◌, ◌%◌, ◌^◌, ◌<◌, ◌≤◌}
use mathlib.Core.Path.{◌≡◌, sym, ap, ap₂, ◌∙◌}
use native.Mathlib.Nat.{mod-lt, mod-eq_of_lt, mod-eq-sub-mod, add_comm}
use native.Mathlib.Omega.{arith}
use borrow.Author.Tests.{lt-ltb, le-ltb, ltb-true, ltb-false}
use lib.Dec.{ltb}
use lib.IntN.{pos, negsuc, sub_ℕ, ◌+ℤ◌}
use Rattle.runs.proofs.Cases.{split}
use Rattle.numbers.specs.Big.{signed, signed32, extended, sum32}

-- BY THE SIGN

pub extended_low : (n : ℕ) → n < 32768 → n ≡ extended n
unfolding extended
extended_low n h = simp (lt-ltb n 32768 h)

pub extended_high : (n : ℕ) → 32768 ≤ n → 4294901760 + n ≡ extended n
unfolding extended
extended_high n h = simp (le-ltb n 32768 h)

pub signed32_low : (n : ℕ) → n < 2 ^ 31 → signed32 n ≡ pos n
unfolding signed32
signed32_low n h = simp (lt-ltb n (2 ^ 31) h)

pub signed32_high : (n : ℕ) → 2 ^ 31 ≤ n → n < 2 ^ 32 → signed32 n ≡ negsuc (2 ^ 32 - suc n)
unfolding signed32
signed32_high n h l = simp (le-ltb n (2 ^ 31) h, lt-ltb n (2 ^ 32) l)

-- a number of 16 bits, by its sign: as it is extended, and as it is read
data Sign (n : ℕ) : Type 0 where
  plus : n < 32768 → extended n ≡ n → signed n ≡ pos n → Sign n
  minus : (k : ℕ) → k < 32768 → extended n ≡ 2 ^ 32 - suc k → signed n ≡ negsuc k → Sign n

sign : (n : ℕ) → n < 65536 → Sign n
unfolding signed
sign n h =
    split (ltb n 32768)
    (λ e. let l : n < 32768 = ltb-true n 32768 e in plus l (sym (extended_low n l)) (simp e))
    (λ e. let l : 32768 ≤ n = ltb-false n 32768 e in
    minus (65536 - suc n) (omega arith) (sym (extended_high n l) ∙ omega arith) (simp (e, lt-ltb n 65536 h)))

-- THE SUM

sum_small : (a b : ℕ) → a + b < 2 ^ 32 → sum32 a b ≡ a + b
unfolding sum32
sum_small a b h = mod-eq_of_lt h

sum_wraps : (a b : ℕ) → 2 ^ 32 ≤ a + b → a + b < 2 ^ 33 → sum32 a b ≡ a + b - 2 ^ 32
unfolding sum32
sum_wraps a b h l = mod-eq-sub-mod h ∙ mod-eq_of_lt (omega arith)

sum_comm : (a b : ℕ) → sum32 a b ≡ sum32 b a
unfolding sum32
sum_comm a b = ap (λ (n : ℕ). n % 2 ^ 32) (add_comm a b)

-- a number from 0 up and one below 0
mixed : (a k : ℕ) → a < 32768 → k < 32768 → signed32 (sum32 a (2 ^ 32 - suc k)) ≡ sub_ℕ a (suc k)
mixed a k h l =
    split (ltb a (suc k))
    (λ e. let less : a < suc k = ltb-true a (suc k) e in
    let n = a + (2 ^ 32 - suc k) in
    let z : 2 ^ 32 - suc n ≡ suc k - suc a = omega arith in
    ap signed32 (sum_small a (2 ^ 32 - suc k) (omega arith)) ∙ signed32_high n (omega arith) (omega arith) ∙ ap negsuc z ∙ sym (simp e))
    (λ e. let more : suc k ≤ a = ltb-false a (suc k) e in
    let z : a + (2 ^ 32 - suc k) - 2 ^ 32 ≡ a - suc k = omega arith in
    ap signed32 (sum_wraps a (2 ^ 32 - suc k) (omega arith) (omega arith) ∙ z) ∙ signed32_low (a - suc k) (omega arith) ∙ sym (simp e))

-- both below 0
below : (j k : ℕ) → j < 32768 → k < 32768 → signed32 (sum32 (2 ^ 32 - suc j) (2 ^ 32 - suc k)) ≡ negsuc (suc (j + k))
below j k h l =
    let n = 2 ^ 32 - suc (suc (j + k)) in
    let a : 2 ^ 32 - suc j + (2 ^ 32 - suc k) - 2 ^ 32 ≡ n = omega arith in
    let z : 2 ^ 32 - suc n ≡ suc (j + k) = omega arith in
    ap signed32 (sum_wraps (2 ^ 32 - suc j) (2 ^ 32 - suc k) (omega arith) (omega arith) ∙ a) ∙ signed32_high n (omega arith) (omega arith) ∙ ap negsuc z

by_signs : (m n : ℕ) → Sign m → Sign n → signed32 (sum32 (extended m) (extended n)) ≡ signed m +ℤ signed n
by_signs m n (plus h a x) (plus l b y) =
    ap₂ (λ (u v : ℕ). signed32 (sum32 u v)) a b ∙ ap signed32 (sum_small m n (omega arith)) ∙ signed32_low (m + n) (omega arith) ∙ sym (ap₂ ◌+ℤ◌ x y)
by_signs m n (plus h a x) (minus k l b y) = ap₂ (λ (u v : ℕ). signed32 (sum32 u v)) a b ∙ mixed m k h l ∙ sym (ap₂ ◌+ℤ◌ x y)
by_signs m n (minus j h a x) (plus l b y) =
    ap₂ (λ (u v : ℕ). signed32 (sum32 u v)) a b ∙ ap signed32 (sum_comm (2 ^ 32 - suc j) n) ∙ mixed n j l h ∙ sym (ap₂ ◌+ℤ◌ x y)
by_signs m n (minus j h a x) (minus k l b y) = ap₂ (λ (u v : ℕ). signed32 (sum32 u v)) a b ∙ below j k h l ∙ sym (ap₂ ◌+ℤ◌ x y)

-- AS NUMBERS

pub extended_lt : (n : ℕ) → n < 65536 → extended n < 2 ^ 32
extended_lt n h = fits (sign n h)
  where
    fits : Sign n → extended n < 2 ^ 32
    fits (plus l a x) = omega (arith, a)
    fits (minus k l a x) = omega (arith, a)

pub sum_lt : (a b : ℕ) → sum32 a b < 2 ^ 32
unfolding sum32
sum_lt a b = mod-lt (a + b) (omega arith)

pub extended_exact : (n : ℕ) → n < 65536 → signed32 (extended n) ≡ signed n
extended_exact n h = alone (sign n h)
  where
    alone : Sign n → signed32 (extended n) ≡ signed n
    alone (plus l a x) = ap signed32 a ∙ signed32_low n (omega arith) ∙ sym x
    alone (minus k l a x) =
        let z : 2 ^ 32 - suc (2 ^ 32 - suc k) ≡ k = omega arith in
        ap signed32 a ∙ signed32_high (2 ^ 32 - suc k) (omega arith) (omega arith) ∙ ap negsuc z ∙ sym x

pub sum_exact : (m n : ℕ) → m < 65536 → n < 65536 → signed32 (sum32 (extended m) (extended n)) ≡ signed m +ℤ signed n
sum_exact m n h l = by_signs m n (sign m h) (sign n l)
