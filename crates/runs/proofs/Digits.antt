-- Laws of digits, for every base.
use mathlib.Core.Path.{◌≡◌, refl, sym, ap, ap₂, ◌∙◌, subst}
use mathlib.Core.List.{List, [], ◌∷◌, ◌++◌}
use Prim.Native.Nat.{ℕ, zero, suc, ◌+◌, ◌-◌, ◌*◌, ◌/◌, ◌%◌, ◌^◌, ◌<◌, ◌≤◌}
use native.Mathlib.Nat.{mod-lt, mod-one, mod-eq_of_lt, mul_assoc, mul_comm, mul-one, mul-zero, mul-suc, add_assoc, add_comm, add-mul, add-zero, zero-add, suc-add, zero-mul, pow-zero, pow-suc, pow-le-pow_right, one-le-pow, lt_of_lt_of_le, zero-div, zero-mod, div-div-eq-div-mul, div-add-mod', add-mul-div_right, mul-add-mod_self_right, le_refl}
use native.Mathlib.Omega.{arith}
use lib.Arith.{digits_lt, digits_div, mod-mul}
use lib.ListN.{length, replicate}
use lib.Pow.{pow-add}
use Rattle.runs.specs.Digits.{digits, number_from, number, Below}

pub length_digits : (b k n : ℕ) → length (digits b k n) ≡ k
unfolding digits
length_digits b zero n = refl
length_digits b (suc k) n = ap suc (length_digits b k n)

pub power_pos : (b k : ℕ) → 0 < b → 0 < b ^ k
power_pos b k h = one-le-pow k b h

-- a power of a power of two
pub power_power : (w k : ℕ) → (2 ^ w) ^ k ≡ 2 ^ (w * k)
power_power w zero = pow-zero (2 ^ w) ∙ sym (ap (λ (x : ℕ). 2 ^ x) (mul-zero w) ∙ pow-zero 2)
power_power w (suc k) = pow-suc (2 ^ w) k ∙ ap (λ (x : ℕ). x * 2 ^ w) (power_power w k) ∙ sym (ap (λ (x : ℕ). 2 ^ x) (mul-suc w k) ∙ pow-add 2 (w * k) w)

pub digits_below : (b k n : ℕ) → 0 < b → Below b (digits b k n)
unfolding digits
digits_below b zero n h i = h
digits_below b (suc k) n h zero = mod-lt (n / b ^ k) h
digits_below b (suc k) n h (suc i) = digits_below b k n h i

-- the digits above and the digits below
pub digits_add : (b m n v : ℕ) → digits b (m + n) v ≡ digits b m (v / b ^ n) ++ digits b n v
unfolding digits
digits_add b zero n v = ap (λ (x : ℕ). digits b x v) (zero-add n)
digits_add b (suc m) n v =
    ap (λ (x : ℕ). digits b x v) (suc-add m n)
    ∙ ap₂ (λ (x : ℕ) (l : List ℕ). x % b ∷ l)
    (ap (λ (x : ℕ). v / x) (ap (λ (x : ℕ). b ^ x) (add_comm m n) ∙ pow-add b n m) ∙ sym (div-div-eq-div-mul v (b ^ n) (b ^ m)))
    (digits_add b m n v)

-- what stands above the digits that are looked at changes nothing
digit_under : (b k d a r : ℕ) → 0 < b → (a * b ^ (k + suc d) + r) / b ^ k % b ≡ r / b ^ k % b
digit_under b k d a r p =
    ap (λ (x : ℕ). (x + r) / b ^ k % b)
    (ap (λ (x : ℕ). a * x) (pow-add b k (suc d) ∙ mul_comm (b ^ k) (b ^ suc d)) ∙ sym (mul_assoc a (b ^ suc d) (b ^ k)))
    ∙ ap (λ (x : ℕ). x / b ^ k % b) (add_comm (a * b ^ suc d * b ^ k) r)
    ∙ ap (λ (x : ℕ). x % b)
    (add-mul-div_right r (a * b ^ suc d) (power_pos b k p) ∙ add_comm (r / b ^ k) (a * b ^ suc d)
    ∙ ap (λ (x : ℕ). x + r / b ^ k) (ap (λ (x : ℕ). a * x) (pow-suc b d) ∙ sym (mul_assoc a (b ^ d) b)))
    ∙ mul-add-mod_self_right (a * b ^ d) b (r / b ^ k)

digits_under : (b k n a r : ℕ) → 0 < b → k ≤ n → digits b k (a * b ^ n + r) ≡ digits b k r
unfolding digits
digits_under b zero n a r p h = refl
digits_under b (suc k) n a r p h =
    ap₂ (λ (x : ℕ) (l : List ℕ). x ∷ l)
    (ap (λ (m : ℕ). (a * b ^ m + r) / b ^ k % b) (let e : n ≡ k + suc (n - suc k) = omega arith in e) ∙ digit_under b k (n - suc k) a r p)
    (digits_under b k n a r p (omega arith))

pub digits_low : (b k a r : ℕ) → 0 < b → digits b k (a * b ^ k + r) ≡ digits b k r
digits_low b k a r p = digits_under b k k a r p (le_refl k)

-- the digits of the remainder
pub digits_rem : (b k v : ℕ) → 0 < b → digits b k (v % b ^ k) ≡ digits b k v
digits_rem b k v p = sym (digits_low b k (v / b ^ k) (v % b ^ k) p) ∙ ap (digits b k) (div-add-mod' v (b ^ k))

-- the digits of 0
pub digits_zero : (b k : ℕ) → digits b k 0 ≡ replicate k 0
unfolding digits
digits_zero b zero = refl
digits_zero b (suc k) = ap₂ (λ (x : ℕ) (l : List ℕ). x ∷ l) (ap (λ (x : ℕ). x % b) (zero-div (b ^ k)) ∙ zero-mod b) (digits_zero b k)

-- the digits of a number and, below them, of another
pub digits_join : (b m n a v : ℕ) → 0 < b → v < b ^ n → digits b (m + n) (a * b ^ n + v) ≡ digits b m a ++ digits b n v
digits_join b m n a v p h = digits_add b m n (a * b ^ n + v) ∙ ap₂ (λ (x y : List ℕ). x ++ y) (ap (digits b m) (digits_div a h)) (digits_low b n a v p)

-- the number of a number's digits
pub number_digits : (b a k v : ℕ) → 0 < b → number_from b a (digits b k v) ≡ a * b ^ k + v % b ^ k
unfolding digits number_from
number_digits b a zero v p = sym (ap (λ (x : ℕ). a * x + v % x) (pow-zero b) ∙ ap₂ (λ (x y : ℕ). x + y) (mul-one a) (mod-one v) ∙ add-zero a)
number_digits b a (suc k) v p =
    let d = v / b ^ k % b in
    number_digits b (a * b + d) k v p
    ∙ ap (λ (x : ℕ). x + v % b ^ k) (add-mul (a * b) d (b ^ k))
    ∙ add_assoc (a * b * b ^ k) (d * b ^ k) (v % b ^ k)
    ∙ ap₂ (λ (x y : ℕ). x + y) (mul_assoc a b (b ^ k) ∙ ap (λ (x : ℕ). a * x) (mul_comm b (b ^ k) ∙ sym (pow-suc b k)))
    (sym (ap (λ (x : ℕ). v % x) (pow-suc b k ∙ mul_comm (b ^ k) b) ∙ mod-mul v p (power_pos b k p)))

pub number_of : (b k v : ℕ) → 0 < b → v < b ^ k → number b (digits b k v) ≡ v
number_of b k v p h = number_digits b 0 k v p ∙ ap₂ (λ (x y : ℕ). x + y) (zero-mul (b ^ k)) (mod-eq_of_lt h) ∙ zero-add v

pub number_append : (b a : ℕ) (xs ys : List ℕ) → number_from b a (xs ++ ys) ≡ number_from b (number_from b a xs) ys
unfolding number_from
number_append b a [] ys = refl
number_append b a (x ∷ xs) ys = number_append b (a * b + x) xs ys

-- what stands before a run of digits is moved up by their count
pub number_after : (b a : ℕ) (ds : List ℕ) → number_from b a ds ≡ a * b ^ length ds + number b ds
unfolding number_from
number_after b a [] = sym (add-zero (a * b ^ 0) ∙ ap (λ (x : ℕ). a * x) (pow-zero b) ∙ mul-one a)
number_after b a (d ∷ ds) =
    let p = b ^ length ds in
    number_after b (a * b + d) ds
    ∙ ap (λ (x : ℕ). x + number b ds) (add-mul (a * b) d p ∙ ap (λ (x : ℕ). x + d * p) (mul_assoc a b p ∙ ap (λ (x : ℕ). a * x) (mul_comm b p ∙ sym (pow-suc b (length ds)))))
    ∙ add_assoc (a * b ^ suc (length ds)) (d * p) (number b ds)
    ∙ ap (λ (x : ℕ). a * b ^ suc (length ds) + x)
    (sym (number_after b (0 * b + d) ds ∙ ap (λ (x : ℕ). x * p + number b ds) (ap (λ (x : ℕ). x + d) (zero-mul b) ∙ zero-add d)))

-- a run of k digits is below the k-th power
pub number_below : (b k a : ℕ) (ds : List ℕ) → Below b ds → a < b ^ k → number_from b a ds < b ^ (k + length ds)
unfolding number_from
number_below b k a [] h l = subst (λ (n : ℕ). a < b ^ n) (sym (add-zero k)) l
number_below b k a (d ∷ ds) h l =
    let more : a * b + d < b ^ suc k = subst (λ (n : ℕ). a * b + d < n) (sym (pow-suc b k)) (digits_lt l (h 0)) in
    subst (λ (n : ℕ). number_from b (a * b + d) ds < b ^ n) (let e : suc k + length ds ≡ k + suc (length ds) = omega arith in e)
    (number_below b (suc k) (a * b + d) ds (λ i. h (suc i)) more)

pub number_lt : (b : ℕ) (ds : List ℕ) → 0 < b → Below b ds → number b ds < b ^ length ds
number_lt b ds p h = subst (λ (n : ℕ). number b ds < b ^ n) (zero-add (length ds)) (number_below b 0 0 ds h (power_pos b 0 p))

-- the digits of the number of a run of digits
pub digits_number : (b a : ℕ) (ds : List ℕ) → 0 < b → Below b ds → digits b (length ds) (number_from b a ds) ≡ ds
unfolding digits number_from
digits_number b a [] p h = refl
digits_number b a (d ∷ ds) p h =
    let q = b ^ length ds in
    let n = number b ds in
    let below : n < q = number_lt b ds p (λ i. h (suc i)) in
    let e : number_from b (a * b + d) ds ≡ (a * b + d) * q + n = number_after b (a * b + d) ds in
    ap₂ (λ (x : ℕ) (l : List ℕ). x ∷ l)
    (ap (λ (x : ℕ). x / q % b) e ∙ ap (λ (x : ℕ). x % b) (digits_div (a * b + d) below) ∙ mul-add-mod_self_right a b d ∙ mod-eq_of_lt (h 0))
    (digits_number b (a * b + d) ds p (λ i. h (suc i)))

-- one digit more
pub one_more : (b k n d : ℕ) → n < b ^ k → d < b → n * b + d < b ^ suc k
one_more b k n d h g = subst (λ (m : ℕ). n * b + d < m) (sym (pow-suc b k)) (digits_lt h g)

pub more_digits : (b : ℕ) {k m n : ℕ} → 0 < b → k ≤ m → n < b ^ k → n < b ^ m
more_digits b p h g = lt_of_lt_of_le g (pow-le-pow_right p h)
