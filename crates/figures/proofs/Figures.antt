-- Numbers as text: decimal digits, an integer of 16 bits, hex digits.
use mathlib.Core.Path.{◌≡◌, refl, sym, ap, ap₂, ◌∙◌, subst}
use mathlib.Core.List.{List, [], ◌∷◌, ◌++◌, map}
use Prim.Native.Nat.{ℕ, zero, suc, ◌+◌, ◌-◌, ◌*◌, ◌/◌, ◌%◌, ◌^◌, ◌<◌, ◌≤◌}
use native.Mathlib.Nat.{pow-zero, pow-suc, mul_comm, div-one, div-div-eq-div-mul}
use native.Mathlib.Numerals.{add-one}
use native.Mathlib.Omega.{arith}
use lib.Dec.{ltb}
use lib.ListN.{length, get_or, drop, set, length-map, drop_of_length-le}
use lib.Seq.{drop-cons}
use Rattle.runs.specs.Digits.{digits, number}
use Rattle.runs.specs.Over.{over}
use Rattle.runs.proofs.Over.{over_nil, over_before}
use Rattle.runs.proofs.Cases.{split}
use Rattle.runs.proofs.Digits.{length_digits, number_of}
use Rattle.runs.proofs.Writing.{Writing, writing_as, writing_byte}
use Rattle.std.specs.Prelude.{Option, None, Some, IfNone, IfSome, unwrap_or}
use Rattle.numbers.specs.Big.{signed32}
use Rattle.numbers.proofs.Signs.{signed32_low, signed32_high}
use Rattle.numbers.proofs.Fewest.{fewest, fewest_most, fewest_holds, fewest_least, fewest_is}
use Rattle.figures.specs.Figures.{size_from, decimal, integer, hex_digit, hex}

-- the text of the k low digits of n
abbrev pub figures : ℕ → ℕ → List ℕ
figures k n = map (λ (d : ℕ). 48 + d) (digits 10 k n)

pub length_figures : (k n : ℕ) → length (figures k n) ≡ k
length_figures k n = length-map (digits 10 k n) (λ (d : ℕ). 48 + d) ∙ length_digits 10 k n

-- a figure before those that stand there
figures_more : (xs : List ℕ) (i k n : ℕ) → i + 1 + k ≤ length xs → set (over xs (i + 1) (figures k n)) i (48 + n / 10 ^ k % 10) ≡ over xs i (figures (k + 1) n)
unfolding digits
figures_more xs i k n h =
    over_before xs i (48 + n / 10 ^ k % 10) (figures k n) (omega (arith, length_figures k n))
    ∙ ap (λ (m : ℕ). over xs i (figures m n)) (let e : suc k ≡ k + 1 = omega arith in e)

tenth : (n k : ℕ) → n / 10 ^ k / 10 ≡ n / 10 ^ (k + 1)
tenth n k = div-div-eq-div-mul n (10 ^ k) 10 ∙ ap (λ (m : ℕ). n / m) (sym (pow-suc 10 k) ∙ ap (λ (m : ℕ). 10 ^ m) (let e : suc k ≡ k + 1 = omega arith in e))

-- what the loop that writes them keeps, from the last on: the figures from i to `next` stand in the buffer, and `left` is the number before them
pub record Standing (xs us : List ℕ) (next i n left : ℕ) : Type 0 where
  pub stands : us ≡ over xs i (figures (next - i) n)
  pub rest : left ≡ n / 10 ^ (next - i)

pub standing_none : (xs : List ℕ) (next n : ℕ) → Standing xs xs next next n n
unfolding digits
standing_none xs next n =
    let e : next - next ≡ 0 = omega arith in
    record { stands = rw e (sym (over_nil xs next)); rest = rw (e, pow-zero 10) (sym (div-one n)) }

pub standing_more : {xs us : List ℕ} {next i n left : ℕ} → 0 < i → i ≤ next → next ≤ length xs → Standing xs us next i n left
    → Standing xs (set us (i - 1) (48 + left % 10)) next (i - 1) n (left / 10)
standing_more {xs} {us} {next} {i} {n} {left} p h l s =
    let j = i - 1 in
    let k = next - i in
    let e : i ≡ j + 1 = omega arith in
    let f : k + 1 ≡ next - j = omega arith in
    record {
      stands =
          ap₂ (λ (t : List ℕ) (d : ℕ). set t j (48 + d % 10)) (s.stands ∙ ap (λ (m : ℕ). over xs m (figures k n)) e) s.rest
          ∙ figures_more xs j k n (omega arith) ∙ ap (λ (m : ℕ). over xs j (figures m n)) f;
      rest = ap (λ (d : ℕ). d / 10) s.rest ∙ tenth n k ∙ ap (λ (m : ℕ). n / 10 ^ m) f;
    }

size_fewest : (k more n : ℕ) → size_from k more n ≡ fewest 10 k more n
unfolding size_from fewest
size_fewest k zero n = refl
size_fewest k (suc more) n = split (ltb n (10 ^ k)) (λ e. simp e) (λ e. simp e (size_fewest (suc k) more n))

pub size_most : (n : ℕ) → size_from 1 19 n ≤ 20
size_most n = rw size_fewest (fewest_most 10 1 19 n)

-- a number between two powers of ten, and 0
size_between : (n k : ℕ) → 10 ^ k ≤ n → n < 10 * 10 ^ k → k < 20 → k + 1 ≡ size_from 1 19 n
size_between n k least most few =
    (omega arith) ∙ fewest_is 10 1 19 n k (omega arith) (omega arith) (omega arith) least (rw (pow-suc 10 k, mul_comm (10 ^ k) 10) most) ∙ sym (size_fewest 1 19 n)

size_zero : 1 ≡ size_from 1 19 0
unfolding size_from
size_zero = refl

-- so one more than the logarithm, where there is one
pub size_log : (n : ℕ) (log : Option ℕ) → IfNone log (n ≡ 0) → IfSome log (λ k. 10 ^ k ≤ n) → IfSome log (λ k. n < 10 * 10 ^ k) → IfSome log (λ k. k < 20)
    → unwrap_or log 0 + 1 ≡ size_from 1 19 n
size_log n None none least most few = size_zero ∙ ap (size_from 1 19) (sym none)
size_log n (Some k) none least most few = size_between n k least most few

pub size_low : (k n : ℕ) → 0 < k → n < 10 ^ k → size_from 1 19 n ≤ k
size_low k n p h = rw size_fewest (fewest_least 10 1 19 n k (omega arith) p h)

pub length_decimal : (n : ℕ) → length (decimal n) ≡ size_from 1 19 n
unfolding decimal
length_decimal n = length_figures (size_from 1 19 n) n

-- a number below a power of ten has at most so many digits
pub decimal_short : (k n : ℕ) → 0 < k → n < 10 ^ k → length (decimal n) ≤ k
decimal_short k n p h = rw length_decimal (size_low k n p h)

-- the digits say the number
pub decimal_says : (n : ℕ) → n < 2 ^ 64 → number 10 (digits 10 (size_from 1 19 n) n) ≡ n
decimal_says n h =
    number_of 10 (size_from 1 19 n) n (omega arith) (rw size_fewest (fewest_holds 10 1 19 n (let z : n < 10 ^ 20 = omega arith in z)))

-- a number of 32 bits, below and from the middle on
pub signed_low : (n : ℕ) → n < 2 ^ 31 → integer (signed32 n) ≡ decimal n
unfolding integer
signed_low n h = ap integer (signed32_low n h)

pub signed_high : (n : ℕ) → 2 ^ 31 ≤ n → n < 2 ^ 32 → integer (signed32 n) ≡ 45 ∷ decimal (2 ^ 32 - n)
unfolding integer
signed_high n h l =
    let e : suc (2 ^ 32 - suc n) ≡ 2 ^ 32 - n = omega arith in
    ap integer (signed32_high n h l) ∙ ap (λ (m : ℕ). 45 ∷ decimal m) e

-- the digits of the bytes that are left, and none left; r is what follows them
pub hex_first : (s : List ℕ) (i : ℕ) (r : List ℕ) → i < length s
    → hex (drop i s) ++ r ≡ hex_digit (get_or s i 0 / 16) ∷ (hex_digit (get_or s i 0 % 16) ∷ (hex (drop (i + 1) s) ++ r))
unfolding hex
hex_first s i r h = rw (add-one, drop-cons s i 0)

pub hex_none : (s : List ℕ) (i : ℕ) (r : List ℕ) → length s ≤ i → hex (drop i s) ++ r ≡ r
unfolding hex
hex_none s i r h = rw (drop_of_length-le s {i = i} h) refl

-- a turn of the loop that writes them
module _ {xs whole us : List ℕ} {a at : ℕ} (s : List ℕ) (i : ℕ) (r : List ℕ) (h : i < length s) (w : Writing xs a whole us at (hex (drop i s) ++ r)) where
  pub hex_room : at + 2 ≤ length us
  hex_room = let v = writing_as (hex_first s i r h) w in omega (arith, v.room)

  pub hex_turn : {high low : ℕ} → high ≡ hex_digit (get_or s i 0 / 16) → low ≡ hex_digit (get_or s i 0 % 16)
      → Writing xs a whole (set (set us at high) (at + 1) low) (at + 2) (hex (drop (i + 1) s) ++ r)
  hex_turn {high} {low} e f =
      let more = hex (drop (i + 1) s) ++ r in
      let z : at + 1 + 1 ≡ at + 2 = omega arith in
      let v = writing_as (hex_first s i r h ∙ ap₂ (λ (x y : ℕ). x ∷ (y ∷ more)) (sym e) (sym f)) w in
      subst (λ (n : ℕ). Writing xs a whole (set (set us at high) (at + 1) low) n more) z (writing_byte low more (writing_byte high (low ∷ more) v))

pub length_hex : (s : List ℕ) → length (hex s) ≡ 2 * length s
unfolding hex
length_hex [] = refl
length_hex (b ∷ bs) = omega (arith, length_hex bs)
