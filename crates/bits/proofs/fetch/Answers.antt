-- `bits::fetch` meets its contract: the word it shifts is the number of the bytes that cover the field, at the top.
use mathlib.Core.Path.{◌≡◌, sym, ap, ap₂, ◌∙◌}
use mathlib.Core.List.{List}
use Prim.Native.Nat.{ℕ, ◌+◌, ◌-◌, ◌*◌, ◌/◌, ◌%◌, ◌^◌, ◌<◌, ◌≤◌}
use native.Mathlib.Nat.{mul_assoc}
use native.Mathlib.Omega.{arith}
use lib.Dec.{lit<}
use lib.ListN.{length, get_or, take, drop}
use lib.Seq.{take_at}
use lib.Pow.{field, high, low, pow-add, shl-shr, shr-shr}
use Rattle.runs.specs.Digits.{digits, number, Bytes}
use Rattle.runs.proofs.Digits.{length_digits, number_of}
use Rattle.runs.proofs.Stands.{here}
use Rattle.bits.specs.Bits.{bits, field_at}
use Rattle.bits.proofs.Bits.{bits_drop}
use Rattle.bits.proofs.Fields.{field_lt, field_none, field_join}
use Rattle.bits.proofs.fetch.Goals as goal
use Rattle.bits.proofs.fetch.Goals.{then-end-gt16, else-end-gt16+then-end-gt8, else-end-gt16+else-end-gt8}

-- a field with o bits before it and r after it
inside : (s : List ℕ) (p o w r : ℕ) → p + o + w + r ≤ 8 * length s → field_at s p (o + w + r) / 2 ^ r % 2 ^ w ≡ field_at s (p + o) w
inside s p o w r h =
    ap (λ (n : ℕ). n / 2 ^ r % 2 ^ w) (field_join s p (o + w) r (omega arith)) ∙ ap (λ (n : ℕ). n % 2 ^ w) (high (field_at s p (o + w)) r (field_lt s (p + (o + w)) r))
    ∙ ap (λ (n : ℕ). n % 2 ^ w) (field_join s p o w (omega arith)) ∙ low (field_at s p o) w (field_lt s (p + o) w)

-- y at the top of a word, without the o bits before and the r bits after the w that are wanted
shifted : (y o w r : ℕ) → o + w + r ≤ 32 → y * 2 ^ (32 - (o + w + r)) * 2 ^ o % 2 ^ 32 / 2 ^ (32 - w) ≡ y / 2 ^ r % 2 ^ w
shifted y o w r h =
    let up = 32 - (o + w + r) in
    let x = y * 2 ^ up * 2 ^ o in
    let lifted : x ≡ y * 2 ^ (up + o) = mul_assoc y (2 ^ up) (2 ^ o) ∙ ap (λ (n : ℕ). y * n) (sym (pow-add 2 up o)) in
    ap (λ (n : ℕ). x % 2 ^ n / 2 ^ (32 - w)) (let e : 32 ≡ w + (32 - w) = omega arith in e) ∙ field x w (32 - w)
    ∙ ap₂ (λ (n k : ℕ). n / 2 ^ k % 2 ^ w) lifted (let e : 32 - w ≡ up + o + r = omega arith in e)
    ∙ ap (λ (n : ℕ). n % 2 ^ w) (sym (shr-shr (y * 2 ^ (up + o)) (up + o) r) ∙ ap (λ (n : ℕ). n / 2 ^ r) (shl-shr y (up + o)))

-- a byte is the field of its eight bits
byte : (s : List ℕ) (j : ℕ) → Bytes s → j < length s → field_at s (8 * j) 8 ≡ get_or s j 0
unfolding bits field_at
byte s j bytes h =
    let b = get_or s j 0 in
    ap (λ (l : List ℕ). number 2 (take 8 l)) (bits_drop j s ∙ ap bits (here s j h))
    ∙ ap (number 2) (take_at (digits 2 8 b) (bits (drop (j + 1) s)) 8 (length_digits 2 8 b)) ∙ number_of 2 8 b (lit< tt) (bytes j)

module _ (s : List ℕ) (bytes : Bytes s) (at : ℕ) where
  -- the number of the covering bytes: of the first, and of one more
  one_byte : at / 8 < length s → get_or s (at / 8) 0 ≡ field_at s (8 * (at / 8)) 8
  one_byte h = sym (byte s (at / 8) bytes h)

  next_byte : (n v : ℕ) → at / 8 + n < length s → v ≡ field_at s (8 * (at / 8)) (8 * n) → v * 256 + get_or s (at / 8 + n) 0 ≡ field_at s (8 * (at / 8)) (8 * n + 8)
  next_byte n v h e =
      let p = 8 * (at / 8) in
      ap₂ (λ (x y : ℕ). x * 256 + y) e (sym (byte s (at / 8 + n) bytes h) ∙ ap (λ (q : ℕ). field_at s q 8) (let i : 8 * (at / 8 + n) ≡ p + 8 * n = omega arith in i))
      ∙ sym (field_join s p (8 * n) 8 (omega arith))

-- what the shifts leave of k covering bits is the field
cut : (s : List ℕ) (at w k : ℕ) {x : ℕ} → at % 8 + w ≤ k → k ≤ 32 → 8 * (at / 8) + k ≤ 8 * length s → x ≡ field_at s (8 * (at / 8)) k * 2 ^ (32 - k)
    → x * 2 ^ (at % 8) % 4294967296 / 2 ^ (32 - w) ≡ field_at s at w
cut s at w k a b l e =
    let o = at % 8 in
    let p = 8 * (at / 8) in
    let r = k - (o + w) in
    let whole : k ≡ o + w + r = omega arith in
    ap (λ (n : ℕ). n * 2 ^ o % 2 ^ 32 / 2 ^ (32 - w)) (e ∙ ap (λ (n : ℕ). field_at s p n * 2 ^ (32 - n)) whole) ∙ shifted (field_at s p (o + w + r)) o w r (omega arith)
    ∙ inside s p o w r (omega arith) ∙ ap (λ (q : ℕ). field_at s q w) (let i : p + o ≡ at = omega arith in i)

-- no byte
pub returns-then-w-eq0 : goal.returns-then-w-eq0
returns-then-w-eq0 c =
    let a = c.args in
    sym (field_none a.s.now a.at) ∙ ap (field_at a.s.now a.at) (let e : 0 ≡ a.w = omega arith in e)

-- three bytes, two, and one
pub returns : goal.returns
returns c =
    let a = c.args in
    let s = a.s.now in
    let i = a.at / 8 in
    let bytes : Bytes s = λ k. omega (arith, c.type_inv.s k) in
    let one : i < length s → get_or s i 0 ≡ field_at s (8 * i) 8 = one_byte s bytes a.at in
    let two : i + 1 < length s → get_or s i 0 * 256 + get_or s (i + 1) 0 ≡ field_at s (8 * i) 16 =
    λ h. next_byte s bytes a.at 1 (get_or s i 0) h (one (omega arith)) in
    elim c.if-end-gt16.branch [
      | then-end-gt16 w ↦
          let three = next_byte s bytes a.at 2 (get_or s i 0 * 256 + get_or s (i + 1) 0) (omega arith) (two (omega arith)) in
          cut s a.at a.w 24 (omega arith) (omega arith) (omega arith) (omega (arith, three, w.from_be_bytes-covering.ensures, w.covering-is))
      | else-end-gt16+then-end-gt8 w ↦
          cut s a.at a.w 16 (omega arith) (omega arith) (omega arith) (omega (arith, two (omega arith), w.from_be_bytes.ensures, w.covering-is))
      | else-end-gt16+else-end-gt8 w ↦
          cut s a.at a.w 8 (omega arith) (omega arith) (omega arith) (omega (arith, one (omega arith), w.from_be_bytes-else-end-gt8.ensures, w.covering-is))
    ]
