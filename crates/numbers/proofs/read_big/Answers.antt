-- `numbers::read_big` meets its contract. The loop keeps what is left: the number so far, followed by the bytes left, is the whole.
use mathlib.Core.Path.{◌≡◌, sym, ap, subst, ◌∙◌}
use mathlib.Core.List.{List}
use Prim.Native.Nat.{ℕ, ◌+◌, ◌-◌, ◌*◌, ◌^◌, ◌<◌, ◌≤◌}
use native.Mathlib.Numerals.{add-one}
use native.Mathlib.Omega.{arith}
use lib.ListN.{length, take, drop, get_or, drop_of_length-le}
use lib.Seq.{drop-cons, get_or-take, get_or-drop}
use Rattle.runs.specs.Digits.{number_from}
use Rattle.runs.proofs.Digits.{one_more, more_digits}
use Rattle.runs.proofs.Stands.{part_length, part_lent}
use Rattle.numbers.specs.Big.{big_at}
use Rattle.numbers.proofs.read_big.Goals as goal
use Rattle.numbers.proofs.read_big.Goals.{In-loop-byte}

-- the part that is read
module _ (s : List ℕ) (at n : ℕ) (h : at + n ≤ length s) where
  abbrev part : List ℕ
  part = take (at + n - at) (drop at s)

  part_long : length part ≡ n
  part_long = ap length (part_lent s at n) ∙ part_length s at n h

  part_byte : ((i : ℕ) → get_or s i 0 < 256) → (k : ℕ) → k < n → get_or part k 0 < 256
  part_byte b k g =
      let e : get_or part k 0 ≡ get_or s (at + k) 0 = get_or-take (at + n - at) (drop at s) k 0 (omega arith) ∙ get_or-drop at s k 0 in
      let x = b (at + k) in
      omega arith

  -- one byte more
  turn : (k v whole : ℕ) → k < n → number_from 256 v (drop k part) ≡ whole → number_from 256 (v * 256 + get_or part k 0) (drop (k + 1) part) ≡ whole
  unfolding number_from
  turn k v whole g e =
      let l = part_long in
      ap (λ (m : ℕ). number_from 256 (v * 256 + get_or part k 0) (drop m part)) (add-one k)
      ∙ ap (number_from 256 v) (sym (drop-cons part k 0 (omega arith))) ∙ e

  done : (k v whole : ℕ) → n ≤ k → number_from 256 v (drop k part) ≡ whole → v ≡ whole
  unfolding number_from
  done k v whole g e = let l = part_long in ap (number_from 256 v) (sym (drop_of_length-le part {i = k} (omega arith))) ∙ e

-- the next byte is one of the part, and the number so far leaves room for it
here : (c : In-loop-byte) → c.loop-byte.byte-index < c.args.count
here c = let t = c.loop-byte-test.true in let l = part_long c.args.s.now c.args.at c.args.count c.requires.0 in omega arith

room : (c : In-loop-byte) → c.loop-byte.number < 256 ^ 7
room c =
    let h = here c in
    let k : c.loop-byte.byte-index ≤ 7 = omega arith in
    more_digits 256 (omega arith) k c.loop-byte.invariant.0

pub loop-byte-init : goal.loop-byte-init
unfolding big_at
loop-byte-init c = (omega arith, ap (number_from 256 0) (part_lent c.args.s.now c.args.at c.args.count))

pub overflow_mul-number : goal.overflow_mul-number
overflow_mul-number c = omega (arith, room c)

pub overflow_add-number : goal.overflow_add-number
overflow_add-number c =
    let k = (goal.at.overflow_add-number c).In-loop-byte in
    omega (arith, room k, part_byte c.args.s.now c.args.at c.args.count c.requires.0 (λ i. (c.type_inv.s i).fits) c.loop-byte.byte-index (here k))

pub loop-byte-preserved : goal.loop-byte-preserved
loop-byte-preserved c =
    let h = here (goal.at.loop-byte-preserved c).In-loop-byte in
    let b = part_byte c.args.s.now c.args.at c.args.count c.requires.0 (λ i. (c.type_inv.s i).fits) c.loop-byte.byte-index h in
    (rw add-one (one_more 256 _ c.loop-byte.number _ c.loop-byte.invariant.0 b), turn c.args.s.now c.args.at c.args.count c.requires.0 _ _ _ h c.loop-byte.invariant.1)

pub returns : goal.returns
returns c =
    let l = part_long c.args.s.now c.args.at c.args.count c.requires.0 in
    let t = c.loop-byte-test.false in
    let n = c.loop-byte.auto.byte-index-end in
    let e : c.loop-byte.byte-index ≡ c.args.count = omega arith in
    (done c.args.s.now c.args.at c.args.count c.requires.0 _ _ _ (omega arith) c.loop-byte.invariant.1, subst (λ (k : ℕ). c.loop-byte.number < 256 ^ k) e c.loop-byte.invariant.0)
