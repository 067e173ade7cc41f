-- A buffer that is filled from a reader, one read after the other: what stands at its front is what the reader lost.
use Rattle.std.proofs.Common.{◌≡◌, ℕ, ◌+◌, ◌<◌, ◌≤◌, List, [], ◌++◌, length, take, drop, sym, ap, ◌∙◌, subst, le_refl, drop_at, length-take-le, Some, None, arith}
use Rattle.std.specs.Prelude.{Option, min}
use Rattle.std.proofs.lemmas.Slice.{take-put_mid_below}
use Rattle.std.specs.Io.KnownBytes.{Consumes, IsAtEnd}
use Rattle.std.proofs.KnownBytes.{Consumes-trans}
use borrow.Rule.Slice.PartMut.{put_mid, post_of}
use mathlib.Core.Logic.{◌⊎◌, inl, inr}
use lib.Seq.{take-add, take-append-le}
use Rattle.std.proofs.lemmas.List.{append-nil, length-append, take_all, drop_all}
use Rattle.std.proofs.Math.Nat.{eq-or-lt_of_le}

-- the front and the first m bytes of what was read after it
filled_more : (n m k : ℕ) (xs ys : List ℕ) → n ≤ length xs → m ≤ length ys → take n xs ++ take m ys ≡ take (n + m) (put_mid n k xs ys)
filled_more n m k xs ys within fits =
    let front : take n (put_mid n k xs ys) ≡ take n xs = take-put_mid_below _ _ _ _ _ (le_refl _) within in
    let after = post_of n k xs in
    let part = ap (take m) (drop_at (take n xs) (ys ++ after) n (length-take-le n xs within)) ∙ take-append-le m ys after fits in
    sym (take-add n m (put_mid n k xs ys) ∙ ap (λ l. l ++ take m (drop n (put_mid n k xs ys))) front ∙ ap (λ l. take n xs ++ l) part)

-- n bytes were read, and then m after them
pub read_more : (n m k : ℕ) (xs ys : List ℕ) (before between after : Option (List ℕ)) → n ≤ length xs → m ≤ length ys → Consumes before between (take n xs)
    → Consumes between after (take m ys) → Consumes before after (take (n + m) (put_mid n k xs ys))
read_more n m k xs ys before between after within fits had got =
    subst (Consumes before after) (filled_more n m k xs ys within fits) (Consumes-trans before between after (take n xs) (take m ys) had got)

-- xs is n bytes that were read, of at most r, and what is left: nothing where they are fewer than r
module _ (xs front left : List ℕ) (r n : ℕ) (whole : xs ≡ front ++ left) (counted : length front ≡ n) (most : n ≤ r) (ended : n < r → left ≡ []) where
  abbrev Exactly : Type 0
  Exactly = (n ≡ min r (length xs)) × (front ≡ take r xs) × (left ≡ drop r xs)

  many : length xs ≡ n + length left
  many = ap length whole ∙ length-append front left ∙ ap (λ (m : ℕ). m + length left) counted

  all_read : (n ≡ r) ⊎ (n < r) → Exactly
  all_read (inl e) =
      let l : length front ≡ r = counted ∙ e in
      let here = ap (take r) whole ∙ take-append-le r front left (omega arith) ∙ take_all r front (omega arith) in
      let behind = ap (drop r) whole ∙ drop_at front left r l in
      let m = many in
      (omega arith, sym here, sym behind)
  all_read (inr l) =
      let z = ended l in
      let none : length left ≡ 0 = ap length z in
      let m = many in
      let all = whole ∙ ap (λ (ys : List ℕ). front ++ ys) z ∙ append-nil front in
      (omega arith, sym all ∙ sym (take_all r xs (omega arith)), z ∙ sym (drop_all r xs (omega arith)))

-- Where a reader's bytes xs are known and a buffer is filled from it without an error, these define the count, the front of the buffer and what the reader has
-- left.
pub full_exactly : (xs buf : List ℕ) (n : ℕ) (after : Option (List ℕ)) → n ≤ length buf → Consumes (Some xs) after (take n buf) → (n < length buf → IsAtEnd after)
    → (n ≡ min (length buf) (length xs)) × (take n buf ≡ take (length buf) xs) × (after ≡ Some (drop (length buf) xs))
full_exactly xs buf n None most got ended = absurd got
full_exactly xs buf n (Some left) most got ended =
    let e = all_read xs (take n buf) left (length buf) n got (length-take-le n buf most) most ended (eq-or-lt_of_le most) in
    (e.0, e.1, ap Some e.2)
