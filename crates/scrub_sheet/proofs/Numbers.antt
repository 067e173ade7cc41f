-- The numbers of a sheet in an array: how it is filled, what the next of them decides, and how they are judged from the last to the first.
use mathlib.Core.Path.{◌≡◌, refl, sym, ap, subst, ◌∙◌}
use mathlib.Core.List.{List, [], ◌∷◌, ◌++◌, append_assoc, append-nil}
use mathlib.Core.Bool.{Bool, true, false, cond, not, ◌&&◌, and-false}
use Prim.Native.Nat.{ℕ, zero, suc, ◌+◌, ◌-◌, ◌*◌, ◌%◌, ◌^◌, ◌<◌, ◌≤◌}
use native.Mathlib.Omega.{arith}
use native.Mathlib.Numerals.{add-one}
use lib.Dec.{ltb, leb, eqb}
use lib.ListN.{length, take, drop, get_or, set, replicate, length-append, length-drop}
use lib.Seq.{drop-cons, take_all, drop-length}
use borrow.Author.Tests.{eqb-true}
use Rattle.std.specs.Int.{bit_at}
use Rattle.std.specs.Int.Bits.{bit_and, bit_or}
use Rattle.std.specs.Prelude.{max}
use Rattle.std.proofs.Math.Nat.{one-le-pow}
use Rattle.std.proofs.lemmas.Nat.{one_shl}
use Rattle.std.proofs.lemmas.Nat.Bits.{and_pow, bit_at_or, bit_at-lt, bit_at-pow_same}
use Rattle.runs.proofs.Cases.{split, never}
use Rattle.runs.specs.Same.{among}
use Rattle.numbers.specs.Big.{big_at}
use Rattle.pack.specs.Slots.{padded}
use Rattle.pack.proofs.Padded.{set_padded}
use Rattle.scrub_kept.specs.Sheet.{sheet_cap, numbers_at, numbers_good}
use Rattle.scrub_sheet.specs.Marked.{Marked}
use Rattle.scrub_sheet.proofs.Runs.{number_here}

-- numbers that are read: `done` so far, and those that are left
pub record Filling (s : List ℕ) (at count : ℕ) (found : List ℕ) (k : ℕ) : Type 0 where
  pub done : List ℕ
  pub full : found ≡ padded sheet_cap 0 done
  pub size : length done ≡ k
  pub whole : done ++ numbers_at s (at + 4 * k) (count - k) ≡ numbers_at s at count

pub filling_begins : (s : List ℕ) (at count : ℕ) → Filling s at count (replicate 32 0) 0
filling_begins s at count = record {
  done = [];
  full = refl;
  size = refl;
  whole = let e : at + 4 * 0 ≡ at = omega arith in let f : count - 0 ≡ count = omega arith in rw (e, f) refl;
}

module _ {s : List ℕ} {at count : ℕ} {found : List ℕ} {k : ℕ} (f : Filling s at count found k) where
  pub filling_step : k < count → count ≤ sheet_cap → (x : ℕ) → x ≡ big_at s (at + 4 * k) 4 → Filling s at count (set found k x) (k + 1)
  filling_step h few x e =
      let rest = numbers_at s (at + 4 * (k + 1)) (count - (k + 1)) in
      let z = f.size in
      record {
        done = f.done ++ (x ∷ []);
        full = ap (λ (l : List ℕ). set l k x) f.full ∙ set_padded sheet_cap 0 f.done k f.size x (omega arith);
        size = omega (arith, length-append f.done (x ∷ []));
        whole = append_assoc f.done (x ∷ []) rest ∙ ap (λ (l : List ℕ). f.done ++ l) (ap (λ (n : ℕ). n ∷ rest) e ∙ sym (number_here s at count k h)) ∙ f.whole;
      }

  pub filling_ends : count ≤ k → found ≡ padded sheet_cap 0 (numbers_at s at count)
  unfolding numbers_at
  filling_ends h =
      let z : count - k ≡ 0 = omega arith in
      f.full ∙ ap (padded sheet_cap 0) (sym (append-nil f.done) ∙ ap (λ (n : ℕ). f.done ++ numbers_at s (at + 4 * k) n) (sym z) ∙ f.whole)

-- of some numbers the one at k
module _ (xs : List ℕ) (k : ℕ) (h : k < length xs) where
  here : drop k xs ≡ get_or xs k 0 ∷ drop (k + 1) xs
  here = drop-cons xs k 0 h ∙ ap (λ (n : ℕ). get_or xs k 0 ∷ drop n xs) (sym (add-one k))

  -- is sought
  pub number_met : (n : ℕ) {b : Bool} → eqb (get_or xs k 0) n ≡ b → among n (drop k xs) ≡ cond b true (among n (drop (k + 1) xs))
  unfolding among
  number_met n e = rw (here, e)

  -- is judged: `others` are those after it
  pub number_judged : {low high again : Bool} (others : List ℕ) → others ≡ take (length xs - (k + 1)) (drop (k + 1) xs) → leb 4 (get_or xs k 0) ≡ low
      → ltb (get_or xs k 0) (128 ^ 4) ≡ high → among (get_or xs k 0) others ≡ again → numbers_good (drop k xs) ≡ low && (high && (not again && numbers_good (drop (k + 1) xs)))
  unfolding numbers_good
  number_judged others o a b e =
      let l = length-drop (k + 1) xs in
      let z = o ∙ take_all (length xs - (k + 1)) (drop (k + 1) xs) (omega arith) in
      rw (here, a, b, ← z, e)

-- MARKS

mark_is : (n : ℕ) → 1 * 2 ^ (n % 64) % 18446744073709551616 ≡ 2 ^ (n % 64)
mark_is n = one_shl (n % 64) 64 (omega arith)

-- a number whose mark is not set is none of those
pub unmarked : (n seen : ℕ) (xs : List ℕ) → Marked xs seen → bit_and seen (1 * 2 ^ (n % 64) % 18446744073709551616) ≡ 0 → false ≡ among n xs
unmarked n seen xs m e =
    split (among n xs)
    (λ a. let b = m n a in
    let c : bit_at seen (n % 64) * 2 ^ (n % 64) ≡ 0 = sym (and_pow seen (n % 64)) ∙ ap (bit_and seen) (sym (mark_is n)) ∙ e in
    let d : 1 * 2 ^ (n % 64) ≡ 0 = sym (ap (λ (x : ℕ). x * 2 ^ (n % 64)) b) ∙ c in
    let o = one-le-pow (n % 64) 2 (omega arith) in
    absurd (omega arith))
    (λ a. sym a)

most_right : (a b : ℕ) → a < 2 → b ≡ 1 → max a b ≡ 1
most_right zero b l e = rw e refl
most_right (suc zero) b l e = rw e refl
most_right (suc (suc a)) b l e = absurd (omega arith)

most_left : (a b : ℕ) → a ≡ 1 → b < 2 → max a b ≡ 1
most_left a zero e l = rw e refl
most_left a (suc zero) e l = rw e refl
most_left a (suc (suc b)) e l = absurd (omega arith)

-- one more number and its mark
marked_more : (n seen : ℕ) (xs : List ℕ) → Marked xs seen → Marked (n ∷ xs) (bit_or seen (1 * 2 ^ (n % 64) % 18446744073709551616))
unfolding among
marked_more n seen xs k m h =
    let a = bit_at seen (m % 64) in
    let b = bit_at (2 ^ (n % 64)) (m % 64) in
    rw (mark_is n, bit_at_or seen (2 ^ (n % 64)) (m % 64))
    (split (eqb n m)
    (λ e. most_right a b (bit_at-lt seen (m % 64)) (ap (λ (x : ℕ). bit_at (2 ^ (x % 64)) (m % 64)) (eqb-true n m e) ∙ bit_at-pow_same (m % 64)))
    (λ e. let g : among m xs ≡ true = rw e at h in most_left a b (k m g) (bit_at-lt (2 ^ (n % 64)) (m % 64))))

-- where those from some number on are not good, none are
good_tail : (k : ℕ) (xs : List ℕ) → numbers_good (drop k xs) ≡ false → numbers_good xs ≡ false
unfolding numbers_good
good_tail zero xs e = e
good_tail (suc k) [] e = e
good_tail (suc k) (x ∷ xs) e = rw (good_tail k xs e, and-false (not (among x xs)), and-false (ltb x (128 ^ 4)), and-false (leb 4 x)) refl

-- the numbers from k on are good and marked
pub record Judging (xs : List ℕ) (seen k : ℕ) : Type 0 where
  pub good : numbers_good (drop k xs) ≡ true
  pub marked : Marked (drop k xs) seen

pub judging_begins : (xs : List ℕ) → Judging xs 0 (length xs)
unfolding numbers_good among
judging_begins xs = record { good = ap numbers_good (drop-length xs); marked = λ m h. never h (ap (among m) (drop-length xs)) }

pub judging_ends : {xs : List ℕ} {seen k : ℕ} → Judging xs seen k → k ≤ 0 → true ≡ numbers_good xs
judging_ends {xs} {seen} {k} j h = let z : k ≡ 0 = omega arith in sym j.good ∙ ap (λ (n : ℕ). numbers_good (drop n xs)) z

module _ {xs : List ℕ} {seen k : ℕ} (j : Judging xs seen k) (some : 0 < k) (most : k ≤ length xs) where
  abbrev this : ℕ
  this = get_or xs (k - 1) 0

  abbrev others : List ℕ
  others = take (length xs - (k - 1 + 1)) (drop (k - 1 + 1) xs)

  again : k - 1 + 1 ≡ k
  again = omega arith

  pub others_marked : Marked others seen
  others_marked =
      let l = length-drop (k - 1 + 1) xs in
      let z = take_all (length xs - (k - 1 + 1)) (drop (k - 1 + 1) xs) (omega arith) ∙ ap (λ (n : ℕ). drop n xs) again in
      subst (λ (x : List ℕ). Marked x seen) (sym z) j.marked

  pub this_low : leb 4 this ≡ false → false ≡ numbers_good xs
  this_low a = sym (good_tail (k - 1) xs (number_judged xs (k - 1) (omega arith) others refl a refl refl))

  pub this_high : leb 4 this ≡ true → ltb this (128 ^ 4) ≡ false → false ≡ numbers_good xs
  this_high a b = sym (good_tail (k - 1) xs (number_judged xs (k - 1) (omega arith) others refl a b refl))

  pub this_again : leb 4 this ≡ true → ltb this (128 ^ 4) ≡ true → among this others ≡ true → false ≡ numbers_good xs
  this_again a b e = sym (good_tail (k - 1) xs (number_judged xs (k - 1) (omega arith) others refl a b e))

  pub judging_step : leb 4 this ≡ true → ltb this (128 ^ 4) ≡ true → among this others ≡ false
      → Judging xs (bit_or seen (1 * 2 ^ (this % 64) % 18446744073709551616)) (k - 1)
  judging_step a b e =
      let h : k - 1 < length xs = omega arith in
      let z : drop (k - 1) xs ≡ this ∷ drop k xs = here xs (k - 1) h ∙ ap (λ (n : ℕ). this ∷ drop n xs) again in
      record {
        good = number_judged xs (k - 1) h others refl a b e ∙ ap (λ (n : ℕ). numbers_good (drop n xs)) again ∙ j.good;
        marked = subst (λ (x : List ℕ). Marked x (bit_or seen (1 * 2 ^ (this % 64) % 18446744073709551616))) (sym z) (marked_more this seen (drop k xs) j.marked);
      }
