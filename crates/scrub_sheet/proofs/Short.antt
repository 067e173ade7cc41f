-- What the loop keeps that finds the numbers below 128 on a sheet.
use mathlib.Core.Path.{◌≡◌, refl, sym, ap, subst, ◌∙◌}
use mathlib.Core.List.{List}
use mathlib.Core.Bool.{Bool, true, false, cond, ◌||◌, or-false}
use Prim.Native.Nat.{ℕ, ◌+◌, ◌-◌, ◌*◌, ◌<◌, ◌≤◌}
use native.Mathlib.Omega.{arith}
use lib.ListN.{length, get_or, set, replicate, length-set, get_or-replicate}
use lib.Seq.{get_or-set_same, get_or-set_other}
use lib.Dec.{eqb}
use borrow.Author.Tests.{eqb-true, eqb-false, ne_eqb}
use Rattle.runs.specs.Same.{among}
use Rattle.runs.proofs.Cases.{split}
use Rattle.numbers.specs.Big.{big_at}
use Rattle.scrub_kept.specs.Sheet.{numbers_at}
use Rattle.scrub_kept.proofs.Listed.{or_moved}
use Rattle.scrub_sheet.proofs.Runs.{number_sought}

set_found : (found : List Bool) (x n : ℕ) → x < length found → get_or (set found x true) n false ≡ cond (eqb x n) true (get_or found n false)
set_found found x n h =
    split (eqb x n)
    (λ e. rw e (subst (λ (m : ℕ). get_or (set found x true) m false ≡ true) (eqb-true x n e) (get_or-set_same found x true false h)))
    (λ e. rw e (get_or-set_other found x n true false (λ j. eqb-false x n e (sym j))))

-- those found among the first k of so many numbers are, with the others, all
pub record Finding (s : List ℕ) (at count : ℕ) (found : List Bool) (k : ℕ) : Type 0 where
  pub long : length found ≡ 128
  pub decides : (n : ℕ) → n < 128 → get_or found n false || among n (numbers_at s (at + 4 * k) (count - k)) ≡ among n (numbers_at s at count)

pub finding_begins : (s : List ℕ) (at count : ℕ) → Finding s at count (replicate 128 false) 0
finding_begins s at count = record {
  long = refl;
  decides = λ n l.
      let e : at + 4 * 0 ≡ at = omega arith in
      let f : count - 0 ≡ count = omega arith in
      rw (e, f) (ap (λ (b : Bool). b || among n (numbers_at s at count)) (get_or-replicate 128 n false false l));
}

module _ {s : List ℕ} {at count : ℕ} {found : List Bool} {k : ℕ} (f : Finding s at count found k) where
  module _ (h : k < count) (x : ℕ) (e : x ≡ big_at s (at + 4 * k) 4) where
    abbrev rest : ℕ → Bool
    rest n = among n (numbers_at s (at + 4 * (k + 1)) (count - (k + 1)))

    -- with the next number
    turned : (n : ℕ) → n < 128 → get_or found n false || cond (eqb x n) true (rest n) ≡ among n (numbers_at s at count)
    turned n l = ap (λ (b : Bool). get_or found n false || b) (sym (number_sought s at count k h n (ap (λ (m : ℕ). eqb m n) (sym e)))) ∙ f.decides n l

    -- a number of one byte is found
    pub finding_short : x < 128 → (now : List Bool) → now ≡ set found x true → Finding s at count now (k + 1)
    finding_short g now is =
        let z = f.long in
        rw is record {
          long = length-set found x true ∙ f.long;
          decides = λ n l. ap (λ (b : Bool). b || rest n) (set_found found x n (omega arith)) ∙ or_moved (eqb x n) (get_or found n false) (rest n) ∙ turned n l;
        }

    -- a longer one is passed
    pub finding_long : 128 ≤ x → (now : List Bool) → now ≡ found → Finding s at count now (k + 1)
    finding_long g now is = rw is record {
      long = f.long;
      decides = λ n l. ap (λ (b : Bool). get_or found n false || cond b true (rest n)) (sym (ne_eqb x n (λ j. omega arith))) ∙ turned n l;
    }

  pub finding_ends : count ≤ k → (n : ℕ) → n < 128 → get_or found n false ≡ among n (numbers_at s at count)
  unfolding numbers_at among
  finding_ends h n l =
      let z : count - k ≡ 0 = omega arith in
      let d = f.decides n l in
      sym (or-false (get_or found n false)) ∙ subst (λ (j : ℕ). get_or found n false || among n (numbers_at s (at + 4 * k) j) ≡ among n (numbers_at s at count)) z d
