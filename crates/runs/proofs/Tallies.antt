-- How many distinct numbers of a list pass a test: as many as the numbers below a bound that are in the list and pass it.
use mathlib.Core.Path.{◌≡◌, refl, sym, ap, fun_ext}
use mathlib.Core.List.{List, [], ◌∷◌}
use mathlib.Core.Bool.{Bool, true, false, cond, not, ◌&&◌, and-false}
use Prim.Native.Nat.{ℕ, zero, suc, ◌+◌, ◌<◌, ◌≤◌}
use native.Mathlib.Omega.{arith}
use lib.ListN.{length}
use lib.Dec.{eqb}
use borrow.Author.Tests.{eqb-true, eqb-false, eq-eqb, ne_eqb}
use Rattle.runs.specs.Those.{those, Each}
use Rattle.runs.specs.Same.{among}
use Rattle.runs.specs.Finding.{distinct, tally}
use Rattle.runs.proofs.Cases.{split}
use Rattle.runs.proofs.Finding.{bit, those_twice}

tally_none : (b : ℕ) → tally (λ (n : ℕ). false) b ≡ 0
unfolding tally
tally_none zero = refl
tally_none (suc b) = tally_none b

-- without n, as many as before where n does not count, and one less where it does
tally_past : (q : ℕ → Bool) (n b : ℕ) → b ≤ n → tally (λ (m : ℕ). not (eqb m n) && q m) b ≡ tally q b
unfolding tally
tally_past q n zero h = refl
tally_past q n (suc b) h =
    let d : eqb b n ≡ false = ne_eqb b n (λ e. omega arith) in
    rw d (ap (λ (k : ℕ). cond (q b) (suc k) k) (tally_past q n b (omega arith)))

pub tally_one : (q : ℕ → Bool) (n b : ℕ) → n < b → tally q b ≡ bit (q n) + tally (λ (m : ℕ). not (eqb m n) && q m) b
unfolding tally
tally_one q n zero h = absurd (omega arith)
tally_one q n (suc b) h =
    split (eqb b n)
    (λ e. let k : b ≡ n = eqb-true b n e in
    let r = tally_past q n b (omega arith) in
    split (q b) (λ d. let d' : q n ≡ true = rw k at d in rw (e, d, d') (omega arith)) (λ d. let d' : q n ≡ false = rw k at d in rw (e, d, d') (omega arith)))
    (λ e. let k = eqb-false b n e in
    let i = tally_one q n b (omega arith) in
    split (q b) (λ d. rw (e, d) (omega arith)) (λ d. rw (e, d) (omega arith)))

pub distinct_tally : (p : ℕ → Bool) (b : ℕ) (ns : List ℕ) → Each (λ (n : ℕ). n < b) ns
    → length (those p (distinct ns)) ≡ tally (λ (m : ℕ). among m ns && p m) b
unfolding those distinct among
distinct_tally p b [] a = sym (tally_none b)
distinct_tally p b (n ∷ ns) a =
    let i = distinct_tally (λ (m : ℕ). not (eqb m n) && p m) b ns a.1 in
    let j = tally_one (λ (m : ℕ). among m (n ∷ ns) && p m) n b a.0 in
    let k : length (those p (those (λ (m : ℕ). not (eqb m n)) (distinct ns))) ≡ length (those (λ (m : ℕ). not (eqb m n) && p m) (distinct ns)) =
    ap (λ (l : List ℕ). length l) (those_twice p (λ (m : ℕ). not (eqb m n)) (λ (m : ℕ). not (eqb m n) && p m) (λ m. refl) (distinct ns)) in
    let s : tally (λ (m : ℕ). among m ns && (not (eqb m n) && p m)) b ≡ tally (λ (m : ℕ). not (eqb m n) && (among m (n ∷ ns) && p m)) b =
    ap (λ (q : ℕ → Bool). tally q b) (fun_ext (λ m. apart m)) in
    let r : eqb n n ≡ true = eq-eqb n n refl in
    let j' = rw r at j in
    split (p n) (λ d. let j'' = rw d at j' in rw d (omega arith)) (λ d. let j'' = rw d at j' in rw d (omega arith))
  where
    apart : (m : ℕ) → (among m ns && (not (eqb m n) && p m)) ≡ (not (eqb m n) && (among m (n ∷ ns) && p m))
    apart m =
        split (eqb m n)
        (λ e. rw (e, and-false))
        (λ e. let d : eqb n m ≡ false = ne_eqb n m (λ q. eqb-false m n e (sym q)) in rw (e, d))
