-- What storing knows of the lent numbers: the first n of them are the numbers found.
use Prim.Native.Nat.{ℕ, ◌+◌, ◌<◌}
use mathlib.Core.Path.{◌≡◌, sym, ap, subst, ◌∙◌}
use mathlib.Core.List.{List, [], ◌∷◌, ◌++◌}
use native.Mathlib.Numerals.{add-one}
use lib.ListN.{length, take, set}
use lib.Seq.{take-suc-set}
use Rattle.refusals.specs.Outcomes.{Outcome, fine}
use Rattle.refusals.specs.Lent.{lent}
use Rattle.pmd.proofs.Frame.{Frame, frame_over}

abbrev pub Stored : List ℕ → ℕ → List ℕ → Type 0
Stored numbers n xs = take n numbers ≡ xs

pub stored_on : (numbers xs : List ℕ) (n v : ℕ) → n < length numbers → Stored numbers n xs → Stored (set numbers n v) (n + 1) (xs ++ (v ∷ []))
stored_on numbers xs n v h e =
    ap (λ (m : ℕ). take m (set numbers n v)) (add-one n) ∙ take-suc-set numbers n v h ∙ ap (λ (l : List ℕ). l ++ (v ∷ [])) e

-- all are stored
pub stored_ends : {before numbers xs : List ℕ} {n₀ n : ℕ} {o : Outcome (List ℕ)} → o ≡ fine xs → length xs ≡ n → Stored numbers n xs
    → Frame before n₀ numbers n → numbers ≡ lent before o
unfolding lent
stored_ends {before} {xs = xs} e h k f = frame_over xs f k h ∙ sym (ap (lent before) e)

-- what is known of a run and of two places is known of their equals
pub moved : (M : List ℕ → ℕ → ℕ → Type 0) {numbers now : List ℕ} {at there n m : ℕ} → now ≡ numbers → there ≡ at → m ≡ n → M numbers at n → M now there m
moved M {numbers} {now} {at} {there} {n} {m} e f g k =
    subst (λ (l : List ℕ). M l there m) (sym e) (subst (λ (a : ℕ). M numbers a m) (sym f) (subst (λ (j : ℕ). M numbers at j) (sym g) k))
