-- `same` decides equality of lists; what is not among the elements of a list is neither the first nor among the others.
use mathlib.Core.Path.{◌≡◌, refl, sym, ap, ap₂, ◌∙◌}
use mathlib.Core.List.{List, [], ◌∷◌}
use mathlib.Core.Bool.{true, false}
use Prim.Native.Nat.{ℕ}
use lib.Dec.{eqb}
use borrow.Author.Tests.{eq-eqb, eqb-true}
use Rattle.runs.specs.Same.{same, among, listed}
use Rattle.runs.proofs.Cases.{split, absurd_eq}

pub same_refl : (xs : List ℕ) → same xs xs ≡ true
unfolding same
same_refl [] = refl
same_refl (x ∷ xs) = simp (eq-eqb x x refl) (same_refl xs)

pub same_true : (xs ys : List ℕ) → same xs ys ≡ true → xs ≡ ys
unfolding same
same_true [] [] h = refl
same_true [] (y ∷ ys) h = absurd_eq (cc)
same_true (x ∷ xs) [] h = absurd_eq (cc)
same_true (x ∷ xs) (y ∷ ys) h =
    split (eqb x y)
    (λ e. ap₂ (λ (a : ℕ) (l : List ℕ). a ∷ l) (eqb-true x y e) (same_true xs ys (simp e at h)))
    (λ e. let z : false ≡ true = simp e at h in absurd_eq (cc))

pub same_false : (xs ys : List ℕ) → same xs ys ≡ false → xs ≡ ys → ⊥
same_false xs ys h e = let z : true ≡ false = sym (same_refl xs) ∙ ap (same xs) e ∙ h in absurd_eq (cc)

pub among_neither : (n x : ℕ) (xs : List ℕ) → among n (x ∷ xs) ≡ false → (eqb x n ≡ false) × (among n xs ≡ false)
unfolding among
among_neither n x xs h = split (eqb x n) (λ e. let z : true ≡ false = simp e at h in absurd_eq (cc)) (λ e. (e, simp e at h))

pub listed_neither : (l x : List ℕ) (xs : List (List ℕ)) → listed l (x ∷ xs) ≡ false → (same x l ≡ false) × (listed l xs ≡ false)
unfolding listed
listed_neither l x xs h = split (same x l) (λ e. let z : true ≡ false = simp e at h in absurd_eq (cc)) (λ e. (e, simp e at h))
