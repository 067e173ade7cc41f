-- A mark more at the end: what it adds to the numbers and to the labels.
use mathlib.Core.Path.{◌≡◌, refl, ap, ◌∙◌}
use mathlib.Core.List.{List, [], ◌∷◌, ◌++◌, append-nil}
use mathlib.Core.Logic.{◌⊎◌, inl, inr}
use mathlib.Core.Bool.{true, false, ◌||◌}
use Prim.Native.Nat.{ℕ, ◌+◌, ◌≤◌}
use native.Mathlib.Omega.{arith}
use lib.ListN.{length}
use lib.Dec.{eqb}
use Rattle.runs.specs.Same.{among}
use Rattle.runs.proofs.Cases.{split}
use Rattle.scrub_kept.proofs.Firsts.{Silent, Firsts, silent_last, named_last}
use Rattle.std.specs.Prelude.{Option, Some, None}
use Rattle.pack.specs.declared.Name.{Name}
use Rattle.pack.specs.declared.Name.TheVariants as N
use Rattle.scrub_names.specs.Marks.{kept_numbers, kept_labels}

pub among_last : (n t : ℕ) (xs : List ℕ) → among n (xs ++ (t ∷ [])) ≡ among n xs || eqb t n
unfolding among
among_last n t [] = split (eqb t n) (λ e. rw e) (λ e. rw e)
among_last n t (x ∷ xs) = split (eqb x n) (λ e. rw e) (λ e. rw e (among_last n t xs))

-- what marks more add to the numbers
pub numbers_append : (ms ns : List (Option Name)) → kept_numbers (ms ++ ns) ≡ kept_numbers ms ++ kept_numbers ns
unfolding kept_numbers
numbers_append [] ns = refl
numbers_append (None ∷ ms) ns = numbers_append ms ns
numbers_append (Some (N.Number u) ∷ ms) ns = ap (λ (l : List ℕ). u ∷ l) (numbers_append ms ns)
numbers_append (Some (N.Label i) ∷ ms) ns = numbers_append ms ns

pub numbers_same : (ms : List (Option Name)) (r : Option Name) → kept_numbers (r ∷ []) ≡ [] → kept_numbers (ms ++ (r ∷ [])) ≡ kept_numbers ms
numbers_same ms r e = numbers_append ms (r ∷ []) ∙ ap (λ (l : List ℕ). kept_numbers ms ++ l) e ∙ append-nil (kept_numbers ms)

-- the kept labels are listed by first appearance
labels_first : Firsts eqb among (λ (i : ℕ). Some (N.Label i)) kept_labels
unfolding kept_labels among
labels_first = record { has_none = λ x. refl; has_more = λ x y ys. refl; ends = λ seen. refl; first = λ seen x r. refl; each = told }
  where
    told : (m : Option Name) → ((k : ℕ) × (m ≡ Some (N.Label k))) ⊎ Silent kept_labels m
    told None = inr (λ seen r. refl)
    told (Some (N.Number t)) = inr (λ seen r. refl)
    told (Some (N.Label k)) = inl (k, refl)

-- a mark that is no label adds none
pub labels_same : (ms : List (Option Name)) (m : Option Name) → Silent kept_labels m → kept_labels [] (ms ++ (m ∷ [])) ≡ kept_labels [] ms
labels_same ms m none = silent_last labels_first m none ms

-- a label that was seen, and a new one
pub labels_seen : (ms : List (Option Name)) (k : ℕ) → among k (kept_labels [] ms) ≡ true → kept_labels [] (ms ++ (Some (N.Label k) ∷ [])) ≡ kept_labels [] ms
labels_seen ms k h = named_last labels_first k ms ∙ simp h

pub labels_new : (ms : List (Option Name)) (k : ℕ) → among k (kept_labels [] ms) ≡ false → kept_labels [] (ms ++ (Some (N.Label k) ∷ [])) ≡ kept_labels [] ms ++ (k ∷ [])
labels_new ms k h = named_last labels_first k ms ∙ simp h

-- at most as many numbers and labels as marks
pub marks_few : (seen : List ℕ) (ms : List (Option Name)) → length (kept_numbers ms) + length (kept_labels seen ms) ≤ length ms
unfolding kept_numbers kept_labels
marks_few seen [] = omega arith
marks_few seen (None ∷ ms) = let i = marks_few seen ms in omega arith
marks_few seen (Some (N.Number u) ∷ ms) = let i = marks_few seen ms in omega arith
marks_few seen (Some (N.Label k) ∷ ms) =
    split (among k seen)
    (λ e. let i = marks_few seen ms in rw e (omega arith))
    (λ e. let i = marks_few (k ∷ seen) ms in rw e (omega arith))
