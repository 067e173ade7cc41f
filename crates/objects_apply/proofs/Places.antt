-- The first element that passes a test, and its place, in a list that grows at its end and in one with an element stored.
use mathlib.Core.Path.{◌≡◌, refl, sym, ap}
use mathlib.Core.List.{List, [], ◌∷◌, ◌++◌}
use mathlib.Core.Bool.{Bool, true, false, cond}
use Prim.Native.Nat.{ℕ, zero, suc, ◌+◌, ◌<◌, ◌≤◌}
use native.Mathlib.Omega.{arith}
use lib.ListN.{length, get_or, set, drop}
use lib.Dec.{ltb}
use borrow.Author.Tests.{ltb-true, ltb-false}
use Rattle.runs.specs.Finding.{count, first, change, place}
use Rattle.runs.proofs.Cases.{split}
use Rattle.runs.proofs.Finding.{first_passes}
use Rattle.runs.proofs.Filling.{place_in, first_place, place_here, place_on}

module _ {A : Type 0} (p : A → Bool) where
  pub count_append : (xs ys : List A) → count p (xs ++ ys) ≡ count p xs + count p ys
  unfolding count
  count_append [] ys = omega arith
  count_append (x ∷ xs) ys =
      let i = count_append xs ys in split (p x) (λ e. rw e (omega arith)) (λ e. rw e i)

  -- one that is there stays the first, and where none is it is the first of what comes after
  pub first_before : (d : A) (xs ys : List A) → 0 < count p xs → first p d (xs ++ ys) ≡ first p d xs
  unfolding first count
  first_before d [] ys h = absurd (omega arith)
  first_before d (x ∷ xs) ys h = split (p x) (λ e. rw e) (λ e. rw e (first_before d xs ys (rw e at h)))

  pub first_behind : (d : A) (xs ys : List A) → count p xs ≡ 0 → first p d (xs ++ ys) ≡ first p d ys
  unfolding first count
  first_behind d [] ys h = refl
  first_behind d (x ∷ xs) ys h =
      split (p x) (λ e. let k = rw e at h in absurd (omega arith)) (λ e. rw e (first_behind d xs ys (rw e at h)))

  pub place_before : (xs ys : List A) → 0 < count p xs → place p (xs ++ ys) ≡ place p xs
  unfolding place count
  place_before [] ys h = absurd (omega arith)
  place_before (x ∷ xs) ys h = split (p x) (λ e. rw e) (λ e. rw e (ap suc (place_before xs ys (rw e at h))))

  -- a list that grows has it no earlier
  pub place_less : (xs ys : List A) → place p xs ≤ place p (xs ++ ys)
  unfolding place
  place_less [] ys = omega arith
  place_less (x ∷ xs) ys = let i = place_less xs ys in split (p x) (λ e. rw e (omega arith)) (λ e. rw e (omega arith))

  pub place_behind : (xs ys : List A) → count p xs ≡ 0 → place p (xs ++ ys) ≡ length xs + place p ys
  unfolding place count
  place_behind [] ys h = omega arith
  place_behind (x ∷ xs) ys h =
      split (p x) (λ e. let k = rw e at h in absurd (omega arith))
      (λ e. let i = place_behind xs ys (rw e at h) in rw e (omega arith))

  -- a place past the end is that of nothing
  pub place_out : (xs : List A) → length xs ≤ place p xs → count p xs ≡ 0
  place_out xs h =
      split (ltb 0 (count p xs)) (λ e. let k = place_in p xs (ltb-true 0 (count p xs) e) in absurd (omega arith))
      (λ e. omega (arith, ltb-false 0 (count p xs) e))

  -- and one within is that of an element that passes
  pub place_there : (xs : List A) → place p xs < length xs → 0 < count p xs
  unfolding place count
  place_there [] h = absurd (omega arith)
  place_there (x ∷ xs) h =
      split (p x) (λ e. rw e (omega arith)) (λ e. let k = rw e at h in rw e (place_there xs (omega arith)))

  pub place_passes : (d : A) (xs : List A) → 0 < count p xs → p (get_or xs (place p xs) d) ≡ true
  place_passes d xs h = rw (sym (first_place p d xs)) (first_passes p d xs h)

  -- a search may begin anywhere up to the place
  place_from : (xs : List A) (i : ℕ) → i ≤ place p xs → i + place p (drop i xs) ≡ place p xs
  unfolding place
  place_from xs zero h = omega arith
  place_from [] (suc i) h = absurd (omega arith)
  place_from (x ∷ xs) (suc i) h =
      split (p x) (λ e. let k = rw e at h in absurd (omega arith))
      (λ e. let k = rw e at h in let j = place_from xs i (omega arith) in rw e (omega arith))

  -- A SEARCH, which has come to i

  module _ (d : A) (xs : List A) (i : ℕ) (before : i ≤ place p xs) where
    pub sought_here : i < length xs → p (get_or xs i d) ≡ true → i ≡ place p xs
    sought_here h e = let k = place_here p d xs i h e in omega (arith, place_from xs i before)

    pub sought_on : i < length xs → p (get_or xs i d) ≡ false → i + 1 ≤ place p xs
    sought_on h e = let k = place_on p d xs i h e in omega (arith, place_from xs i before)

    pub sought_none : length xs ≤ i → count p xs ≡ 0
    sought_none h = place_out xs (omega arith)

  -- A STORE

  -- of an element that passes as the one before it did
  pub place_same : (d : A) (xs : List A) (j : ℕ) (y : A) → p y ≡ p (get_or xs j d) → place p (set xs j y) ≡ place p xs
  unfolding place
  place_same d [] j y h = refl
  place_same d (x ∷ xs) zero y h = rw h
  place_same d (x ∷ xs) (suc j) y h = ap (λ (n : ℕ). cond (p x) 0 (suc n)) (place_same d xs j y h)

  -- of one that passes where none did
  pub place_new : (xs : List A) (j : ℕ) (y : A) → j < length xs → count p xs ≡ 0 → p y ≡ true → place p (set xs j y) ≡ j
  unfolding place count
  place_new [] j y h z e = absurd (omega arith)
  place_new (x ∷ xs) zero y h z e = rw e
  place_new (x ∷ xs) (suc j) y h z e =
      split (p x) (λ d. let k = rw d at z in absurd (omega arith))
      (λ d. rw d (ap suc (place_new xs j y (omega arith) (rw d at z) e)))

  -- of one that does not pass
  pub place_grows : (xs : List A) (j : ℕ) (y : A) → p y ≡ false → place p xs ≤ place p (set xs j y)
  unfolding place
  place_grows [] j y e = omega arith
  place_grows (x ∷ xs) zero y e = rw e (split (p x) (λ d. rw d (omega arith)) (λ d. rw d (omega arith)))
  place_grows (x ∷ xs) (suc j) y e =
      let i = place_grows xs j y e in split (p x) (λ d. rw d (omega arith)) (λ d. rw d (omega arith))

-- a change that the test does not see
pub place_unseen : {A : Type 0} (p : A → Bool) (g : A → A) (q : A → Bool) → ((x : A) → p x ≡ true → q (g x) ≡ q x) → (xs : List A)
    → place q (change p g xs) ≡ place q xs
unfolding change place
place_unseen p g q k [] = refl
place_unseen p g q k (x ∷ xs) =
    split (p x) (λ e. rw (e, k x e)) (λ e. rw e (ap (λ (n : ℕ). cond (q x) 0 (suc n)) (place_unseen p g q k xs)))
