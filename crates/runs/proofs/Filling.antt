-- A change of the first that passes as a change of all that pass, as a filling and as a store at its place.
use mathlib.Core.Path.{◌≡◌, refl, sym, ap, ◌∙◌}
use mathlib.Core.List.{List, [], ◌∷◌, map}
use mathlib.Core.Bool.{Bool, true, false, cond}
use Prim.Native.Nat.{ℕ, suc, ◌≤◌, ◌<◌}
use native.Mathlib.Omega.{arith}
use lib.ListN.{length, get_or, set, drop, drop_of_length-le}
use lib.Seq.{drop-cons}
use Rattle.runs.specs.Those.{Each}
use Rattle.runs.specs.Finding.{count, first, change, fill, place}
use Rattle.runs.proofs.Cases.{split}

-- a map that leaves each element as it is
pub map_same : {A : Type 0} (h : A → A) (xs : List A) → Each (λ (x : A). h x ≡ x) xs → map h xs ≡ xs
map_same h [] a = refl
map_same {A} h (x ∷ xs) a = ap (λ (y : A). y ∷ map h xs) a.0 ∙ ap (λ (l : List A). x ∷ l) (map_same h xs a.1)

module _ {A : Type 0} (p : A → Bool) where
  -- where at most one passes, the first that passes is all that pass
  if_none : (g : A → A) (xs : List A) → count p xs ≡ 0 → Each (λ (x : A). cond (p x) (g x) x ≡ x) xs
  unfolding count
  if_none g [] h = search
  if_none g (x ∷ xs) h =
      split (p x) (λ e. let k = rw e at h in absurd (omega arith)) (λ e. (rw e, if_none g xs (rw e at h)))

  pub change_map : (g : A → A) (xs : List A) → count p xs ≤ 1 → change p g xs ≡ map (λ (x : A). cond (p x) (g x) x) xs
  unfolding change count
  change_map g [] h = refl
  change_map g (x ∷ xs) h =
      split (p x)
      (λ e. let k = rw e at h in
      let z : count p xs ≡ 0 = omega arith in
      rw e (ap (λ (l : List A). g x ∷ l) (sym (map_same (λ (y : A). cond (p y) (g y) y) xs (if_none g xs z)))))
      (λ e. rw e (ap (λ (l : List A). x ∷ l) (change_map g xs (rw e at h))))

  pub fill_none : (xs : List A) → fill p [] xs ≡ xs
  unfolding fill
  fill_none [] = refl
  fill_none (x ∷ xs) = refl

  -- one more element to fill in is the first free place taken, and the others after it
  pub fill_one : (e : A) → p e ≡ false → (es xs : List A) → fill p (e ∷ es) xs ≡ fill p es (change p (λ (_ : A). e) xs)
  unfolding fill change
  fill_one e h es [] = refl
  fill_one e h [] (x ∷ xs) =
      split (p x) (λ d. rw d (ap (λ (l : List A). e ∷ l) (fill_none xs)))
      (λ d. rw d (ap (λ (l : List A). x ∷ l) (fill_one e h [] xs ∙ fill_none (change p (λ (_ : A). e) xs))))
  fill_one e h (o ∷ es) (x ∷ xs) =
      split (p x) (λ d. rw (d, h)) (λ d. rw (d, d) (ap (λ (l : List A). x ∷ l) (fill_one e h (o ∷ es) xs)))

  -- a map that the test does not see goes under a filling
  pub fill_map : (h : A → A) → ((x : A) → p (h x) ≡ p x) → (es xs : List A) → map h (fill p es xs) ≡ fill p (map h es) (map h xs)
  unfolding fill
  fill_map h k es [] = refl
  fill_map h k [] (x ∷ xs) = refl
  fill_map h k (e ∷ es) (x ∷ xs) =
      split (p x) (λ d. rw (k x, d) (ap (λ (l : List A). h e ∷ l) (fill_map h k es xs)))
      (λ d. rw (k x, d) (ap (λ (l : List A). h x ∷ l) (fill_map h k (e ∷ es) xs)))

  -- for code: the place of the first that passes
  pub place_in : (xs : List A) → 0 < count p xs → place p xs < length xs
  unfolding place count
  place_in [] h = absurd (omega arith)
  place_in (x ∷ xs) h =
      split (p x) (λ e. rw e (omega arith)) (λ e. let i = place_in xs (rw e at h) in rw e (omega arith))

  pub first_place : (d : A) (xs : List A) → first p d xs ≡ get_or xs (place p xs) d
  unfolding first place
  first_place d [] = refl
  first_place d (x ∷ xs) = split (p x) (λ e. rw e) (λ e. rw e (first_place d xs))

  pub change_place : (g : A → A) (d : A) (xs : List A) → change p g xs ≡ set xs (place p xs) (g (get_or xs (place p xs) d))
  unfolding change place
  change_place g d [] = refl
  change_place g d (x ∷ xs) =
      split (p x) (λ e. rw e) (λ e. rw e (ap (λ (l : List A). x ∷ l) (change_place g d xs)))

  -- as a loop goes along the list
  pub place_here : (d : A) (xs : List A) (i : ℕ) → i < length xs → p (get_or xs i d) ≡ true → place p (drop i xs) ≡ 0
  unfolding place
  place_here d xs i h e = rw (drop-cons xs i d, e)

  pub place_on : (d : A) (xs : List A) (i : ℕ) → i < length xs → p (get_or xs i d) ≡ false → place p (drop i xs) ≡ suc (place p (drop (suc i) xs))
  unfolding place
  place_on d xs i h e = rw (drop-cons xs i d, e)

  pub place_done : (xs : List A) (i : ℕ) → length xs ≤ i → place p (drop i xs) ≡ 0
  unfolding place
  place_done xs i h = rw (drop_of_length-le xs h)
