-- Laws of the first element that passes a test, over the tests p and q and the change g. `bit` is 1 for a test that holds.
use mathlib.Core.Path.{◌≡◌, refl, ap}
use mathlib.Core.List.{List, [], ◌∷◌, map}
use mathlib.Core.Bool.{Bool, true, false, cond, ◌&&◌}
use Prim.Native.Nat.{ℕ, suc, ◌+◌, ◌<◌}
use native.Mathlib.Omega.{arith}
use lib.ListN.{length}
use Rattle.runs.specs.Those.{those, Each}
use Rattle.runs.specs.Finding.{count, first, change}
use Rattle.runs.proofs.Cases.{split, never}

abbrev pub bit : Bool → ℕ
bit b = cond b 1 0

module _ {A : Type 0} (p : A → Bool) where
  pub first_none : (d : A) (xs : List A) → count p xs ≡ 0 → first p d xs ≡ d
  unfolding count first
  first_none d [] h = refl
  first_none d (x ∷ xs) h =
      split (p x) (λ e. let k = rw e at h in absurd (omega arith)) (λ e. rw e (first_none d xs (rw e at h)))

  pub first_passes : (d : A) (xs : List A) → 0 < count p xs → p (first p d xs) ≡ true
  unfolding count first
  first_passes d [] h = absurd (omega arith)
  first_passes d (x ∷ xs) h = split (p x) (λ e. rw e e) (λ e. rw e (first_passes d xs (rw e at h)))

  -- the default is what is found only where nothing passes
  pub first_default : (d : A) (xs : List A) → p (first p d xs) ≡ false → count p xs ≡ 0
  unfolding count first
  first_default d [] h = refl
  first_default d (x ∷ xs) h =
      split (p x) (λ e. let k : p x ≡ false = rw e at h in never e k) (λ e. rw e (first_default d xs (rw e at h)))

  -- where nothing passes, whatever is to follow of what passes follows
  pub each_none : (P : A → Type 0) (xs : List A) → count p xs ≡ 0 → Each (λ (x : A). p x ≡ true → P x) xs
  unfolding count
  each_none P [] h = search
  each_none P (x ∷ xs) h =
      split (p x) (λ e. let k = rw e at h in absurd (omega arith)) (λ e. (λ t. never t e, each_none P xs (rw e at h)))

module _ {A : Type 0} (p : A → Bool) (g : A → A) where
  pub change_length : (xs : List A) → length (change p g xs) ≡ length xs
  unfolding change
  change_length [] = refl
  change_length (x ∷ xs) = split (p x) (λ e. rw e) (λ e. rw e (ap suc (change_length xs)))

  pub change_none : (xs : List A) → count p xs ≡ 0 → change p g xs ≡ xs
  unfolding change count
  change_none [] h = refl
  change_none (x ∷ xs) h =
      split (p x) (λ e. let k = rw e at h in absurd (omega arith))
      (λ e. rw e (ap (λ (l : List A). x ∷ l) (change_none xs (rw e at h))))

  -- what a view h of the elements does not show of the change, it does not show of the list
  pub change_unseen : {B : Type 0} (h : A → B) → ((x : A) → p x ≡ true → h (g x) ≡ h x) → (xs : List A) → map h (change p g xs) ≡ map h xs
  unfolding change
  change_unseen h k [] = refl
  change_unseen {B} h k (x ∷ xs) =
      split (p x) (λ e. rw e (ap (λ (y : B). y ∷ map h xs) (k x e)))
      (λ e. rw e (ap (λ (l : List B). h x ∷ l) (change_unseen h k xs)))

  -- a rule is kept where the change keeps it
  pub change_each : (P : A → Type 0) → ((x : A) → p x ≡ true → P x → P (g x)) → (xs : List A) → Each P xs → Each P (change p g xs)
  unfolding change
  change_each P k [] a = a
  change_each P k (x ∷ xs) a =
      split (p x) (λ e. rw e (k x e a.0, a.1)) (λ e. rw e (a.0, change_each P k xs a.1))

  module _ (q : A → Bool) where
    -- the first that passes q, where the change neither takes it nor makes another
    pub first_missed : (d : A) → ((x : A) → p x ≡ true → q x ≡ false) → ((x : A) → p x ≡ true → q (g x) ≡ false)
        → (xs : List A) → first q d (change p g xs) ≡ first q d xs
    unfolding change first
    first_missed d h k [] = refl
    first_missed d h k (x ∷ xs) =
        split (p x) (λ e. rw (e, k x e, h x e)) (λ e. rw e (ap (λ (y : A). cond (q x) x y) (first_missed d h k xs)))

    -- and where it is the one that was changed
    pub first_hit : (d : A) → ((x : A) → p x ≡ true → q (g x) ≡ true) → (xs : List A)
        → Each (λ (x : A). q x ≡ true → p x ≡ true) xs → 0 < count p xs → first q d (change p g xs) ≡ g (first p d xs)
    unfolding change first count
    first_hit d k [] a h = absurd (omega arith)
    first_hit d k (x ∷ xs) a h =
        split (p x) (λ e. rw (e, k x e))
        (λ e. split (q x) (λ t. never (a.0 t) e) (λ t. rw (e, t) (first_hit d k xs a.1 (rw e at h))))

    -- how many pass q after the change: one less if it took one, one more if it made one
    pub count_change : (d : A) (xs : List A) → 0 < count p xs
        → count q (change p g xs) + bit (q (first p d xs)) ≡ count q xs + bit (q (g (first p d xs)))
    unfolding change first count
    count_change d [] h = absurd (omega arith)
    count_change d (x ∷ xs) h =
        split (p x)
        (λ e. rw e (split (q x) (λ t. split (q (g x)) (λ u. rw (t, u) (omega arith)) (λ u. rw (t, u) (omega arith)))
        (λ t. split (q (g x)) (λ u. rw (t, u) (omega arith)) (λ u. rw (t, u) (omega arith)))))
        (λ e. let i = count_change d xs (rw e at h) in rw e (split (q x) (λ t. rw t (omega arith)) (λ t. rw t i)))

    -- none the more and none the less
    pub count_unseen : ((x : A) → p x ≡ true → q (g x) ≡ q x) → (xs : List A) → count q (change p g xs) ≡ count q xs
    unfolding change count
    count_unseen k [] = refl
    count_unseen k (x ∷ xs) =
        split (p x) (λ e. rw (e, k x e))
        (λ e. rw e (ap (λ (n : ℕ). cond (q x) (suc n) n) (count_unseen k xs)))

-- two tests, one after the other, are one
pub those_twice : {A : Type 0} (p q r : A → Bool) → ((x : A) → r x ≡ (q x && p x)) → (xs : List A) → those p (those q xs) ≡ those r xs
unfolding those
those_twice p q r h [] = refl
those_twice {A} p q r h (x ∷ xs) =
    let i = those_twice p q r h xs in
    let k = h x in
    split (q x)
    (λ e. split (p x)
    (λ d. let m : r x ≡ true = rw (e, d) at k in rw (e, m, d) (ap (λ (l : List A). x ∷ l) i))
    (λ d. let m : r x ≡ false = rw (e, d) at k in rw (e, m, d) i))
    (λ e. let m : r x ≡ false = rw e at k in rw (e, m) i)
