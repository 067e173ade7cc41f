-- Laws of a rule that holds of all elements of a list, and of the elements that pass a test.
use mathlib.Core.Path.{◌≡◌, refl, sym, ap, subst}
use mathlib.Core.List.Memᴰ
use mathlib.Core.List.{List, [], ◌∷◌, ◌++◌, map, Memᴰ}
use mathlib.Core.Bool.{Bool, true}
use Prim.Native.Nat.{ℕ, zero, suc, ◌<◌, ◌≤◌}
use native.Mathlib.Omega.{arith}
use lib.ListN.{length, get_or, replicate}
use Rattle.runs.proofs.Cases.{split}
use Rattle.runs.specs.Those.{those, Each}

pub each_map : {A : Type 0} {P Q : A → Type 0} → ((x : A) → P x → Q x) → (xs : List A) → Each P xs → Each Q xs
each_map f [] h = h
each_map f (x ∷ xs) h = (f x h.0, each_map f xs h.1)

pub each_both : {A : Type 0} {P Q R : A → Type 0} → ((x : A) → P x → Q x → R x) → (xs : List A) → Each P xs → Each Q xs → Each R xs
each_both f [] g h = g
each_both f (x ∷ xs) g h = (f x g.0 h.0, each_both f xs g.1 h.1)

-- of what a map makes of the elements, and back
pub each_made : {A B : Type 0} (P : B → Type 0) (f : A → B) (xs : List A) → Each P (map f xs) → Each (λ (x : A). P (f x)) xs
each_made P f [] h = h
each_made P f (x ∷ xs) h = (h.0, each_made P f xs h.1)

pub each_on : {A B : Type 0} (P : B → Type 0) (f : A → B) (xs : List A) → Each (λ (x : A). P (f x)) xs → Each P (map f xs)
each_on P f [] h = h
each_on P f (x ∷ xs) h = (h.0, each_on P f xs h.1)

module _ {A : Type 0} (P : A → Type 0) where
  -- of an element
  pub each_member : {x : A} (xs : List A) → Each P xs → Memᴰ x xs → P x
  each_member [] h m = absurd (Memᴰ.not-nil m)
  each_member {x} (y ∷ xs) h (Memᴰ.head e) = subst P (sym e) h.0
  each_member (y ∷ xs) h (Memᴰ.tail m) = each_member xs h.1 m

  -- of the element at a place
  pub each_at : (xs : List A) (i : ℕ) (d : A) → Each P xs → i < length xs → P (get_or xs i d)
  each_at [] i d h below = absurd (omega arith)
  each_at (x ∷ xs) zero d h below = h.0
  each_at (x ∷ xs) (suc i) d h below = each_at xs i d h.1 (omega arith)

  -- of one element again and again
  pub each_same : (n : ℕ) (d : A) → P d → Each P (replicate n d)
  each_same zero d h = search
  each_same (suc n) d h = (h, each_same n d h)

  -- of the elements of two lists
  pub each_append : (xs ys : List A) → Each P xs → Each P ys → Each P (xs ++ ys)
  each_append [] ys g h = h
  each_append (x ∷ xs) ys g h = (g.0, each_append xs ys g.1 h)

  pub each_left : (xs ys : List A) → Each P (xs ++ ys) → Each P xs
  each_left [] ys h = search
  each_left (x ∷ xs) ys h = (h.0, each_left xs ys h.1)

  pub each_right : (xs ys : List A) → Each P (xs ++ ys) → Each P ys
  each_right [] ys h = h
  each_right (x ∷ xs) ys h = each_right xs ys h.1

module _ {A : Type 0} (test : A → Bool) where
  -- what passes the test passes it
  pub those_pass : (xs : List A) → Each (λ (x : A). test x ≡ true) (those test xs)
  unfolding those
  those_pass [] = search
  those_pass (x ∷ xs) = let i = those_pass xs in split (test x) (λ e. rw e (e, i)) (λ e. rw e i)

  -- a rule of all elements is one of those that pass
  pub those_each : (P : A → Type 0) (xs : List A) → Each P xs → Each P (those test xs)
  unfolding those
  those_each P [] h = h
  those_each P (x ∷ xs) h = let i = those_each P xs h.1 in split (test x) (λ e. rw e (h.0, i)) (λ e. rw e i)

  pub those_few : (xs : List A) → length (those test xs) ≤ length xs
  unfolding those
  those_few [] = omega arith
  those_few (x ∷ xs) = let i = those_few xs in split (test x) (λ e. rw e (omega arith)) (λ e. rw e (omega arith))

  -- where all pass, nothing goes
  pub those_same : (xs : List A) → Each (λ (x : A). test x ≡ true) xs → those test xs ≡ xs
  unfolding those
  those_same [] h = refl
  those_same (x ∷ xs) h = rw h.0 (ap (λ (l : List A). x ∷ l) (those_same xs h.1))

  pub those_append : (xs ys : List A) → those test (xs ++ ys) ≡ those test xs ++ those test ys
  unfolding those
  those_append [] ys = refl
  those_append (x ∷ xs) ys =
      split (test x) (λ e. rw e (ap (λ (l : List A). x ∷ l) (those_append xs ys))) (λ e. rw e (those_append xs ys))

-- the test before a map, and after it
pub those_map : {A B : Type 0} (f : A → B) (test : B → Bool) (xs : List A) → those test (map f xs) ≡ map f (those (λ (x : A). test (f x)) xs)
unfolding those
those_map f test [] = refl
those_map {B} f test (x ∷ xs) =
    split (test (f x)) (λ e. rw e (ap (λ (l : List B). f x ∷ l) (those_map f test xs))) (λ e. rw e (those_map f test xs))
