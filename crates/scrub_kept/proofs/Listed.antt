-- Numbers and labels that are among others, and how many of a list pass a test.
use mathlib.Core.Path.{◌≡◌, refl, sym, subst}
use mathlib.Core.List.Memᴰ
use mathlib.Core.List.{List, [], ◌∷◌, Memᴰ}
use mathlib.Core.Bool.{Bool, true, false, cond, ◌||◌}
use Prim.Native.Nat.{ℕ, ◌<◌, ◌≤◌}
use native.Mathlib.Omega.{arith}
use lib.Dec.{eqb}
use lib.ListN.{length}
use borrow.Author.Tests.{eq-eqb, eqb-true}
use Rattle.runs.specs.Same.{same, among, listed}
use Rattle.runs.proofs.Cases.{split, absurd_eq}
use Rattle.runs.proofs.Same.{same_refl, same_true}
use Rattle.runs.specs.Those.{those}

pub never : {P : Type 0} → true ≡ false → P
never e = absurd_eq (cc)

-- the head of a list on whichever side it is looked for
pub or_moved : (b f r : Bool) → cond b true f || r ≡ f || cond b true r
or_moved true true r = refl
or_moved true false r = refl
or_moved false f r = refl

pub among_here : (n : ℕ) (xs : List ℕ) → among n (n ∷ xs) ≡ true
unfolding among
among_here n xs = rw (eq-eqb n n refl)

pub among_more : (n x : ℕ) (xs : List ℕ) → among n xs ≡ true → among n (x ∷ xs) ≡ true
unfolding among
among_more n x xs h = split (eqb x n) (λ e. rw e) (λ e. rw e h)

pub listed_here : (l : List ℕ) (ls : List (List ℕ)) → listed l (l ∷ ls) ≡ true
unfolding listed
listed_here l ls = rw (same_refl l)

pub listed_more : (l x : List ℕ) (ls : List (List ℕ)) → listed l ls ≡ true → listed l (x ∷ ls) ≡ true
unfolding listed
listed_more l x ls h = split (same x l) (λ e. rw e) (λ e. rw e h)

pub among_mem : (n : ℕ) (xs : List ℕ) → among n xs ≡ true → Memᴰ n xs
unfolding among
among_mem n [] h = never (sym h)
among_mem n (x ∷ xs) h = split (eqb x n) (λ e. Memᴰ.head (sym (eqb-true x n e))) (λ e. Memᴰ.tail (among_mem n xs (simp e at h)))

pub listed_mem : (l : List ℕ) (ls : List (List ℕ)) → listed l ls ≡ true → Memᴰ l ls
unfolding listed
listed_mem l [] h = never (sym h)
listed_mem l (x ∷ ls) h = split (same x l) (λ e. Memᴰ.head (sym (same_true x l e))) (λ e. Memᴰ.tail (listed_mem l ls (simp e at h)))

-- of a list no more pass a narrower test than a wider one, and fewer where an element passes only the wider
module _ {A : Type 0} (wide narrow : A → Bool) (less : (x : A) → narrow x ≡ true → wide x ≡ true) where
  those_less : (xs : List A) → length (those narrow xs) ≤ length (those wide xs)
  unfolding those
  those_less [] = omega arith
  those_less (y ∷ xs) =
      let i = those_less xs in
      split (narrow y) (λ e. rw (e, less y e) (omega arith)) (λ e. split (wide y) (λ g. rw (e, g) (omega arith)) (λ g. rw (e, g) (omega arith)))

  pub those_fewer : {x : A} (xs : List A) → Memᴰ x xs → wide x ≡ true → narrow x ≡ false → length (those narrow xs) < length (those wide xs)
  unfolding those
  those_fewer [] m a b = absurd (Memᴰ.not-nil m)
  those_fewer (y ∷ xs) (Memᴰ.head e) a b =
      let i = those_less xs in
      let c : wide y ≡ true = subst (λ (z : A). wide z ≡ true) e a in
      let d : narrow y ≡ false = subst (λ (z : A). narrow z ≡ false) e b in
      rw (c, d) (omega arith)
  those_fewer (y ∷ xs) (Memᴰ.tail m) a b =
      let i = those_fewer xs m a b in
      split (narrow y) (λ e. rw (e, less y e) (omega arith)) (λ e. split (wide y) (λ g. rw (e, g) (omega arith)) (λ g. rw (e, g) (omega arith)))
