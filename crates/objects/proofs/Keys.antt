-- Which entry is an element's: one that is used and has that element, and nothing else of it matters.
use mathlib.Core.Path.{◌≡◌, sym, ap, ◌∙◌}
use mathlib.Core.List.{List}
use mathlib.Core.Bool.{true, false, not}
use Prim.Native.Nat.{ℕ, ◌<◌}
use native.Mathlib.Omega.{arith}
use lib.Dec.{eqb, ltb}
use borrow.Author.Tests.{eqb-true, eq-eqb, ltb-false, ltb-true, not-true}
use Rattle.runs.specs.Finding.{count, first}
use Rattle.runs.proofs.Cases.{split, never}
use Rattle.runs.proofs.Bools.{and_both}
use Rattle.runs.proofs.Finding.{first_none, first_default}
use Rattle.objects.specs.declared.Object.{Object}
use Rattle.objects.specs.Entries.{blank, free, mine, names, named}

-- what the entry of element n is known by
pub record Key (n : ℕ) (e : Object) : Type 0 where
  pub used : free e ≡ false
  pub element : e.element ≡ n

pub names_key : {n : ℕ} {e : Object} → names n e ≡ true → Key n e
unfolding names mine
names_key {n} {e} h =
    let both = and_both (not (free e)) (eqb e.element n) h in
    record { used = not-true (free e) both.0; element = eqb-true e.element n both.1 }

pub key_names : {n : ℕ} {e : Object} → Key n e → names n e ≡ true
unfolding names mine
key_names {n} {e} k = rw (k.used, eq-eqb e.element n k.element)

-- entries of one element are named, and used, alike
pub key_same : (m : ℕ) (d e : Object) → d.element ≡ e.element → names m d ≡ names m e
unfolding names mine
key_same m d e q = rw q

pub key_mine : (d e : Object) → d.element ≡ e.element → mine d ≡ mine e
unfolding mine
key_mine d e q = rw q

-- a free entry is no element's, and an element's is no other's
pub free_apart : (n : ℕ) (e : Object) → free e ≡ true → names n e ≡ false
unfolding names mine
free_apart n e h = rw h

pub names_apart : (n m : ℕ) (e : Object) → names n e ≡ true → eqb m n ≡ false → names m e ≡ false
names_apart n m e h d =
    split (names m e)
    (λ k. never (eq-eqb m n (sym (names_key k).element ∙ (names_key h).element)) d)
    (λ k. k)

pub names_mine : (n : ℕ) (e : Object) → names n e ≡ true → mine e ≡ true
unfolding names
names_mine n e h = (and_both (mine e) (eqb e.element n) h).0

pub mine_other : (n : ℕ) (e : Object) → mine e ≡ true → names n e ≡ false → eqb e.element n ≡ false
unfolding names
mine_other n e m d = rw m at d

-- what is found is used exactly where something is there to be found
module _ (n : ℕ) (t : List Object) where
  pub named_none : free (named t n) ≡ true → count (names n) t ≡ 0
  unfolding named
  named_none h = first_default (names n) blank t (free_apart n (first (names n) blank t) h)

  pub named_some : free (named t n) ≡ false → 0 < count (names n) t
  unfolding named
  named_some h =
      split (ltb 0 (count (names n) t)) (λ e. ltb-true 0 (count (names n) t) e)
      (λ e. let z : count (names n) t ≡ 0 = omega (arith, ltb-false 0 (count (names n) t) e) in
      never (ap free (first_none (names n) blank t z)) h)
