-- Which tables are taken, said by rules: the test `judged` says the same as the record `Well`.
use mathlib.Core.Path.{◌≡◌, refl}
use mathlib.Core.List.{List, [], ◌∷◌}
use mathlib.Core.Bool.{Bool, true, false, ◌||◌}
use Prim.Native.Nat.{ℕ, ◌≤◌}
use native.Mathlib.Omega.{arith}
use lib.ListN.{length}
use lib.Dec.{eqb}
use borrow.Author.Tests.{eqb-true, eq-eqb, leb-true, le-leb}
use Rattle.runs.specs.Those.{Each}
use Rattle.runs.specs.Finding.{count}
use Rattle.runs.proofs.Cases.{split, never}
use Rattle.runs.proofs.Bools.{and_both, both_and, either}
use Rattle.objects.specs.declared.Object.{Object}
use Rattle.objects.specs.Entries.{free, names}
use Rattle.objects.specs.Table.{every, once, fit, rules, judged}
use Rattle.objects.proofs.Keys.{names_key, key_names}

pub every_each : {A : Type 0} (test : A → Bool) (xs : List A) → every test xs ≡ true → Each (λ (x : A). test x ≡ true) xs
unfolding every
every_each test [] h = search
every_each test (x ∷ xs) h = let both = and_both (test x) (every test xs) h in (both.0, every_each test xs both.1)

pub each_every : {A : Type 0} (test : A → Bool) (xs : List A) → Each (λ (x : A). test x ≡ true) xs → every test xs ≡ true
unfolding every
each_every test [] h = refl
each_every test (x ∷ xs) h = both_and (test x) (every test xs) h.0 (each_every test xs h.1)

-- no repeats, by counting
pub once_few : (t : List Object) → once t ≡ true → (n : ℕ) → count (names n) t ≤ 1
unfolding once count
once_few [] h n = omega arith
once_few (e ∷ t) h n =
    let both = and_both (free e || eqb (count (names e.element) t) 0) (once t) h in
    let i = once_few t both.1 n in
    split (names n e)
    (λ p. rw p (either (free e) (eqb (count (names e.element) t) 0) both.0
    (λ d. never d (names_key p).used)
    (λ d. let a = eqb-true (count (names e.element) t) 0 d in
    let b : count (names n) t ≡ 0 = rw (names_key p).element at a in omega arith)))
    (λ p. rw p i)

pub few_once : (t : List Object) → ((n : ℕ) → count (names n) t ≤ 1) → once t ≡ true
unfolding once count
few_once [] h = refl
few_once (e ∷ t) h =
    both_and (free e || eqb (count (names e.element) t) 0) (once t)
    (split (free e) (λ d. rw d) (λ d. rw d (none d)))
    (few_once t (λ n. tail n))
  where
    none : free e ≡ false → eqb (count (names e.element) t) 0 ≡ true
    none d =
        let p : names e.element e ≡ true = key_names (record { used = d; element = refl }) in
        let k = rw p at (h e.element) in
        eq-eqb (count (names e.element) t) 0 (omega arith)

    tail : (n : ℕ) → count (names n) t ≤ 1
    tail n = split (names n e) (λ p. let k = rw p at (h n) in omega arith) (λ p. rw p at (h n))

module _ (good : Object → Bool) where
  pub record Well (t : List Object) : Type 0 where
    pub short : length t ≤ 128
    pub sound : Each (λ (e : Object). fit good e ≡ true) t
    pub single : (n : ℕ) → count (names n) t ≤ 1

  pub judged_well : (t : List Object) → judged good t ≡ true → Well t
  unfolding judged rules
  judged_well t h =
      let a = every_each (λ (b : Bool). b) (rules good t) h in
      record {
        short = leb-true (length t) 128 a.0;
        sound = every_each (fit good) t a.1.0;
        single = once_few t a.1.1.0;
      }

  pub well_judged : (t : List Object) → Well t → judged good t ≡ true
  unfolding judged rules
  well_judged t w =
      each_every (λ (b : Bool). b) (rules good t)
      (le-leb (length t) 128 w.short, (each_every (fit good) t w.sound, (few_once t w.single, tt)))
