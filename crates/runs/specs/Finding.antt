-- Trusted. The elements of a list that pass a test: how many there are, the first of them, and the list with that one changed; the distinct numbers of a list.
use Rattle.std.specs.Prelude.{List, [], ◌∷◌, Bool, not, cond, ℕ, zero, suc, eqb}
use Rattle.runs.specs.Those.{those}

-- how many pass the test
unfoldable pub count : {A : Type 0} → (A → Bool) → List A → ℕ
count test [] = 0
count test (x ∷ xs) = cond (test x) (suc (count test xs)) (count test xs)

-- the first that passes, or d where none does
unfoldable pub first : {A : Type 0} → (A → Bool) → A → List A → A
first test d [] = d
first test d (x ∷ xs) = cond (test x) x (first test d xs)

-- the list with its first that passes changed by g
unfoldable pub change : {A : Type 0} → (A → Bool) → (A → A) → List A → List A
change test g [] = []
change test g (x ∷ xs) = cond (test x) (g x ∷ xs) (x ∷ change test g xs)

-- the numbers of a list, each once, in the order of their first appearance
unfoldable pub distinct : List ℕ → List ℕ
distinct [] = []
distinct (n ∷ ns) = n ∷ those (λ (m : ℕ). not (eqb m n)) (distinct ns)

-- the list with the elements of es, one after the other, each in the next place that passes the test
unfoldable pub fill : {A : Type 0} → (A → Bool) → List A → List A → List A
fill test es [] = []
fill test [] (x ∷ xs) = x ∷ xs
fill test (e ∷ es) (x ∷ xs) = cond (test x) (e ∷ fill test es xs) (x ∷ fill test (e ∷ es) xs)

-- where the first that passes stands; the list's length where none does
unfoldable pub place : {A : Type 0} → (A → Bool) → List A → ℕ
place test [] = 0
place test (x ∷ xs) = cond (test x) 0 (suc (place test xs))

-- how many numbers below b pass the test
unfoldable pub tally : (ℕ → Bool) → ℕ → ℕ
tally test zero = 0
tally test (suc b) = cond (test b) (suc (tally test b)) (tally test b)
