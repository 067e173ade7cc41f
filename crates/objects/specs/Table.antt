-- Trusted. Which tables are taken: TABLE refuses the others.
use Rattle.std.specs.Prelude.{List, [], ◌∷◌, Bool, true, ◌&&◌, ◌||◌, length, leb, eqb}
use Rattle.runs.specs.Finding.{count}
use Rattle.objects.specs.declared.Object.{Object}
use Rattle.objects.specs.Entries.{free, names}

-- each passes the test
unfoldable pub every : {A : Type 0} → (A → Bool) → List A → Bool
every test [] = true
every test (x ∷ xs) = test x && every test xs

-- no used entry has the element of a later one
unfoldable pub once : List Object → Bool
once [] = true
once (e ∷ t) = (free e || eqb (count (names e.element) t) 0) && once t

module _ (good : Object → Bool) where
  -- a used entry's fields are none that is reserved or too wide; a free entry's are not looked at
  unfoldable pub fit : Object → Bool
  fit e = free e || good e

  -- at most 128 entries, each fit, and no element twice
  unfoldable pub rules : List Object → List Bool
  rules t = leb (length t) 128 ∷ every fit t ∷ once t ∷ []

  unfoldable pub judged : List Object → Bool
  judged t = every (λ (b : Bool). b) (rules t)
