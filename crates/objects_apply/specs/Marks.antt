-- Inner. Where the elements of a table stand, as an array of marks: at an element one more than its slot, and 0 where it has none.
use Rattle.std.specs.Prelude.{◌≡◌, List, cond, ℕ, suc, length, get_or, ltb}
use Rattle.runs.specs.Finding.{place}
use Rattle.objects.specs.declared.Object.{Object}
use Rattle.objects.specs.Entries.{free, names, named}

-- the mark of an element
unfoldable pub mark_of : List Object → ℕ → ℕ
mark_of t n = cond (free (named t n)) 0 (suc (place (names n) t))

-- the mark that an array has for it: none for a number that is no element
unfoldable pub mark_in : List ℕ → ℕ → ℕ
mark_in s n = cond (ltb n 4096) (get_or s n 0) 0

-- an array has the marks of a table
pub record Marks (t : List Object) (s : List ℕ) : Type 0 where
  pub long : length s ≡ 4096
  pub each : (n : ℕ) → mark_in s n ≡ mark_of t n
