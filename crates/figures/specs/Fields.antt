-- Inner. A field of a line, as it is written.
use Rattle.std.specs.Prelude.{◌≡◌, List, [], ◌∷◌, ◌++◌, ℕ, ◌+◌, length}
use Rattle.runs.specs.Over.{Wrote}

-- what the writer of a field promises: the field's text and the byte after it stand there, and it answers the place after them
pub record FieldPut (before : List ℕ) (at : ℕ) (text : List ℕ) (end answer : ℕ) (after : List ℕ) : Type 0 where
  pub next : answer ≡ at + length text + 1
  pub wrote : Wrote before at (text ++ (end ∷ [])) answer after
