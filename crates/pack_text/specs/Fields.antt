-- Inner. The fields of a line.
use Rattle.std.specs.Prelude.{List, [], ◌∷◌, ℕ, ◌+◌, length}

-- how many bytes fields take, each with the byte after it
abbrev pub sizes : List (List ℕ) → ℕ
sizes [] = 0
sizes (x ∷ r) = length x + 1 + sizes r
