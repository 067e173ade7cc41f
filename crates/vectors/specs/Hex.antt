-- Inner. How the vector programs print a byte.
use Rattle.std.specs.Prelude.{List, [], ◌∷◌, ℕ, ◌/◌, ◌%◌, false}
use Rattle.std.specs.Fmt.{digit_glyph}

-- a space, and two digits in base 16
abbrev pub spaced_hex : ℕ → List ℕ
spaced_hex b = 32 ∷ digit_glyph false (b / 16) ∷ digit_glyph false (b % 16) ∷ []
