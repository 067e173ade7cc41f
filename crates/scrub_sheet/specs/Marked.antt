-- Inner. Marks for numbers that were seen, one bit for each remainder by 64.
use Rattle.std.specs.Prelude.{◌≡◌, List, true, ℕ, ◌%◌}
use Rattle.std.specs.Int.{bit_at}
use Rattle.runs.specs.Same.{among}

-- of each of these numbers the remainder is marked
abbrev pub Marked : List ℕ → ℕ → Type 0
Marked xs seen = (m : ℕ) → among m xs ≡ true → bit_at seen (m % 64) ≡ 1
