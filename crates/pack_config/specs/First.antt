-- Inner. What the code looks for first.
use Rattle.std.specs.Prelude.{List, cond, Option, Some, None, ℕ, eqb}
use Rattle.pack.specs.Payloads.{payload_at, case_found}
use Rattle.pack.specs.declared.Stretch.{Stretch}

-- the value of a whole Config at `at`, if one is there
unfoldable pub first_at : List ℕ → ℕ → Option Stretch
first_at s at = case_found (payload_at s at) (λ t v l. cond (eqb t 1) (Some (record { start = v; len = l })) None) (λ why. None)
