-- Inner. What is told of the inside of a Sync, by a check and by a reading.
use Rattle.std.specs.Prelude.{◌≡◌, List, Ok, ℕ, ◌+◌, ◌≤◌, length}
use Rattle.refusals.specs.Outcomes.{answered, Answer}
use Rattle.pack.specs.Fixed.{item_cap}
use Rattle.pack.specs.Payloads.{Ground, inners_from}
use Rattle.pack.specs.declared.Payload.{Payload}

-- the count of the payloads of an inside q, with the `used` before them; fuel, if it is enough, does not matter
pub record InsideTold (q : List ℕ) (grounds : Ground) (base used : ℕ) (r : Answer) : Type 0 where
  pub told : (k : ℕ) → length q ≤ k → r ≡ answered (λ (xs : List Payload). used + length xs) (inners_from k q grounds base 0 used)
  pub few : (n : ℕ) → r ≡ Ok n → n ≤ item_cap
