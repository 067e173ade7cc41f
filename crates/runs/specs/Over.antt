-- Trusted. A lent buffer after a run of bytes was written into it.
use Rattle.std.specs.Prelude.{◌≡◌, List, ◌++◌, ℕ, ◌+◌, length, take, drop}

-- xs with ys in the place of what stands from a on: nothing else changes
unfoldable pub over : List ℕ → ℕ → List ℕ → List ℕ
over xs a ys = take a xs ++ (ys ++ drop (a + length ys) xs)

-- what a writer promises: it answers the place after the bytes, and the buffer holds them and is otherwise as before
pub record Wrote (before : List ℕ) (at : ℕ) (bytes : List ℕ) (answer : ℕ) (after : List ℕ) : Type 0 where
  pub next : answer ≡ at + length bytes
  pub buffer : after ≡ over before at bytes
