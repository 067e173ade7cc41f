-- How many audio payloads and Syncs a pack says that it has.
use mathlib.Core.List.{List, [], ◌∷◌}
use Prim.Native.Nat.{ℕ, ◌+◌}
use lib.ListN.{length}
use Rattle.pack.specs.Said.{SaidItem, single, sync}

unfoldable pub total : List SaidItem → ℕ
total [] = 0
total (single x ∷ r) = 1 + total r
total (sync o d xs ∷ r) = 1 + length xs + total r
