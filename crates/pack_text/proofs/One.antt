-- Two outcomes that meet the public function's contract on the same pack and buffer coincide: the answers, and the buffers to their last byte.
use mathlib.Core.Path.{◌≡◌}
use mathlib.Core.List.{List}
use Prim.Native.Nat.{ℕ}
use Rattle.runs.specs.Over.{Wrote}
use Rattle.runs.proofs.Over.{wrote_one}
use Rattle.pack.specs.Reading.{reading}
use Rattle.pack_text.specs.Text.{listing}

pub list_one : (pack out : List ℕ) {a b : ℕ} {us vs : List ℕ} → Wrote out 0 (listing pack (reading pack)) a us → Wrote out 0 (listing pack (reading pack)) b vs
    → (a ≡ b) × (us ≡ vs)
list_one pack out = wrote_one
