-- `pack_rows::pack_row` meets its contract: the offset and the mark are those of the two calls.
use Prim.Native.Nat.{ℕ}
use mathlib.Core.Path.{ap₂}
use mathlib.Core.List.{[], ◌∷◌}
use Rattle.pack_rows.specs.Rows.{pack_row}
use Rattle.pack_rows.proofs.pack_row.Goals as goal

pub returns : goal.returns
unfolding pack_row
returns c =
    let n = c.args.found.count in
    ap₂ (λ (o m : ℕ). o ∷ m ∷ n ∷ 0 ∷ 0 ∷ 0 ∷ 0 ∷ 0 ∷ []) c.extended-offset.ensures c.mark.ensures
