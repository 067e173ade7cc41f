-- A pack's opening and its reading into lent arrays admit one outcome, told entry by entry.
use Prim.Native.Nat.{ℕ}
use mathlib.Core.Path.{◌≡◌}
use mathlib.Core.List.{List}
use Rattle.std.specs.Prelude.{Result}
use Rattle.runs.proofs.Cases.{one}
use Rattle.refusals.specs.declared.Refused.{Refused}
use Rattle.refusals.specs.Outcomes.{Outcome}
use Rattle.pack.specs.Reading as R
use Rattle.pack.specs.declared.Item.{Item}
use Rattle.pack_config.specs.declared.table.Mappings.{Mappings}
use Rattle.pack_config.proofs.One.{index_one}
use Rattle.pack_read.specs.Steps.{Opens}
use Rattle.pack_read.specs.Shown.{Outlined}
use Rattle.pack_read.specs.declared.Opening.{Opening}
use Rattle.pack_read.specs.declared.Outline.{Outline}

-- how the pack opens, and each number of its mappings
pub opens_one : (o : Outcome R.Opening) (a b : Result Opening Refused) (m n : Mappings) → Opens o a m → Opens o b n
    → (a ≡ b) × (m.count ≡ n.count) × (m.tags ≡ n.tags) × (m.places ≡ n.places) × (m.known ≡ n.known)
opens_one o a b m n g h =
    let x = g.tables in
    let y = h.tables in
    (one g.told h.told, one x.counted y.counted, one x.tagged y.tagged, one x.placed y.placed, index_one _ x.index y.index x.indexes y.indexes)

-- the outline, each item, and each number of the mappings
pub outline_one : (s : List ℕ) (a b : Result Outline Refused) (xs ys : List Item) (m n : Mappings) → Outlined s a xs m → Outlined s b ys n
    → (a ≡ b) × (xs ≡ ys) × (m.count ≡ n.count) × (m.tags ≡ n.tags) × (m.places ≡ n.places) × (m.known ≡ n.known)
outline_one s a b xs ys m n g h =
    let x = g.tables in
    let y = h.tables in
    (one g.told h.told, one g.held h.held, one x.counted y.counted, one x.tagged y.tagged, one x.placed y.placed, index_one _ x.index y.index x.indexes y.indexes)
