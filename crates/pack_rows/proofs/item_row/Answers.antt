-- `pack_rows::item_row` meets its contract. By the item.
use mathlib.Core.Path.{◌≡◌, sym, ap, ◌∙◌}
use Rattle.pack.specs.declared.Item.{Item}
use Rattle.pack.proofs.Slots.{single_fits, inner_fits}
use Rattle.pack_rows.specs.Rows.{item_row}
use Rattle.pack_rows.proofs.Laws.{row_sync}
use Rattle.pack_rows.proofs.item_row.Goals as goal
use Rattle.pack_rows.proofs.item_row.Goals.{Start}

-- the row of what the item is
as_row : (b : Start) {y : Item} → let a = b.args in a.item ≡ y → item_row a.places.now y ≡ item_row a.places.now a.item
as_row b e = ap (item_row b.args.places.now) (sym e)

pub returns-in-Single : goal.returns-in-Single
unfolding item_row
returns-in-Single c = c.payload_row.ensures ∙ as_row (goal.at.returns-in-Single c).Start c.in-Single.is

pub returns-in-Inner : goal.returns-in-Inner
unfolding item_row
returns-in-Inner c = c.payload_row-in-Inner.ensures ∙ as_row (goal.at.returns-in-Inner c).Start c.in-Inner.is

pub returns-in-Sync : goal.returns-in-Sync
unfolding item_row
returns-in-Sync c = row_sync _ c.extended-offset.ensures ∙ as_row (goal.at.returns-in-Sync c).Start c.in-Sync.is

pub payload_row-requires : goal.payload_row-requires
payload_row-requires c = single_fits _ c.in-Single.is c.requires

pub payload_row-requires-in-Inner : goal.payload_row-requires-in-Inner
payload_row-requires-in-Inner c = inner_fits _ c.in-Inner.is c.requires
