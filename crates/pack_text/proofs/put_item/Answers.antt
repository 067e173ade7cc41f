-- `pack_text::put_item` meets its contract: each case of an item is a line of its own.
use Prim.Native.Nat.{◌+◌, ◌≤◌}
use mathlib.Core.Path.{◌≡◌, refl, sym, ap}
use native.Mathlib.Omega.{arith}
use lib.ListN.{length}
use Rattle.runs.proofs.Over.{wrote_as}
use Rattle.pack.specs.declared.Item.{Item}
use Rattle.pack_text.specs.Items.{item_line, ItemStands}
use Rattle.pack_text.proofs.Fields.{line_room}
use Rattle.pack_text.proofs.Items.{item_is}
use Rattle.pack_text.proofs.put_item.Goals as goal
use Rattle.pack_text.proofs.put_item.Goals.{Start}

-- what is asked and written, by what the item is
room : (b : Start) {y : Item}
    → let a = b.args in a.item ≡ y → (a.at + length (item_line a.pack.now a.places.now y) ≤ length a.out.now) × ItemStands a.pack.now a.places.now y
room b e = let a = b.args in item_is a.pack.now a.places.now a.at (length a.out.now) e b.requires

as_line : (b : Start) {y : Item} → let a = b.args in a.item ≡ y → item_line a.pack.now a.places.now y ≡ item_line a.pack.now a.places.now a.item
as_line b e = let a = b.args in ap (item_line a.pack.now a.places.now) (sym e)

pub put_payload-requires : goal.put_payload-requires
put_payload-requires c = room (goal.at.put_payload-requires c).Start c.in-Single.is

pub put_sync-requires : goal.put_sync-requires
put_sync-requires c = line_room _ _ _ (omega arith) refl (room (goal.at.put_sync-requires c).Start c.in-Sync.is).0

pub put_payload-requires-in-Inner : goal.put_payload-requires-in-Inner
put_payload-requires-in-Inner c = room (goal.at.put_payload-requires-in-Inner c).Start c.in-Inner.is

pub returns-in-Single : goal.returns-in-Single
returns-in-Single c = wrote_as (as_line (goal.at.returns-in-Single c).Start c.in-Single.is) c.put_payload.ensures

pub returns-in-Sync : goal.returns-in-Sync
returns-in-Sync c = wrote_as (as_line (goal.at.returns-in-Sync c).Start c.in-Sync.is) c.put_sync.ensures

pub returns-in-Inner : goal.returns-in-Inner
returns-in-Inner c = wrote_as (as_line (goal.at.returns-in-Inner c).Start c.in-Inner.is) c.put_payload-in-Inner.ensures
