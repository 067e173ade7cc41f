-- `pack_text::put_items` meets its contract. The loop keeps what is left to write: the lines of the items left.
use Prim.Native.Nat.{◌+◌, ◌≤◌}
use mathlib.Core.List.{◌++◌}
use native.Mathlib.Omega.{arith}
use lib.ListN.{length, get_or, drop, length-append}
use Rattle.runs.proofs.Those.{each_at}
use Rattle.runs.proofs.Writing.{Writing, writing_as, writing_run, writing_done}
use Rattle.pack.specs.Slots.{blank}
use Rattle.pack.proofs.Made.{made_none}
use Rattle.pack_text.specs.Items.{item_line, item_lines, ItemStands}
use Rattle.pack_text.proofs.Items.{lines_next}
use Rattle.pack_text.proofs.put_items.Goals as goal
use Rattle.pack_text.proofs.put_items.Goals.{In-loop-item}

-- what is left where the loop goes on: the line of the next item, then the others
left : (c : In-loop-item)
    → let a = c.args in
    let l = c.loop-item in
    Writing a.out.now a.at (item_lines a.pack.now a.places.now a.items.now) l.out l.next
    (item_line a.pack.now a.places.now (get_or a.items.now l.item-index blank) ++ item_lines a.pack.now a.places.now (drop (l.item-index + 1) a.items.now))
left c =
    let a = c.args in
    writing_as (lines_next a.pack.now a.places.now a.items.now c.loop-item.item-index blank c.loop-item-test.true) c.loop-item.invariant

pub put_item-next-requires : goal.put_item-next-requires
put_item-next-requires c =
    let a = c.args in
    let i = c.loop-item.item-index in
    let first = item_line a.pack.now a.places.now (get_or a.items.now i blank) in
    let more = item_lines a.pack.now a.places.now (drop (i + 1) a.items.now) in (
      omega (arith, (left (goal.at.put_item-next-requires c).In-loop-item).room, length-append first more),
      each_at (ItemStands a.pack.now a.places.now) a.items.now i blank c.requires.1 c.loop-item-test.true,
    )

pub loop-item-preserved : goal.loop-item-preserved
loop-item-preserved c = writing_run _ _ (left (goal.at.loop-item-preserved c).In-loop-item) c.put_item-next.ensures

pub returns : goal.returns
returns c =
    let a = c.args in
    let h : length a.items.now ≤ c.loop-item.item-index = omega (arith, c.loop-item-test.false) in
    writing_done (writing_as (made_none (item_line a.pack.now a.places.now) a.items.now c.loop-item.item-index h) c.loop-item.invariant)
