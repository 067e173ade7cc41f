-- `pack_text::put_items` meets its contract. The loop keeps what is left to write: the lines of the items left.
use lib.ListN.{drop}
use Rattle.runs.proofs.Writing.{Writing}
use Rattle.pack_text.specs.Items.{item_lines}
use Rattle.pack_text.proofs.put_items.Given as goal

abbrev pub invariant-loop-item : goal.invariant-loop-item
invariant-loop-item l =
    Writing l.initial.out l.at (item_lines l.pack l.places l.items) l.out l.next (item_lines l.pack l.places (drop l.item-index l.items))
