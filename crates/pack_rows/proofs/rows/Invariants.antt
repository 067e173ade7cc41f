-- `pack_rows::rows` meets its contract: each return by what is delivered there. The loop keeps what is left to write: the numbers of the rows left.
use Rattle.std.proofs.Common.{take, drop}
use Rattle.runs.proofs.Writing.{Writing}
use Rattle.pack.specs.Made.{made}
use Rattle.pack_rows.specs.Rows.{item_row}
use Rattle.pack_rows.proofs.rows.Given as goal

abbrev pub invariant-loop-i : goal.invariant-loop-i
invariant-loop-i l =
    Writing l.initial.out l.initial.next (made (item_row l.maps.places) (take l.i-end l.items)) l.out l.next (made (item_row l.maps.places) (drop l.i (take l.i-end l.items)))
