-- `figures::put_hex` meets its contract. The loop keeps what is left to write: the digits of the bytes left, and the byte after them.
use Prim.Native.Nat.{◌+◌, ◌≤◌}
use mathlib.Core.List.{[], ◌∷◌, ◌++◌}
use native.Mathlib.Omega.{arith}
use lib.ListN.{length, length-set}
use Rattle.runs.proofs.Writing.{Writing, writing_as, writing_byte, writing_done}
use Rattle.figures.specs.Figures.{hex}
use Rattle.figures.proofs.Figures.{hex_none, hex_room, hex_turn}
use Rattle.figures.proofs.Fields.{field_put}
use Rattle.figures.proofs.put_hex.Goals as goal
use Rattle.figures.proofs.put_hex.Goals.{After-loop-byte, In-loop-byte}

-- what is left where the loop goes on, and where it ends
more : (c : In-loop-byte)
    → let l = c.loop-byte in l.next + 2 ≤ length l.out
more c =
    let a = c.args in
    let l = c.loop-byte in
    hex_room a.bytes.now l.byte-index (a.end ∷ []) (omega arith) l.invariant

last : (c : After-loop-byte)
    → let a = c.args in
    let l = c.loop-byte in
    Writing a.out.now a.at (hex a.bytes.now ++ (a.end ∷ [])) l.out l.next (a.end ∷ [])
last c =
    let a = c.args in
    let l = c.loop-byte in
    writing_as (hex_none a.bytes.now l.byte-index (a.end ∷ []) (omega arith)) l.invariant

pub bounds-out-next-in-loop-byte : goal.bounds-out-next-in-loop-byte
bounds-out-next-in-loop-byte c = simp length-set (omega (arith, more (goal.at.bounds-out-next-in-loop-byte c).In-loop-byte))

pub loop-byte-preserved : goal.loop-byte-preserved
loop-byte-preserved c =
    let a = c.args in
    let l = c.loop-byte in
    hex_turn a.bytes.now l.byte-index (a.end ∷ []) (omega arith) l.invariant c.hex_digit.ensures c.hex_digit-in-loop-byte.ensures

pub returns : goal.returns
returns c = let a = c.args in field_put (hex a.bytes.now) a.end (writing_done (writing_byte _ [] (last c)))
