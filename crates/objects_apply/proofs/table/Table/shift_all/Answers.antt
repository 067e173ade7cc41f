-- What is left of the records comes to what all of them come to.
use mathlib.Core.Path.{◌≡◌, refl, sym, ap, ◌∙◌}
use Prim.Native.Nat.{◌/◌, ◌<◌}
use native.Mathlib.Omega.{arith}
use lib.ListN.{length, get_or}
use Rattle.std.specs.Prelude.{Ok, Err}
use Rattle.std.proofs.lemmas.Result.{err_from_is_err_and}
use Rattle.runs.proofs.Cells.{length_cells, cell_at}
use Rattle.objects_pmd.specs.Values.{xyz_at}
use Rattle.objects_apply.specs.Worked.{moves_of}
use Rattle.objects_apply.proofs.Moving.{starts, ends, stops, moves}
use Rattle.objects_apply.proofs.table.Table.shift_all.Goals as goal
use Rattle.objects_apply.proofs.table.Table.shift_all.Goals.{After-xyz_at, In-loop-k}

pub loop-k-init : goal.loop-k-init
loop-k-init c = starts _ _

-- a turn: its place among the records, and its record
below : (c : In-loop-k) → c.loop-k.k < length (moves_of c.args.numbers.now)
below c =
    let s = c.args.numbers.now in
    let l = length_cells xyz_at 4 (length s / 4) s in omega (arith, c.loop-k-test.true)

turn : (c : After-xyz_at) → c.xyz_at.result ≡ get_or (moves_of c.args.numbers.now) c.loop-k.k c.xyz_at.result
turn c =
    let s = c.args.numbers.now in
    c.xyz_at.ensures ∙ sym (cell_at xyz_at 4 (length s / 4) s c.loop-k.k c.xyz_at.result c.loop-k-test.true)

pub returns-in_err-shift : goal.returns-in_err-shift
returns-in_err-shift c =
    let p = err_from_is_err_and c.from_residual.result c.from_residual.ensures.1 in
    stops c.loop-k.invariant (below (goal.at.returns-in_err-shift c).In-loop-k) _ (turn (goal.at.returns-in_err-shift c).After-xyz_at) c.in_err-shift.ensures.told
    (p.1 ∙ ap Err p.2)

pub loop-k-preserved : goal.loop-k-preserved
loop-k-preserved c =
    moves c.loop-k.invariant (below (goal.at.loop-k-preserved c).In-loop-k) _ (turn (goal.at.loop-k-preserved c).After-xyz_at) c.in_ok-shift.ensures.told
    c.in_ok-shift.ensures.table

pub returns : goal.returns
returns c =
    let s = c.args.numbers.now in
    let l = length_cells xyz_at 4 (length s / 4) s in
    ends c.loop-k.invariant (omega (arith, c.loop-k-test.false)) (ap Ok (sym l))
