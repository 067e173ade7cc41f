-- What is left of the records comes to what all of them come to.
use mathlib.Core.Path.{◌≡◌, refl, sym, ap, ◌∙◌}
use Prim.Native.Nat.{◌/◌, ◌<◌}
use native.Mathlib.Omega.{arith}
use lib.ListN.{length, get_or}
use Rattle.std.specs.Prelude.{Ok, Err}
use Rattle.std.proofs.lemmas.Result.{err_from_is_err_and}
use Rattle.runs.proofs.Cells.{length_cells, cell_at}
use Rattle.objects_pmd.specs.Values.{aod_at, aods_of}
use Rattle.objects_apply.proofs.Putting.{starts, ends, real, small, fills, puts}
use Rattle.objects_apply.proofs.Seats.{done_seat, full_told}
use Rattle.objects_apply.proofs.table.Table.set_all.Goals as goal
use Rattle.objects_apply.proofs.table.Table.set_all.Goals.{After-aod_at, In-loop-k}

pub loop-k-init : goal.loop-k-init
loop-k-init c = starts _ _

-- a turn: its place among the records, and its record
below : (c : In-loop-k) → c.loop-k.k < length (aods_of c.args.numbers.now)
below c =
    let s = c.args.numbers.now in
    let l = length_cells aod_at 11 (length s / 11) s in omega (arith, c.loop-k-test.true)

turn : (c : After-aod_at) → c.aod_at.result ≡ get_or (aods_of c.args.numbers.now) c.loop-k.k c.aod_at.result
turn c =
    let s = c.args.numbers.now in
    c.aod_at.ensures ∙ sym (cell_at aod_at 11 (length s / 11) s c.loop-k.k c.aod_at.result c.loop-k-test.true)

pub set-requires-clause-used : goal.set-requires-clause-used
set-requires-clause-used c =
    real c.loop-k.invariant (below (goal.at.set-requires-clause-used c).In-loop-k) c.requires _ (turn (goal.at.set-requires-clause-used c).After-aod_at)

pub set-requires-clause-small : goal.set-requires-clause-small
set-requires-clause-small c =
    small c.loop-k.invariant (below (goal.at.set-requires-clause-small c).In-loop-k) c.requires _ (turn (goal.at.set-requires-clause-small c).After-aod_at)

pub returns-in_err-set : goal.returns-in_err-set
returns-in_err-set c =
    let p = err_from_is_err_and c.from_residual.result c.from_residual.ensures.1 in
    let f = full_told _ _ c.in_err-set.ensures.told in
    fills c.loop-k.invariant (below (goal.at.returns-in_err-set c).In-loop-k) c.requires _ (turn (goal.at.returns-in_err-set c).After-aod_at) f.none
    (p.1 ∙ ap Err (p.2 ∙ f.told))

pub loop-k-preserved : goal.loop-k-preserved
loop-k-preserved c =
    puts c.loop-k.invariant (below (goal.at.loop-k-preserved c).In-loop-k) c.requires _ (turn (goal.at.loop-k-preserved c).After-aod_at)
    (done_seat _ _ c.in_ok-set.ensures.told) c.in_ok-set.ensures.table

pub returns : goal.returns
returns c =
    let s = c.args.numbers.now in
    let l = length_cells aod_at 11 (length s / 11) s in
    ends c.loop-k.invariant (omega (arith, c.loop-k-test.false)) (ap Ok (sym l))
