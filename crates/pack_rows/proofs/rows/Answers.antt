-- `pack_rows::rows` meets its contract: each return by what is delivered there. The loop keeps what is left to write: the numbers of the rows left.
use Prim.Native.Nat.{ℕ, ◌+◌, ◌<◌, ◌≤◌}
use mathlib.Core.Path.{◌≡◌, sym, ap, ◌∙◌, subst}
use mathlib.Core.List.{List, ◌++◌}
use native.Mathlib.Omega.{arith}
use lib.ListN.{length, take, drop, get_or, length-append}
use lib.Seq.{get_or-take, length-take-le}
use Rattle.std.specs.Prelude.{Err}
use Rattle.std.proofs.lemmas.Result.{err_from_is_err_and}
use Rattle.runs.proofs.Over.{wrote_as}
use Rattle.runs.proofs.Writing.{Writing, writing_begins, writing_as, writing_run, writing_done}
use Rattle.pack.specs.Fits.{ItemFits}
use Rattle.pack.specs.Slots.{blank}
use Rattle.pack.specs.Made.{made}
use Rattle.pack.specs.declared.Item.{Item}
use Rattle.pack.proofs.Slots.{slot_fits}
use Rattle.pack.proofs.Made.{made_first, made_none}
use Rattle.pack_read.proofs.Outlines.{outlined_none}
use Rattle.pack_rows.specs.Rows.{item_row}
use Rattle.pack_rows.proofs.Laws.{item_eight}
use Rattle.pack_rows.proofs.Whole.{Rows, rows_refused, rows_shown, rows_noroom, rows_done}
use Rattle.pack_rows.proofs.rows.Goals as goal
use Rattle.pack_rows.proofs.rows.Goals.{In_ok-found, In-loop-i}

-- what is to be written where the pack is accepted
shown : (c : In_ok-found)
    → let f = c.read_into.new in
    Rows c.args.pack.now c.in_ok-found.found f.maps.places f.items
shown c = rows_shown c.args.pack.now c.args.out.now (λ i. (c.type_inv.pack i).fits) c.in_ok-found.ensures

-- what is left where the loop goes on: the numbers of the next row, then the others
left : (places : List ℕ) (items : List Item) (count i : ℕ) (d : Item) {before out : List ℕ} {start next : ℕ} → count ≤ length items → i < count
    → Writing before start (made (item_row places) (take count items)) out next (made (item_row places) (drop i (take count items)))
    → Writing before start (made (item_row places) (take count items)) out next (item_row places (get_or items i d) ++ made (item_row places) (drop (i + 1) (take count items)))
left places items count i d there h w = writing_as (made_first (item_row places) items count i d there h) w

-- there is room for the next row
room : {before all out : List ℕ} (row more : List ℕ) {start next n : ℕ} → Writing before start all out next (row ++ more) → n ≡ length row → next + n ≤ length out
room row more w e = omega (arith, w.room, length-append row more, e)

pub returns-in_err-found : goal.returns-in_err-found
returns-in_err-found c =
    let p = err_from_is_err_and c.from_residual.result c.from_residual.ensures.1 in
    rows_refused _ _ (outlined_none c.read_into.ensures c.in_err-found.was) (p.1 ∙ ap Err p.2)

pub overflow_add-found : goal.overflow_add-found
overflow_add-found c = omega (arith, (shown (goal.at.overflow_add-found c).In_ok-found).few)

pub overflow_mul-found : goal.overflow_mul-found
overflow_mul-found c = omega (arith, (shown (goal.at.overflow_mul-found c).In_ok-found).few)

pub returns-then-out-found : goal.returns-then-out-found
returns-then-out-found c =
    rows_noroom c.args.pack.now c.args.out.now (λ i. (c.type_inv.pack i).fits) c.in_ok-found.ensures c.if-out-found.true (ap Err c.at.ensures)

pub pack_row-requires : goal.pack_row-requires
pack_row-requires c = (shown (goal.at.pack_row-requires c).In_ok-found).few

pub loop-i-init : goal.loop-i-init
loop-i-init c =
    writing_begins _ _ _ (omega (arith, (shown (goal.at.loop-i-init c).In_ok-found).size, c.if-out-found.false, c.put_row-next.ensures.next, c.put_row-next.auto.out))

pub bounds-items-i : goal.bounds-items-i
bounds-items-i c = omega (arith, (shown (goal.at.bounds-items-i c).In_ok-found).few, c.loop-i-test.true)

pub item_row-requires : goal.item_row-requires
item_row-requires c =
    let i = c.loop-i.i in
    let n = c.in_ok-found.found.count in
    let items = c.read_into.new.items in
    let t = shown (goal.at.item_row-requires c).In_ok-found in
    subst ItemFits (get_or-take n items i _ c.loop-i-test.true) (slot_fits (take n items) i _ t.fit (omega (arith, length-take-le n items t.there, c.loop-i-test.true)))

pub put_row-next-requires-in-loop-i : goal.put_row-next-requires-in-loop-i
put_row-next-requires-in-loop-i c =
    let f = c.read_into.new in
    let t = shown (goal.at.put_row-next-requires-in-loop-i c).In_ok-found in
    room _ _ (left f.maps.places f.items c.in_ok-found.found.count c.loop-i.i blank t.there c.loop-i-test.true c.loop-i.invariant)
    (sym (item_eight f.maps.places (get_or f.items c.loop-i.i blank)))

pub loop-i-preserved : goal.loop-i-preserved
loop-i-preserved c =
    let n = c.in_ok-found.found.count in
    let f = c.read_into.new in
    let t = shown (goal.at.loop-i-preserved c).In_ok-found in
    writing_run _ _ (left f.maps.places f.items n c.loop-i.i _ t.there c.loop-i-test.true c.loop-i.invariant) (wrote_as c.item_row.ensures c.put_row-next-in-loop-i.ensures)

pub returns : goal.returns
returns c =
    let l = c.loop-i in
    let n = c.in_ok-found.found.count in
    let f = c.read_into.new in
    let t = shown (goal.at.returns c).In_ok-found in
    let m = length-take-le n f.items t.there in
    rows_done c.args.pack.now c.args.out.now (λ i. (c.type_inv.pack i).fits) c.in_ok-found.ensures (omega (arith, c.if-out-found.false))
    (wrote_as c.pack_row.ensures c.put_row-next.ensures)
    (writing_done (writing_as (made_none (item_row f.maps.places) (take n f.items) l.i (omega (arith, m, c.loop-i-test.false))) l.invariant))
