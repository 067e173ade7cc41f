-- `pack_check::count_items` meets its contract. The loop keeps what is left (crates/pack/proofs/Coming.antt), for any ground.
use Rattle.std.specs.Prelude.{Ok, Err}
use mathlib.Core.Path.{◌≡◌, refl, sym, ap, ◌∙◌}
use mathlib.Core.List.{[]}
use native.Mathlib.Omega.{arith}
use lib.ListN.{length}
use Rattle.std.proofs.lemmas.Result.{err_from_is_err_and}
use Rattle.refusals.proofs.Lent.{answers, counts}
use Rattle.pack.specs.Items.{item_at, plain, opens, closes}
use Rattle.pack.proofs.Payloads.{plain_fits, open_fits, close_ends}
use Rattle.pack.proofs.Coming.{coming_begins, coming_ends, coming_bad, coming_good, coming_crc, coming_plain, sync_refused, sync_none, sync_on, inside_long, inside_part}
use Rattle.pack_check.specs.Counts.{counted}
use Rattle.pack_check.proofs.count_items.Goals as goal
use Rattle.pack_check.proofs.count_items.Goals.{In-Ok-Close, In-Ok-Open, In-Ok-Plain}

-- in each arm, what stands there
payload : (c : In-Ok-Plain)
    → let x = c.in-Ok-Plain.element in item_at c.args.s.now c.loop-at.at c.loop-at.n ≡ plain x.tag x.value.start x.value.len
payload c = sym c.item_at.ensures ∙ c.in-Ok-Plain.is ∙ ap Ok c.in-Ok-Plain.field-0-is

crc : (c : In-Ok-Close) → item_at c.args.s.now c.loop-at.at c.loop-at.n ≡ closes c.in-Ok-Close.value
crc c = sym c.item_at.ensures ∙ c.in-Ok-Close.is ∙ ap Ok c.in-Ok-Close.field-0-is

sync : (c : In-Ok-Open)
    → let v = c.in-Ok-Open.value in item_at c.args.s.now c.loop-at.at c.loop-at.n ≡ opens v.start v.len
sync c = sym c.item_at.ensures ∙ c.in-Ok-Open.is ∙ ap Ok c.in-Ok-Open.field-0-is

pub loop-at-init : goal.loop-at-init
loop-at-init c = λ grounds. record { parts = []; coming = coming_begins _ grounds _ }

pub returns-in-Err : goal.returns-in-Err
returns-in-Err c =
    λ grounds. answers counted (coming_bad (c.loop-at.invariant grounds).coming c.loop-at-test.true (sym c.item_at.ensures ∙ c.in-Err.is)) (ap Err c.at.ensures)

pub crc_good-requires : goal.crc_good-requires
crc_good-requires c = omega (arith, close_ends _ _ _ _ (crc c))

pub returns-then-crc_good : goal.returns-then-crc_good
returns-then-crc_good c =
    λ grounds.
    let g = (c.loop-at.invariant grounds).coming in
    counts counted (coming_good g c.loop-at-test.true (crc (goal.at.returns-then-crc_good c).In-Ok-Close) (sym c.crc_good.ensures ∙ c.if-crc_good.true)) (ap Ok (sym g.long))

pub returns-in-Ok-Close : goal.returns-in-Ok-Close
returns-in-Ok-Close c =
    λ grounds.
    answers counted (coming_crc (c.loop-at.invariant grounds).coming c.loop-at-test.true (crc (goal.at.returns-in-Ok-Close c).In-Ok-Close) (sym c.crc_good.ensures ∙ c.if-crc_good.false))
    (ap Err c.at-in-Ok-Close.ensures)

pub overflow_add-n : goal.overflow_add-n
overflow_add-n c = omega (arith, (plain_fits _ _ _ _ _ _ (payload (goal.at.overflow_add-n c).In-Ok-Plain)).room)

pub overflow_add-at : goal.overflow_add-at
overflow_add-at c = omega (arith, (plain_fits _ _ _ _ _ _ (payload (goal.at.overflow_add-at c).In-Ok-Plain)).inside, c.requires)

pub loop-at-smaller-in-Ok-Plain : goal.loop-at-smaller-in-Ok-Plain
loop-at-smaller-in-Ok-Plain c = let f = plain_fits _ _ _ _ _ _ (payload (goal.at.loop-at-smaller-in-Ok-Plain c).In-Ok-Plain) in omega (arith, f.later, f.inside, c.loop-at-test.true)

pub loop-at-preserved-in-Ok-Plain : goal.loop-at-preserved-in-Ok-Plain
loop-at-preserved-in-Ok-Plain c = λ grounds. record { parts = _; coming = coming_plain (c.loop-at.invariant grounds).coming c.loop-at-test.true (payload (goal.at.loop-at-preserved-in-Ok-Plain c).In-Ok-Plain) }

pub overflow_add-base : goal.overflow_add-base
overflow_add-base c = let f = open_fits _ _ _ _ _ (sync (goal.at.overflow_add-base c).In-Ok-Open) in omega (arith, f.0.inside, f.1, c.requires)

pub overflow_add-end : goal.overflow_add-end
overflow_add-end c = let f = open_fits _ _ _ _ _ (sync (goal.at.overflow_add-end c).In-Ok-Open) in omega (arith, f.0.inside, f.1, c.requires)

pub overflow_add-used : goal.overflow_add-used
overflow_add-used c = omega (arith, (open_fits _ _ _ _ _ (sync (goal.at.overflow_add-used c).In-Ok-Open)).0.room)

pub slice_bounds-count_inside-count : goal.slice_bounds-count_inside-count
slice_bounds-count_inside-count c = let f = open_fits _ _ _ _ _ (sync (goal.at.slice_bounds-count_inside-count c).In-Ok-Open) in omega (arith, f.1)

pub slice_bounds-count_inside-start : goal.slice_bounds-count_inside-start
slice_bounds-count_inside-start c = let f = open_fits _ _ _ _ _ (sync (goal.at.slice_bounds-count_inside-start c).In-Ok-Open) in omega (arith, f.1)

pub slice_bounds-count_inside-end : goal.slice_bounds-count_inside-end
slice_bounds-count_inside-end c = let f = open_fits _ _ _ _ _ (sync (goal.at.slice_bounds-count_inside-end c).In-Ok-Open) in omega (arith, f.0.inside)

pub count_inside-requires : goal.count_inside-requires
count_inside-requires c =
    let f = open_fits _ _ _ _ _ (sync (goal.at.count_inside-requires c).In-Ok-Open) in
    let s = c.args.s.now in
    let v = c.in-Ok-Open.value in
    let l = ap length (inside_part s v.start v.len) in
    (omega (arith, f.0.room), omega (arith, l, inside_long s v.start v.len f.0.inside f.1, f.0.inside, c.requires))

pub returns-in_err-inside-in-Ok-Open : goal.returns-in_err-inside-in-Ok-Open
returns-in_err-inside-in-Ok-Open c =
    let p = err_from_is_err_and c.from_residual.result c.from_residual.ensures.1 in
    λ grounds.
    rw (p.1, p.2)
    (answers counted (sync_refused (c.loop-at.invariant grounds).coming c.loop-at-test.true (sync (goal.at.returns-in_err-inside-in-Ok-Open c).In-Ok-Open) (c.count_inside.ensures _) c.in_err-inside-in-Ok-Open.was) refl)

pub returns-then-inside-used : goal.returns-then-inside-used
returns-then-inside-used c =
    λ grounds.
    answers counted (sync_none (c.loop-at.invariant grounds).coming c.loop-at-test.true (sync (goal.at.returns-then-inside-used c).In-Ok-Open) (c.count_inside.ensures _) c.in_ok-inside-in-Ok-Open.was c.if-inside-used.true)
    (ap Err c.at-then-inside-used.ensures)

pub loop-at-smaller : goal.loop-at-smaller
loop-at-smaller c = let f = open_fits _ _ _ _ _ (sync (goal.at.loop-at-smaller c).In-Ok-Open) in omega (arith, f.0.later, f.0.inside, c.loop-at-test.true)

pub loop-at-preserved : goal.loop-at-preserved
loop-at-preserved c =
    λ grounds.
    record { parts = _; coming = (sync_on (c.loop-at.invariant grounds).coming c.loop-at-test.true (sync (goal.at.loop-at-preserved c).In-Ok-Open) (c.count_inside.ensures _) c.in_ok-inside-in-Ok-Open.was c.if-inside-used.false).3 }

pub returns : goal.returns
returns c =
    λ grounds.
    let g = (c.loop-at.invariant grounds).coming in
    counts counted (coming_ends g c.loop-at-test.false) (ap Ok (sym g.long))
