-- `pack_read::read_items` meets its contract. The loop keeps what is left, and that the slots hold the items so far (proofs/Listing).
use Prim.Native.Nat.{ℕ}
use mathlib.Core.Path.{◌≡◌, sym, ap, ap₂, ◌∙◌}
use native.Mathlib.Nat.{zero-add}
use native.Mathlib.Omega.{arith}
use lib.ListN.{length, take}
use Rattle.std.specs.Prelude.{Ok, Err}
use Rattle.std.proofs.lemmas.Result.{err_from_is_err_and}
use Rattle.numbers.specs.Big.{extended, sum32}
use Rattle.pack.specs.Payloads.{ground_of, payload}
use Rattle.pack.specs.Items.{item_at, plain, opens, closes, sync_total}
use Rattle.pack.proofs.Payloads.{plain_fits, open_fits, close_ends}
use Rattle.pack.proofs.Coming.{coming_ends, coming_bad, coming_good, coming_crc, sync_refused, sync_some, sync_none, inside_long, inside_part}
use Rattle.pack_read.proofs.Listing.{on_ground, listing_begins, tells_refused, tells_done, listing_plain, listing_sync}
use Rattle.pack_read.proofs.read_items.Goals as goal
use Rattle.pack_read.proofs.read_items.Goals.{After-extended-total, After-payload, After-read_inside, In-Ok-Close, In-Ok-Open, In-Ok-Plain}

-- in each arm, what stands there
crc : (c : In-Ok-Close) → item_at c.args.s.now c.loop-at.at c.loop-at.count ≡ closes c.in-Ok-Close.value
crc c = sym c.item_at.ensures ∙ c.in-Ok-Close.is ∙ ap Ok c.in-Ok-Close.field-0-is

audio : (c : In-Ok-Plain)
    → let x = c.in-Ok-Plain.field-0-0 in item_at c.args.s.now c.loop-at.at c.loop-at.count ≡ plain x.tag x.value.start x.value.len
audio c = sym c.item_at.ensures ∙ c.in-Ok-Plain.is ∙ ap Ok c.in-Ok-Plain.field-0-is

sync : (c : In-Ok-Open)
    → let v = c.in-Ok-Open.value in item_at c.args.s.now c.loop-at.at c.loop-at.count ≡ opens v.start v.len
sync c = sym c.item_at.ensures ∙ c.in-Ok-Open.is ∙ ap Ok c.in-Ok-Open.field-0-is

-- the total offset outside Syncs
total_is : (l : After-extended-total) → l.extended-total.result ≡ extended l.args.opening.offset
total_is l = l.extended-total.ensures

-- that inside one is the sum
own_sum : (k : After-read_inside) → k.sum32-inner.result ≡ sync_total k.args.s.now k.extended-total.result k.in-Ok-Open.value.start
own_sum k = k.sum32-inner.ensures ∙ ap (λ (n : ℕ). sum32 k.extended-total.result (extended n)) k.be16-own.ensures

-- a payload outside Syncs carries it
carries : (c : After-payload)
    → let m = c.args.maps.now in
    let x = c.in-Ok-Plain.field-0-0 in
    c.payload.result ≡ payload (ground_of (take m.count m.tags) (extended c.args.opening.offset)) c.loop-at.at x.tag x.value.start x.value.len
carries c =
    let m = c.args.maps.now in
    let x = c.in-Ok-Plain.field-0-0 in
    c.payload.ensures
    ∙ ap₂ (λ (p v : ℕ). payload (ground_of (take m.count m.tags) c.extended-total.result) p x.tag v x.value.len) (zero-add c.loop-at.at) (zero-add x.value.start)
    ∙ ap (λ (n : ℕ). payload (ground_of (take m.count m.tags) n) c.loop-at.at x.tag x.value.start x.value.len) c.extended-total.ensures

pub loop-at-init : goal.loop-at-init
loop-at-init c = listing_begins _ _ _ c.requires.1

pub returns-in-Err : goal.returns-in-Err
returns-in-Err c = tells_refused _ _ (coming_bad c.loop-at.invariant.coming c.loop-at-test.true (sym c.item_at.ensures ∙ c.in-Err.is)) (ap Err c.at.ensures)

pub crc_good-requires : goal.crc_good-requires
crc_good-requires c = omega (arith, close_ends _ _ _ _ (crc (goal.at.crc_good-requires c).In-Ok-Close))

pub returns-then-crc_good : goal.returns-then-crc_good
returns-then-crc_good c =
    let g = c.loop-at.invariant in
    tells_done _ g _ (coming_good g.coming c.loop-at-test.true (crc (goal.at.returns-then-crc_good c).In-Ok-Close) (sym c.crc_good.ensures ∙ c.if-crc_good.true))

pub returns-in-Ok-Close : goal.returns-in-Ok-Close
returns-in-Ok-Close c =
    tells_refused _ _ (coming_crc c.loop-at.invariant.coming c.loop-at-test.true (crc (goal.at.returns-in-Ok-Close c).In-Ok-Close) (sym c.crc_good.ensures ∙ c.if-crc_good.false))
    (ap Err c.at-in-Ok-Close.ensures)

pub payload-requires : goal.payload-requires
payload-requires c = let f = plain_fits _ _ _ _ _ _ (audio (goal.at.payload-requires c).In-Ok-Plain) in omega (arith, f.later, f.inside, c.requires.0)

pub offset_bounds-items-count : goal.offset_bounds-items-count
offset_bounds-items-count c = omega (arith, (plain_fits _ _ _ _ _ _ (audio (goal.at.offset_bounds-items-count c).In-Ok-Plain)).room)

pub bounds-items-count : goal.bounds-items-count
bounds-items-count c = omega (arith, (plain_fits _ _ _ _ _ _ (audio (goal.at.bounds-items-count c).In-Ok-Plain)).room)

pub overflow_add-count : goal.overflow_add-count
overflow_add-count c = omega (arith, (plain_fits _ _ _ _ _ _ (audio (goal.at.overflow_add-count c).In-Ok-Plain)).room)

pub overflow_add-at : goal.overflow_add-at
overflow_add-at c = omega (arith, (plain_fits _ _ _ _ _ _ (audio (goal.at.overflow_add-at c).In-Ok-Plain)).inside, c.requires.0)

pub loop-at-smaller-in-Ok-Plain : goal.loop-at-smaller-in-Ok-Plain
loop-at-smaller-in-Ok-Plain c =
    let f = plain_fits _ _ _ _ _ _ (audio (goal.at.loop-at-smaller-in-Ok-Plain c).In-Ok-Plain) in omega (arith, f.later, f.inside, c.loop-at-test.true)

pub loop-at-preserved-in-Ok-Plain : goal.loop-at-preserved-in-Ok-Plain
loop-at-preserved-in-Ok-Plain c =
    listing_plain c.loop-at.invariant c.loop-at-test.true (audio (goal.at.loop-at-preserved-in-Ok-Plain c).In-Ok-Plain) (carries (goal.at.loop-at-preserved-in-Ok-Plain c).After-payload)

pub overflow_add-base : goal.overflow_add-base
overflow_add-base c = let f = open_fits _ _ _ _ _ (sync (goal.at.overflow_add-base c).In-Ok-Open) in omega (arith, f.0.inside, f.1, c.requires.0)

pub overflow_add-end : goal.overflow_add-end
overflow_add-end c = let f = open_fits _ _ _ _ _ (sync (goal.at.overflow_add-end c).In-Ok-Open) in omega (arith, f.0.inside, c.requires.0)

pub overflow_add-first : goal.overflow_add-first
overflow_add-first c = omega (arith, (open_fits _ _ _ _ _ (sync (goal.at.overflow_add-first c).In-Ok-Open)).0.room)

pub be16-own-requires : goal.be16-own-requires
be16-own-requires c = let f = open_fits _ _ _ _ _ (sync (goal.at.be16-own-requires c).In-Ok-Open) in omega (arith, f.0.inside, f.1)

pub slice_bounds-read_inside-count : goal.slice_bounds-read_inside-count
slice_bounds-read_inside-count c = omega (arith, (open_fits _ _ _ _ _ (sync (goal.at.slice_bounds-read_inside-count c).In-Ok-Open)).1)

pub slice_bounds-read_inside-start : goal.slice_bounds-read_inside-start
slice_bounds-read_inside-start c = omega (arith, (open_fits _ _ _ _ _ (sync (goal.at.slice_bounds-read_inside-start c).In-Ok-Open)).1)

pub slice_bounds-read_inside-end : goal.slice_bounds-read_inside-end
slice_bounds-read_inside-end c = omega (arith, (open_fits _ _ _ _ _ (sync (goal.at.slice_bounds-read_inside-end c).In-Ok-Open)).0.inside)

pub read_inside-requires : goal.read_inside-requires
read_inside-requires c =
    let f = open_fits _ _ _ _ _ (sync (goal.at.read_inside-requires c).In-Ok-Open) in
    let s = c.args.s.now in
    let v = c.in-Ok-Open.value in
    (omega (arith, f.0.room), omega (arith, ap length (inside_part s v.start v.len), inside_long s v.start v.len f.0.inside f.1, f.0.inside, c.requires.0))

pub returns-in_err-next-in-Ok-Open : goal.returns-in_err-next-in-Ok-Open
returns-in_err-next-in-Ok-Open c =
    let p = err_from_is_err_and c.from_residual.result c.from_residual.ensures.1 in
    let m = c.args.maps.now in
    tells_refused _ _
    (sync_refused c.loop-at.invariant.coming c.loop-at-test.true (sync (goal.at.returns-in_err-next-in-Ok-Open c).In-Ok-Open)
    (on_ground _ _ (take m.count m.tags) (own_sum (goal.at.returns-in_err-next-in-Ok-Open c).After-read_inside) (total_is (goal.at.returns-in_err-next-in-Ok-Open c).After-extended-total) c.read_inside.ensures).inside
    c.in_err-next-in-Ok-Open.was)
    (p.1 ∙ ap Err p.2)

pub returns-then-next-first : goal.returns-then-next-first
returns-then-next-first c =
    let m = c.args.maps.now in
    tells_refused _ _
    (sync_none c.loop-at.invariant.coming c.loop-at-test.true (sync (goal.at.returns-then-next-first c).In-Ok-Open)
    (on_ground _ _ (take m.count m.tags) (own_sum (goal.at.returns-then-next-first c).After-read_inside) (total_is (goal.at.returns-then-next-first c).After-extended-total) c.read_inside.ensures).inside
    c.in_ok-next-in-Ok-Open.was c.if-next-first.true)
    (ap Err c.at-then-next-first.ensures)

pub overflow_sub-next : goal.overflow_sub-next
overflow_sub-next c =
    let m = c.args.maps.now in
    sync_some c.loop-at.invariant.coming c.loop-at-test.true (sync (goal.at.overflow_sub-next c).In-Ok-Open)
    (on_ground _ _ (take m.count m.tags) (own_sum (goal.at.overflow_sub-next c).After-read_inside) (total_is (goal.at.overflow_sub-next c).After-extended-total) c.read_inside.ensures).inside
    c.in_ok-next-in-Ok-Open.was

pub head-requires : goal.head-requires
head-requires c =
    let f = open_fits _ _ _ _ _ (sync (goal.at.head-requires c).In-Ok-Open) in
    (omega (arith, f.0.inside, f.1), omega (arith, f.0.later, f.0.inside, c.requires.0), omega (arith, c.read_inside.ensures.inside.few _ c.in_ok-next-in-Ok-Open.was), c.be16-own.ensures)

pub offset_bounds-items-count-in-Ok-Open : goal.offset_bounds-items-count-in-Ok-Open
offset_bounds-items-count-in-Ok-Open c = omega (arith, (open_fits _ _ _ _ _ (sync (goal.at.offset_bounds-items-count-in-Ok-Open c).In-Ok-Open)).0.room)

pub bounds-items-count-in-Ok-Open : goal.bounds-items-count-in-Ok-Open
bounds-items-count-in-Ok-Open c = omega (arith, (open_fits _ _ _ _ _ (sync (goal.at.bounds-items-count-in-Ok-Open c).In-Ok-Open)).0.room)

pub loop-at-smaller : goal.loop-at-smaller
loop-at-smaller c =
    let f = open_fits _ _ _ _ _ (sync (goal.at.loop-at-smaller c).In-Ok-Open) in omega (arith, f.0.later, f.0.inside, c.loop-at-test.true)

pub loop-at-preserved : goal.loop-at-preserved
loop-at-preserved c =
    let m = c.args.maps.now in
    listing_sync c.loop-at.invariant c.loop-at-test.true (sync (goal.at.loop-at-preserved c).In-Ok-Open)
    (on_ground _ _ (take m.count m.tags) (own_sum (goal.at.loop-at-preserved c).After-read_inside) (total_is (goal.at.loop-at-preserved c).After-extended-total) c.read_inside.ensures)
    c.in_ok-next-in-Ok-Open.was c.if-next-first.false c.head.ensures

pub returns : goal.returns
returns c = let g = c.loop-at.invariant in tells_done _ g _ (coming_ends g.coming c.loop-at-test.false)
