-- `lookup::seek_items` meets its contract. The loop keeps what is left and what was found, for any tags.
use mathlib.Core.Path.{◌≡◌, refl, sym, ap, ◌∙◌}
use mathlib.Core.List.{List}
use mathlib.Core.Bool.{Bool}
use Prim.Native.Nat.{ℕ, ◌+◌, ◌-◌}
use native.Mathlib.Nat.{zero-add}
use native.Mathlib.Omega.{arith}
use lib.ListN.{length, take, drop}
use Rattle.std.specs.Prelude.{Some, Ok, Err}
use Rattle.std.specs.Option.{option_or}
use Rattle.std.proofs.lemmas.Result.{err_from_is_err_and}
use Rattle.refusals.proofs.Lent.{answers, counts}
use Rattle.numbers.specs.Big.{extended, sum32}
use Rattle.pack.specs.Payloads.{ground_of}
use Rattle.pack.specs.Items.{item_at, plain, opens, closes, sync_ground}
use Rattle.pack.specs.declared.Name.{Name}
use Rattle.pack.proofs.Payloads.{plain_fits, plain_other, open_fits, close_ends}
use Rattle.pack.proofs.Coming.{coming_ends, coming_bad, coming_good, coming_crc, sync_refused, sync_none, inside_long, inside_part}
use Rattle.lookup.specs.Sought.{spot_of, Tells, InsideSought, sought_body}
use Rattle.lookup.proofs.Steps.{or_none, or_tag, tag_same, tag_other}
use Rattle.lookup.proofs.Seeking.{on_sum, items_begin, plain_on, open_on, counted, inside_told}
use Rattle.lookup.proofs.seek_items.Goals as goal
use Rattle.lookup.proofs.seek_items.Goals.{then-tag-sought, else-tag-sought, After-seek_inside, In-Ok-Close, In-Ok-Open, In-Ok-Plain}

-- in each arm, what stands there
payload : (c : In-Ok-Plain)
    → let x = c.in-Ok-Plain.field-0-0 in item_at c.args.s.now c.loop-at.at c.loop-at.n ≡ plain x.tag x.value.start x.value.len
payload c = sym c.item_at.ensures ∙ c.in-Ok-Plain.is ∙ ap Ok c.in-Ok-Plain.field-0-is

crc : (c : In-Ok-Close) → item_at c.args.s.now c.loop-at.at c.loop-at.n ≡ closes c.in-Ok-Close.value
crc c = sym c.item_at.ensures ∙ c.in-Ok-Close.is ∙ ap Ok c.in-Ok-Close.field-0-is

sync : (c : In-Ok-Open)
    → let v = c.in-Ok-Open.value in item_at c.args.s.now c.loop-at.at c.loop-at.n ≡ opens v.start v.len
sync c = sym c.item_at.ensures ∙ c.in-Ok-Open.is ∙ ap Ok c.in-Ok-Open.field-0-is

-- the inside of a Sync, by the total offset that it has there
inside : (c : After-seek_inside) (tags : List ℕ) (test : Name → Bool) → Tells tags test c.args.wanted
    → let s = c.args.s.now in
    let v = c.in-Ok-Open.value in
    InsideSought (take (v.start + v.len - (v.start + 4)) (drop (v.start + 4) s)) (sync_ground s (ground_of tags c.args.total) v.start) test (v.start + 4) (c.loop-at.n + 1) c.seek_inside.result
inside c tags test tells =
    let sum = c.sum32-inner.ensures ∙ ap (λ (n : ℕ). sum32 c.args.total (extended n)) c.be16-own.ensures in
    on_sum sum (c.seek_inside.ensures tags test tells)

pub loop-at-init : goal.loop-at-init
loop-at-init c = λ tags test tells. items_begin _ _ test _ refl

pub returns-in-Err : goal.returns-in-Err
returns-in-Err c =
    λ tags test tells. answers (sought_body test) (coming_bad (c.loop-at.invariant tags test tells).coming c.loop-at-test.true (sym c.item_at.ensures ∙ c.in-Err.is)) (ap Err c.at.ensures)

pub crc_good-requires : goal.crc_good-requires
crc_good-requires c = omega (arith, close_ends _ _ _ _ (crc c))

pub returns-then-crc_good : goal.returns-then-crc_good
returns-then-crc_good c =
    λ tags test tells.
    let g = c.loop-at.invariant tags test tells in
    counts (sought_body test) (coming_good g.coming c.loop-at-test.true (crc (goal.at.returns-then-crc_good c).In-Ok-Close) (sym c.crc_good.ensures ∙ c.if-crc_good.true)) (ap Ok g.found)

pub returns-in-Ok-Close : goal.returns-in-Ok-Close
returns-in-Ok-Close c =
    λ tags test tells.
    answers (sought_body test)
    (coming_crc (c.loop-at.invariant tags test tells).coming c.loop-at-test.true (crc (goal.at.returns-in-Ok-Close c).In-Ok-Close) (sym c.crc_good.ensures ∙ c.if-crc_good.false))
    (ap Err c.at-in-Ok-Close.ensures)

pub or_spot-first-requires : goal.or_spot-first-requires
or_spot-first-requires c = omega (arith, (plain_fits _ _ _ _ _ _ (payload (goal.at.or_spot-first-requires c).In-Ok-Plain)).inside, c.requires)

pub overflow_add-n : goal.overflow_add-n
overflow_add-n c = omega (arith, (plain_fits _ _ _ _ _ _ (payload (goal.at.overflow_add-n c).In-Ok-Plain)).room)

pub overflow_add-at : goal.overflow_add-at
overflow_add-at c = omega (arith, (plain_fits _ _ _ _ _ _ (payload (goal.at.overflow_add-at c).In-Ok-Plain)).inside, c.requires)

pub loop-at-smaller-in-Ok-Plain : goal.loop-at-smaller-in-Ok-Plain
loop-at-smaller-in-Ok-Plain c = let f = plain_fits _ _ _ _ _ _ (payload (goal.at.loop-at-smaller-in-Ok-Plain c).In-Ok-Plain) in omega (arith, f.later, f.inside, c.loop-at-test.true)

pub loop-at-preserved-in-Ok-Plain : goal.loop-at-preserved-in-Ok-Plain
loop-at-preserved-in-Ok-Plain c =
    let x = c.in-Ok-Plain.field-0-0 in
    let there = payload (goal.at.loop-at-preserved-in-Ok-Plain c).In-Ok-Plain in
    λ tags test tells.
    plain_on (c.loop-at.invariant tags test tells) c.loop-at-test.true _ tells there
    (elim c.if-tag-sought.branch [
      | then-tag-sought w ↦ or_tag _ _ _ _ _ (tag_same _ _ (plain_other _ _ _ _ _ _ there) (w.if-tag-sought.true ∙ c.unwrap_or-sought.ensures)) _ (w.first-is ∙ w.or_spot-first.ensures
          ∙ ap (λ (v : ℕ). option_or c.loop-at.first (Some (spot_of v x.value.len c.args.total))) (zero-add x.value.start))
      | else-tag-sought w ↦ or_tag _ _ _ _ _ (tag_other _ _ (λ e. w.if-tag-sought.false (e ∙ sym c.unwrap_or-sought.ensures))) _ (w.first-is ∙ or_none _)
    ])

pub overflow_add-base : goal.overflow_add-base
overflow_add-base c = let f = open_fits _ _ _ _ _ (sync (goal.at.overflow_add-base c).In-Ok-Open) in omega (arith, f.0.inside, f.1, c.requires)

pub overflow_add-end : goal.overflow_add-end
overflow_add-end c = let f = open_fits _ _ _ _ _ (sync (goal.at.overflow_add-end c).In-Ok-Open) in omega (arith, f.0.inside, f.1, c.requires)

pub overflow_add-used : goal.overflow_add-used
overflow_add-used c = omega (arith, (open_fits _ _ _ _ _ (sync (goal.at.overflow_add-used c).In-Ok-Open)).0.room)

pub be16-own-requires : goal.be16-own-requires
be16-own-requires c = let f = open_fits _ _ _ _ _ (sync (goal.at.be16-own-requires c).In-Ok-Open) in omega (arith, f.0.inside, f.1)

pub slice_bounds-seek_inside-count : goal.slice_bounds-seek_inside-count
slice_bounds-seek_inside-count c = let f = open_fits _ _ _ _ _ (sync (goal.at.slice_bounds-seek_inside-count c).In-Ok-Open) in omega (arith, f.1)

pub slice_bounds-seek_inside-start : goal.slice_bounds-seek_inside-start
slice_bounds-seek_inside-start c = let f = open_fits _ _ _ _ _ (sync (goal.at.slice_bounds-seek_inside-start c).In-Ok-Open) in omega (arith, f.1)

pub slice_bounds-seek_inside-end : goal.slice_bounds-seek_inside-end
slice_bounds-seek_inside-end c = let f = open_fits _ _ _ _ _ (sync (goal.at.slice_bounds-seek_inside-end c).In-Ok-Open) in omega (arith, f.0.inside)

pub seek_inside-requires : goal.seek_inside-requires
seek_inside-requires c =
    let f = open_fits _ _ _ _ _ (sync (goal.at.seek_inside-requires c).In-Ok-Open) in
    let s = c.args.s.now in
    let v = c.in-Ok-Open.value in
    let l = ap length (inside_part s v.start v.len) in
    (omega (arith, f.0.room), omega (arith, l, inside_long s v.start v.len f.0.inside f.1, f.0.inside, c.requires))

pub returns-in_err-inside-in-Ok-Open : goal.returns-in_err-inside-in-Ok-Open
returns-in_err-inside-in-Ok-Open c =
    let p = err_from_is_err_and c.from_residual.result c.from_residual.ensures.1 in
    λ tags test tells.
    rw (p.1, p.2)
    (answers (sought_body test)
    (sync_refused (c.loop-at.invariant tags test tells).coming c.loop-at-test.true (sync (goal.at.returns-in_err-inside-in-Ok-Open c).In-Ok-Open)
    (inside_told (inside (goal.at.returns-in_err-inside-in-Ok-Open c).After-seek_inside tags test tells)) (ap counted c.in_err-inside-in-Ok-Open.was))
    refl)

pub returns-then-inside-used : goal.returns-then-inside-used
returns-then-inside-used c =
    λ tags test tells.
    answers (sought_body test)
    (sync_none (c.loop-at.invariant tags test tells).coming c.loop-at-test.true (sync (goal.at.returns-then-inside-used c).In-Ok-Open)
    (inside_told (inside (goal.at.returns-then-inside-used c).After-seek_inside tags test tells)) (ap counted c.in_ok-inside-in-Ok-Open.was) c.if-inside-used.true)
    (ap Err c.at-then-inside-used.ensures)

pub loop-at-smaller : goal.loop-at-smaller
loop-at-smaller c = let f = open_fits _ _ _ _ _ (sync (goal.at.loop-at-smaller c).In-Ok-Open) in omega (arith, f.0.later, f.0.inside, c.loop-at-test.true)

pub loop-at-preserved : goal.loop-at-preserved
loop-at-preserved c =
    λ tags test tells.
    open_on (c.loop-at.invariant tags test tells) c.loop-at-test.true (sync (goal.at.loop-at-preserved c).In-Ok-Open)
    (inside (goal.at.loop-at-preserved c).After-seek_inside tags test tells) c.in_ok-inside-in-Ok-Open.was c.if-inside-used.false c.or-first.ensures

pub returns : goal.returns
returns c =
    λ tags test tells.
    let g = c.loop-at.invariant tags test tells in
    counts (sought_body test) (coming_ends g.coming c.loop-at-test.false) (ap Ok g.found)
