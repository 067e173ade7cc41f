-- `pmd_read::count` meets its contract. Its loops keep that the numbers found so far, before what is read from here on, are the whole reading.
use Prim.Native.Nat.{◌+◌, ◌<◌}
use mathlib.Core.Path.{refl, sym, ap, ◌∙◌}
use native.Mathlib.Omega.{arith}
use lib.ListN.{length, get_or}
use Rattle.std.specs.Prelude.{Err}
use Rattle.std.proofs.lemmas.Result.{err_from_is_err_and}
use Rattle.refusals.proofs.Lent.{answers}
use Rattle.pmd.specs.Table.{nonzero}
use Rattle.pmd.proofs.Walk.{blank, walkable, fields_begin, fields_on, pieces_on, pieces_over}
use Rattle.pmd_read.proofs.Kept.{Any, InShape, behind, Numbered, found_none, found_at, due_fits, due_short, due_bad, due_on, partner_due, partner_none, second_short, second_on, over_answers, over_again}
use Rattle.pmd_read.proofs.Ends.{end_was, end_none}
use Rattle.pmd_read.proofs.count.Given.{Over}
use Rattle.pmd_read.proofs.count.Goals as goal
use Rattle.pmd_read.proofs.count.Goals.{After-has_partner, After-goes_on, then-has_partner+in_ok-at, else-has_partner}

-- what is known after a field
field : (g : Over) (c : After-has_partner g)
    → Numbered Any (nonzero g.row.TURNAROUNDS) c.args.shape c.args.s.now c.in_ok-end.end (c.fields.n + 1) c.pieces.i (get_or c.args.shape.pieces c.pieces.i blank) c.fetch-v.result
field g c = let e = end_was _ _ _ c.in_ok-end.ensures in due_on c.fields.invariant e.0 c.fetch-v.ensures c.value.ensures e.1 (sym c.holds.ensures ∙ c.if-not-holds.false) refl

pub records-init : goal.records-init
records-init g c = record { known = found_none refl; there = omega (arith, (walkable c.args.shape).begins) }

pub fields-init : goal.fields-init
fields-init g c = fields_begin c.pieces.invariant c.pieces-test.true

pub returns-in_err-end : goal.returns-in_err-end
returns-in_err-end g c =
    let p = err_from_is_err_and c.from_residual.result c.from_residual.ensures.1 in
    let e = end_none _ _ _ c.in_err-end.ensures in
    p.1 ∙ answers length (due_short c.fields.invariant e.0) (ap Err (p.2 ∙ e.1))

pub returns-then-not-holds : goal.returns-then-not-holds
returns-then-not-holds g c =
    let e = end_was _ _ _ c.in_ok-end.ensures in
    answers length (due_bad c.fields.invariant e.0 c.fetch-v.ensures c.value.ensures (sym c.holds.ensures ∙ c.if-not-holds.true)) (ap Err c.at.ensures)

pub returns-in_err-at : goal.returns-in_err-at
returns-in_err-at g c =
    let p = err_from_is_err_and c.from_residual-in_err-at.result c.from_residual-in_err-at.ensures.1 in
    let e = end_none _ _ _ c.in_err-at.ensures in
    p.1 ∙ answers length (second_short (partner_due (field g (goal.at.returns-in_err-at g c).After-has_partner) (sym c.has_partner.ensures ∙ c.if-has_partner.true)) e.0) (ap Err (p.2 ∙ e.1))

-- and after its partner, if it has one
next : (g : Over) (c : After-goes_on g)
    → Numbered Any (nonzero g.row.TURNAROUNDS) c.args.shape c.args.s.now c.in_ok-end.end (c.fields.n + 1) c.pieces.i (get_or c.args.shape.pieces c.pieces.i blank) c.fetch-v.result
    → InShape Any (nonzero g.row.TURNAROUNDS) c.args.shape c.args.s.now c.if-has_partner.at c.if-has_partner.n
    (behind (nonzero g.row.TURNAROUNDS) c.args.shape c.pieces.i (get_or c.args.shape.pieces c.pieces.i blank) c.fetch-v.result)
    × (c.fields.at < c.if-has_partner.at)
next g c k =
    let e = end_was _ _ _ c.in_ok-end.ensures in
    let some = due_fits c.fields.invariant in
    elim c.if-has_partner.branch [
      | then-has_partner+in_ok-at w ↦
          let o = partner_due k (sym c.has_partner.ensures ∙ w.if-has_partner.true) in
          let q = end_was _ _ _ w.in_ok-at.ensures in
          (found_at w.at-is w.n-is (second_on o q.1 q.0 refl), omega (arith, some, e.1, q.1, w.at-is))
      | else-has_partner w ↦
          let o = partner_none k (sym c.has_partner.ensures ∙ w.if-has_partner.false) in
          (found_at w.at-is w.n-is o, omega (arith, some, e.1, w.at-is))
    ]

pub fields-preserved : goal.fields-preserved
fields-preserved g c =
    let k = next g (goal.at.fields-preserved g c).After-goes_on (field g (goal.at.fields-preserved g c).After-has_partner) in
    fields_on c.fields.invariant _ k.1 (sym c.if-not-goes_on.ensures) k.0

pub pieces-preserved : goal.pieces-preserved
pieces-preserved g c =
    let k = next g (goal.at.pieces-preserved g c).After-goes_on (field g (goal.at.pieces-preserved g c).After-has_partner) in
    pieces_on c.pieces.invariant (get_or c.args.shape.pieces c.pieces.i blank) c.fetch-v.result (omega (arith, k.1, c.fields.invariant.since)) (sym c.if-not-goes_on.ensures) c.passes.ensures.is k.0

pub returns-then-rest-lt8 : goal.returns-then-rest-lt8
returns-then-rest-lt8 g c = over_answers (pieces_over c.pieces.invariant c.pieces-test.false) c.if-rest-lt8.true c.ended.ensures

pub records-preserved : goal.records-preserved
records-preserved g c = over_again (pieces_over c.pieces.invariant c.pieces-test.false) (omega (arith, c.if-rest-lt8.false))
