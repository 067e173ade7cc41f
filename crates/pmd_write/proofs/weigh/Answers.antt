-- `pmd_write::weigh` meets its contract. Its loops keep that the bits so far, before those that are written from here on, are all, and that
-- the total is their weight.
use Prim.Native.Nat.{ℕ, ◌+◌, ◌<◌}
use mathlib.Core.Path.{◌≡◌, refl, sym, ap, subst, ◌∙◌}
use mathlib.Core.Bool.{Bool}
use mathlib.Core.List.{List}
use native.Mathlib.Omega.{arith}
use lib.Dec.{lit≤}
use lib.ListN.{get_or}
use Rattle.std.specs.Prelude.{Ok, Err}
use Rattle.std.proofs.lemmas.Result.{err_from_is_err_and}
use Rattle.refusals.proofs.Lent.{answers, counts}
use Rattle.pmd.specs.declared.Shape.{Shape}
use Rattle.pmd.specs.Table.{nonzero}
use Rattle.pmd.proofs.Next.{next_parameters}
use Rattle.pmd.proofs.Walk.{blank, walkable, fields_begin, fields_on, pieces_on, pieces_over}
use Rattle.pmd_write.specs.ByShape.{weight}
use Rattle.pmd_write.proofs.Laid.{InShape, Numbered, behind, run_none, due_narrow, due_refused, due_taken, partner_due, partner_none, after_second, number_refused, number_taken, over_ends, over_again, Weighs, weighs_on}
use Rattle.pmd_write.proofs.weigh.Given.{Over}
use Rattle.pmd_write.proofs.weigh.Goals as goal
use Rattle.pmd_write.proofs.weigh.Goals.{After-has_partner, After-goes_on, then-has_partner+in_ok-taken, else-has_partner}

moved : (M : ℕ → ℕ → Type 0) {total sum n m : ℕ} → sum ≡ total → m ≡ n → M total n → M sum m
moved M {total} {sum} {n} {m} e f k = subst (λ (s : ℕ). M s m) (sym e) (subst (λ (j : ℕ). M total j) (sym f) k)

-- after the number v of the piece i
abbrev Taken : Bool → Shape → List ℕ → ℕ → ℕ → ℕ → ℕ → Type 0
Taken turns shape vs total n i v = Numbered (Weighs vs total n) turns shape vs n i (get_or shape.pieces i blank) v

-- and after its partner, if it has one
abbrev Next : Bool → Shape → List ℕ → ℕ → ℕ → ℕ → ℕ → ℕ → Type 0
Next turns shape vs n₀ i v total n = InShape (Weighs vs total n) turns shape vs n (behind turns shape i (get_or shape.pieces i blank) v) × (n₀ < n)

number : (g : Over) (c : After-has_partner g)
    → Taken (nonzero g.row.TURNAROUNDS) c.args.shape c.args.numbers.now (c.fields.total + c.choose-total-in-fields.result) (c.fields.n + 1) c.pieces.i c.in_ok-v.v
number g c =
    let f = c.fields.invariant in
    due_taken f c.in_ok-v.ensures (weighs_on f.known.also (due_narrow f) c.choose-total-in-fields.ensures c.in_ok-v.v)

next : (g : Over) (c : After-goes_on g)
    → Taken (nonzero g.row.TURNAROUNDS) c.args.shape c.args.numbers.now (c.fields.total + c.choose-total-in-fields.result) (c.fields.n + 1) c.pieces.i c.in_ok-v.v
    → Next (nonzero g.row.TURNAROUNDS) c.args.shape c.args.numbers.now c.fields.n c.pieces.i c.in_ok-v.v c.if-has_partner.total c.if-has_partner.n
next g c k =
    let M = Next (nonzero g.row.TURNAROUNDS) c.args.shape c.args.numbers.now c.fields.n c.pieces.i c.in_ok-v.v in
    elim c.if-has_partner.branch [
      | then-has_partner+in_ok-taken w ↦
          let o = partner_due k (sym c.has_partner.ensures ∙ w.if-has_partner.true) in
          moved M w.total-is w.n-is
          (after_second w.in_ok-taken.field-0 (number_taken o (next_parameters _) refl w.in_ok-taken.ensures (weighs_on o.also (lit≤ tt) w.choose-total-then-has_partner.ensures w.in_ok-taken.field-0)), omega arith)
      | else-has_partner w ↦ moved M w.total-is w.n-is (partner_none k (sym c.has_partner.ensures ∙ w.if-has_partner.false), omega arith)
    ]

pub records-init : goal.records-init
records-init g c = record { known = run_none (record { is = c.choose-total.ensures; low = omega arith }); there = omega (arith, (walkable c.args.shape).begins) }

pub fields-init : goal.fields-init
fields-init g c = fields_begin c.pieces.invariant c.pieces-test.true

pub returns-in_err-v : goal.returns-in_err-v
returns-in_err-v g c =
    let p = err_from_is_err_and c.from_residual.result c.from_residual.ensures.1 in
    p.1 ∙ answers (weight c.args.numbers.now) (due_refused c.fields.invariant c.in_err-v.ensures) (ap Err p.2)

pub returns-in_err-taken : goal.returns-in_err-taken
returns-in_err-taken g c =
    let p = err_from_is_err_and c.from_residual-in_err-taken.result c.from_residual-in_err-taken.ensures.1 in
    let o = partner_due (number g (goal.at.returns-in_err-taken g c).After-has_partner) (sym c.has_partner.ensures ∙ c.if-has_partner.true) in
    p.1 ∙ answers (weight c.args.numbers.now) (number_refused o (next_parameters _) refl c.in_err-taken.ensures) (ap Err p.2)

pub fields-preserved : goal.fields-preserved
fields-preserved g c =
    let at = goal.at.fields-preserved g c in
    let k = next g at.After-goes_on (number g at.After-has_partner) in
    fields_on {K = InShape (Weighs c.args.numbers.now c.fields.total c.fields.n) (nonzero g.row.TURNAROUNDS) c.args.shape c.args.numbers.now c.fields.n} c.fields.invariant {L = InShape (Weighs c.args.numbers.now c.if-has_partner.total c.if-has_partner.n) (nonzero g.row.TURNAROUNDS) c.args.shape c.args.numbers.now c.if-has_partner.n} c.in_ok-v.v k.1 (sym c.if-not-goes_on.ensures) k.0

pub pieces-preserved : goal.pieces-preserved
pieces-preserved g c =
    let at = goal.at.pieces-preserved g c in
    let k = next g at.After-goes_on (number g at.After-has_partner) in
    pieces_on {K = InShape (Weighs c.args.numbers.now c.pieces.total c.pieces.n) (nonzero g.row.TURNAROUNDS) c.args.shape c.args.numbers.now c.pieces.n} c.pieces.invariant {L = InShape (Weighs c.args.numbers.now c.if-has_partner.total c.if-has_partner.n) (nonzero g.row.TURNAROUNDS) c.args.shape c.args.numbers.now c.if-has_partner.n} (get_or c.args.shape.pieces c.pieces.i blank) c.in_ok-v.v (omega (arith, k.1, c.fields.invariant.since)) (sym c.if-not-goes_on.ensures) c.passes.ensures.is k.0

pub returns-then-numbers-n : goal.returns-then-numbers-n
returns-then-numbers-n g c =
    let o = pieces_over c.pieces.invariant c.pieces-test.false in counts (weight c.args.numbers.now) (over_ends o c.if-numbers-n.true) (ap Ok o.also.is)

pub records-preserved : goal.records-preserved
records-preserved g c = over_again (pieces_over c.pieces.invariant c.pieces-test.false) c.if-numbers-n.false
