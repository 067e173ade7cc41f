-- `pmd_write::pmd_write` meets its contract: each return by what is delivered there.
use mathlib.Core.Path.{ap, ◌∙◌}
use lib.ListN.{length}
use Rattle.std.specs.Prelude.{Err}
use Rattle.std.proofs.lemmas.Result.{err_from_is_err_and}
use Rattle.pmd.specs.Table.{kind_of}
use Rattle.pmd.proofs.Naming.{is_known, is_unknown}
use Rattle.pmd.proofs.Answers.{delivers_none, delivers_as}
use Rattle.pmd_write.proofs.Answers.{write_unknown, write_known, weighed_refused, weighed_big, weighed_noroom, weighed_roomy, weighed_all}
use Rattle.pmd_write.proofs.pmd_write.Goals as goal
use Rattle.pmd_write.proofs.pmd_write.Goals.{then-total-gt-MOST_BITS-via-then-total-gt-MOST_BITS, then-total-gt-MOST_BITS-via-else-total-gt-MOST_BITS+then-out-total}

pub returns-in_err-kind : goal.returns-in_err-kind
returns-in_err-kind c =
    let p = err_from_is_err_and c.from_residual.result c.from_residual.ensures.1 in
    let u = is_unknown (kind_of c.args.kind) c.in_err-kind.ensures in
    delivers_none (write_unknown c.args.kind c.args.numbers.now u.0) (p.1 ∙ ap Err (p.2 ∙ u.1))

pub returns-in_err-total : goal.returns-in_err-total
returns-in_err-total c =
    let p = err_from_is_err_and c.from_residual-in_err-total.result c.from_residual-in_err-total.ensures.1 in
    delivers_as (write_known c.args.kind c.args.numbers.now (is_known (kind_of c.args.kind) c.in_ok-kind.ensures))
    (weighed_refused c.in_ok-kind.kind c.args.numbers.now c.weigh_as.ensures c.in_err-total.was (p.1 ∙ ap Err p.2))

pub returns-then-total-gt-MOST_BITS : goal.returns-then-total-gt-MOST_BITS
returns-then-total-gt-MOST_BITS c =
    let kind = c.in_ok-kind.kind in
    let vs = c.args.numbers.now in
    let done = c.in_ok-total.was in
    delivers_as (write_known c.args.kind vs (is_known (kind_of c.args.kind) c.in_ok-kind.ensures))
    (elim c.then-total-gt-MOST_BITS.branch [
      | then-total-gt-MOST_BITS-via-then-total-gt-MOST_BITS w ↦ weighed_big kind vs c.weigh_as.ensures done w.if-total-gt-MOST_BITS.true (ap Err c.at.ensures)
      | then-total-gt-MOST_BITS-via-else-total-gt-MOST_BITS+then-out-total w ↦
          weighed_noroom kind vs c.weigh_as.ensures done w.if-total-gt-MOST_BITS.false w.if-out-total.true (ap Err c.at.ensures)
    ])

pub put_as-requires : goal.put_as-requires
put_as-requires c =
    weighed_roomy c.in_ok-kind.kind c.args.numbers.now c.weigh_as.ensures c.in_ok-total.was c.if-total-gt-MOST_BITS.false (length c.args.out.now) c.if-out-total.false

pub returns : goal.returns
returns c =
    delivers_as (write_known c.args.kind c.args.numbers.now (is_known (kind_of c.args.kind) c.in_ok-kind.ensures))
    (weighed_all c.in_ok-kind.kind c.args.numbers.now c.weigh_as.ensures c.in_ok-total.was c.if-total-gt-MOST_BITS.false c.if-out-total.false c.put_as.ensures)
