-- The value's refusal, or what its records come to.
use mathlib.Core.Path.{refl, ap, ◌∙◌}
use Prim.Native.Nat.{ℕ, ◌≤◌}
use native.Mathlib.Omega.{arith}
use lib.ListN.{length-replicate}
use Rattle.std.specs.Prelude.{Some, Err}
use Rattle.std.proofs.lemmas.Result.{err_from_is_err_and}
use Rattle.pmd.specs.declared.Kind.TheVariants as K
use Rattle.pmd.specs.Reading.{read_as}
use Rattle.objects_pmd.proofs.Records.{xyz_some}
use Rattle.objects_apply.proofs.Reading.{Got, got, rest_read, refusal_was, xyz_unread, xyz_read}
use Rattle.objects_apply.proofs.table.Table.apply_few.Given as given
use Rattle.objects_apply.proofs.table.Table.apply_few.Goals as goal
use Rattle.objects_apply.proofs.table.Table.apply_few.Goals.{In_ok-count}

pub returns-in_err-count : goal.returns-in_err-count
returns-in_err-count g c =
    let p = err_from_is_err_and c.from_residual.result c.from_residual.ensures.1 in
    xyz_unread (p.1 ∙ ap Err p.2)
    (refusal_was (read_as (Some K.Xyz) c.args.value.now) c.in_err-count.ensures (λ xs q. omega (arith, c.requires.few xs q, length-replicate {A = ℕ} g.row.N 0)) refl)

-- its numbers, where it has been read: the sample_time is there
numbers : (g : given.Over) (c : In_ok-count g) → Got (read_as (Some K.Xyz) c.args.value.now) c.in_ok-count.ensures c.in_ok-count.count
numbers g c = got (read_as (Some K.Xyz) c.args.value.now) c.in_ok-count.ensures refl

some : (g : given.Over) (c : In_ok-count g) → 1 ≤ c.in_ok-count.count
some g c = let n = numbers g c in omega (arith, n.many, xyz_some c.args.value.now n.numbers n.is)

pub slice_bounds-shift_all-count : goal.slice_bounds-shift_all-count
slice_bounds-shift_all-count g c = some g (goal.at.slice_bounds-shift_all-count g c).In_ok-count

pub slice_bounds-shift_all-start : goal.slice_bounds-shift_all-start
slice_bounds-shift_all-start g c = some g (goal.at.slice_bounds-shift_all-start g c).In_ok-count

pub slice_bounds-shift_all-end : goal.slice_bounds-shift_all-end
slice_bounds-shift_all-end g c = (numbers g (goal.at.slice_bounds-shift_all-end g c).In_ok-count).fits

pub returns : goal.returns
returns g c =
    let i = (goal.at.returns g c).In_ok-count in
    let n = numbers g i in xyz_read n.is (rest_read _ _ n (some g i)) c.shift_all.ensures
