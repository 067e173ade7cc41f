-- The value's refusal, or what its records come to.
use mathlib.Core.Path.{refl, ap, ◌∙◌}
use Prim.Native.Nat.{ℕ}
use native.Mathlib.Omega.{arith}
use lib.ListN.{length-replicate}
use Rattle.std.specs.Prelude.{Some, Err}
use Rattle.std.proofs.lemmas.Result.{err_from_is_err_and}
use Rattle.pmd.specs.declared.Kind.TheVariants as K
use Rattle.pmd.specs.Reading.{read_as}
use Rattle.objects_pmd.proofs.Records.{aod_few}
use Rattle.objects_pmd.proofs.Values.{aod_sound}
use Rattle.objects_apply.proofs.Reading.{Got, got, all_read, refusal_was, aod_unread, sound_part, aod_read}
use Rattle.objects_apply.proofs.table.Table.apply_aod.Goals as goal
use Rattle.objects_apply.proofs.table.Table.apply_aod.Goals.{In_ok-count}

pub returns-in_err-count : goal.returns-in_err-count
returns-in_err-count c =
    let p = err_from_is_err_and c.from_residual.result c.from_residual.ensures.1 in
    aod_unread (p.1 ∙ ap Err p.2)
    (refusal_was (read_as (Some K.Aod) c.args.value.now) c.in_err-count.ensures (λ xs q. omega (arith, aod_few _ xs q, length-replicate {A = ℕ} 5291 0)) refl)

-- its numbers, where it has been read
numbers : (c : In_ok-count) → Got (read_as (Some K.Aod) c.args.value.now) c.in_ok-count.ensures c.in_ok-count.count
numbers c = got (read_as (Some K.Aod) c.args.value.now) c.in_ok-count.ensures refl

pub slice_bounds-set_all-end : goal.slice_bounds-set_all-end
slice_bounds-set_all-end c = (numbers (goal.at.slice_bounds-set_all-end c).In_ok-count).fits

pub set_all-requires : goal.set_all-requires
set_all-requires c =
    let g = numbers (goal.at.set_all-requires c).In_ok-count in
    sound_part (aod_sound c.args.value.now g.numbers g.is) (all_read _ _ g)

pub returns : goal.returns
returns c =
    let g = numbers (goal.at.returns c).In_ok-count in aod_read g.is (all_read _ _ g) c.set_all.ensures
