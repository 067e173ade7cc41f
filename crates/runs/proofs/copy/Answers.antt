-- `runs::copy` meets its contract: the loop leaves nothing to write.
use mathlib.Core.Path.{◌≡◌, subst}
use Prim.Native.Nat.{ℕ, ◌+◌}
use native.Mathlib.Nat.{add-zero, add_assoc}
use native.Mathlib.Omega.{arith}
use lib.ListN.{length, drop_of_length-le}
use Rattle.runs.specs.Over.{Wrote}
use Rattle.runs.proofs.Stands.{here}
use Rattle.runs.proofs.Writing.{writing_begins, writing_as, writing_byte, writing_done}
use Rattle.runs.proofs.copy.Goals as goal

pub loop-i-init : goal.loop-i-init
loop-i-init c = let a = c.args in rw (add-zero a.at) (writing_begins a.out.now a.at a.src.now c.requires)

pub loop-i-preserved : goal.loop-i-preserved
loop-i-preserved c =
    let a = c.args in
    let l = c.loop-i in
    rw (← add_assoc a.at l.i 1) (writing_byte _ _ (writing_as (here a.src.now l.i c.loop-i-test.true) l.invariant))

pub shape_of-out : goal.shape_of-out
shape_of-out c = c.loop-i.invariant.same

pub returns : goal.returns
returns c =
    let a = c.args in
    let l = c.loop-i in
    let end : l.i ≡ length a.src.now = omega arith in
    subst (λ (n : ℕ). Wrote a.out.now a.at a.src.now (a.at + n) l.out) end (writing_done (writing_as (drop_of_length-le _ c.loop-i-test.false) l.invariant))
