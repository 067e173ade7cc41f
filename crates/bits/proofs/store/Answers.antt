-- `bits::store` meets its contract: the laws of no byte, of one and of two.
use mathlib.Core.Path.{◌≡◌, sym, ap, ◌∙◌}
use native.Mathlib.Omega.{arith}
use Rattle.bits.proofs.Stored.{stored, stored_none, stored_one, stored_two}
use Rattle.bits.proofs.store.Goals as goal
use Rattle.bits.proofs.store.Goals.{Else-n-eq1}

pub returns-then-n-eq0 : goal.returns-then-n-eq0
returns-then-n-eq0 c =
    let a = c.args in
    stored_none a.out.now a.at a.v ∙ ap (stored a.out.now a.at a.v) (sym c.if-n-eq0.true)

pub returns-then-n-eq1 : goal.returns-then-n-eq1
returns-then-n-eq1 c =
    let a = c.args in
    stored_one a.out.now a.at a.v (omega arith) ∙ ap (stored a.out.now a.at a.v) (sym c.if-n-eq1.true)

-- neither none nor one
two : (c : Else-n-eq1) → c.args.n ≡ 2
two c = omega arith

pub returns : goal.returns
returns c =
    let a = c.args in
    stored_two a.out.now a.at a.v (omega (arith, two c)) ∙ ap (stored a.out.now a.at a.v) (sym (two c))
