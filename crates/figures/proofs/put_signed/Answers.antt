-- `figures::put_signed` meets its contract: a number of 16 bits whose sign is extended to 32 is the same number.
use mathlib.Core.Path.{◌≡◌, ap, ◌∙◌, subst}
use native.Mathlib.Omega.{arith}
use lib.IntN.{ℤ}
use lib.ListN.{length}
use Rattle.numbers.specs.Big.{signed, signed32}
use Rattle.numbers.proofs.Signs.{extended_exact}
use Rattle.figures.specs.Figures.{integer}
use Rattle.figures.specs.Fields.{FieldPut}
use Rattle.figures.proofs.put_signed.Goals as goal
use Rattle.figures.proofs.put_signed.Goals.{After-extended}

same : (c : After-extended) → signed32 c.extended.result ≡ signed c.args.n
same c = ap signed32 c.extended.ensures ∙ extended_exact c.args.n c.ranges.n.fits

pub put_signed32-requires : goal.put_signed32-requires
put_signed32-requires c = omega (arith, c.requires, ap (λ (z : ℤ). length (integer z)) (same c))

pub returns : goal.returns
returns c =
    let a = c.args in
    subst (λ (z : ℤ). FieldPut a.out.now a.at (integer z) a.end c.put_signed32.result c.put_signed32.new.out) (same (goal.at.returns c).After-extended) c.put_signed32.ensures
