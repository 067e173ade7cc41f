-- `figures::decimal_size` meets its contract: one more than the logarithm, which 0 does not have.
use Prim.Native.Nat.{◌+◌}
use mathlib.Core.Path.{ap, ◌∙◌}
use Rattle.figures.proofs.Figures.{size_log}
use Rattle.figures.proofs.decimal_size.Goals as goal

pub returns : goal.returns
returns c =
    let e = c.checked_ilog10.ensures in
    ap (λ k. k + 1) c.unwrap_or.ensures ∙ size_log c.args.n c.checked_ilog10.result e.none e.power_le e.next_power_gt e.bound
