-- `scrub_sheet::these` meets its contract. A good header has eight bytes.
use mathlib.Core.Path.{sym, ◌∙◌}
use native.Mathlib.Omega.{arith}
use Rattle.scrub_sheet.proofs.Header.{header_counts, header_few}
use Rattle.scrub_sheet.proofs.these.Goals as goal

pub be16-labels-requires : goal.be16-labels-requires
be16-labels-requires c = omega (arith, header_counts _ (sym c.header_good.ensures ∙ c.if-not-header_good.false))

pub numbers_good-requires : goal.numbers_good-requires
numbers_good-requires c =
    let g = sym c.header_good.ensures ∙ c.if-not-header_good.false in
    let few = header_few _ g in
    (omega (arith, header_counts _ g, c.be16-labels.ensures, c.be16-count.ensures), omega (arith, few, c.be16-count.ensures))
