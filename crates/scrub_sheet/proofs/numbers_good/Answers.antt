-- `scrub_sheet::numbers_good` meets its contract. The front of the array has the numbers.
use mathlib.Core.Path.{ap, ◌∙◌}
use lib.ListN.{take}
use Rattle.pack.proofs.Padded.{take_padded}
use Rattle.scrub_kept.specs.Sheet.{sheet_cap, numbers_at, numbers_good}
use Rattle.scrub_kept.proofs.Sheets.{numbers_long}
use Rattle.scrub_sheet.proofs.numbers_good.Goals as goal

pub returns : goal.returns
returns c =
    c.all_good.ensures
    ∙ ap numbers_good
    (ap (take c.args.count) c.numbers_from-them.ensures ∙ take_padded sheet_cap 0 (numbers_at c.args.s.now c.args.at c.args.count) c.args.count (numbers_long c.args.s.now c.args.at c.args.count))
