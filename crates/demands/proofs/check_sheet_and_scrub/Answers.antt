-- `demands::check_sheet_and_scrub` meets its contract: a scrub tells of the sheet what its check tells.
use Rattle.demands.proofs.Calls.{check_then_scrub}
use Rattle.demands.proofs.check_sheet_and_scrub.Goals as goal

pub returns : goal.returns
returns c =
    check_then_scrub _ _ (λ k. (c.type_inv.pack k).fits) c.bw_sheet_check-first.ensures c.bw_scrub-second.ensures
