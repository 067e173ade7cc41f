-- `demands::scrub_two` meets its contract: what two scrubs tell and leave is what the page of promises says of them.
use Rattle.demands.proofs.Calls.{scrub_two}
use Rattle.demands.proofs.scrub_two.Goals as goal

pub returns : goal.returns
returns c =
    scrub_two _ _ _ c.bw_scrub-first.ensures c.bw_scrub-second.ensures
