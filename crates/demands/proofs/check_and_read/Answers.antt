-- `demands::check_and_read` meets its contract: a check tells what reading tells.
use Rattle.demands.proofs.Calls.{check_then_read}
use Rattle.demands.proofs.check_and_read.Goals as goal

pub returns : goal.returns
returns c =
    check_then_read _ (λ k. (c.type_inv.pack k).fits) c.bw_check-first.ensures c.bw_read-second.ensures
