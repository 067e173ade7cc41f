-- `demands::check_and_look_up` meets its contract: a look-up tells of two packs what their checks tell, and of a label what the packs say.
use Rattle.demands.proofs.Calls.{check_then_look_up}
use Rattle.demands.proofs.check_and_look_up.Goals as goal

pub returns : goal.returns
returns c =
    let a = c.args in
    check_then_look_up a.main.now a.backup.now a.label.now (λ k. (c.type_inv.main k).fits) (λ k. (c.type_inv.backup k).fits) c.bw_check-first.ensures
    c.bw_check-second.ensures c.bw_lookup-found.ensures
