-- `pack_check::after_config` meets its contract: the mappings are refused, or the items start after the Config.
use mathlib.Core.Path.{refl, sym, ◌∙◌}
use lib.ListN.{length}
use Rattle.std.proofs.lemmas.Result.{err_from_is_err_and}
use Rattle.refusals.proofs.Outcomes.{then_refused, then_fine, answered_refused, answered_fine, refused_of, done_of_lem}
use Rattle.pack_check.specs.Counts.{next_of}
use Rattle.pack_check.proofs.after_config.Goals as goal

pub returns-in_err-config : goal.returns-in_err-config
returns-in_err-config c =
    let p = err_from_is_err_and c.from_residual.result c.from_residual.ensures.1 in
    rw (p.1, p.2) (answered_refused next_of (then_refused _ (refused_of length _ (sym c.in_err-config.was ∙ c.config.ensures.count))) refl)

pub returns : goal.returns
returns c = answered_fine next_of (then_fine _ (done_of_lem length _ (sym c.in_ok-config.was ∙ c.config.ensures.count)).1)
