-- `pack_check::items_start` meets its contract: no Config stands first, or the items start after it.
use mathlib.Core.Path.{sym, ap, ◌∙◌}
use Rattle.refusals.specs.Outcomes.{answered}
use Rattle.refusals.proofs.Outcomes.{answered_fine}
use Rattle.pack_config.proofs.Openings.{first_within, opens_without, opens_with_lem}
use Rattle.pack_check.specs.Counts.{next_of}
use Rattle.pack_check.proofs.items_start.Goals as goal

pub returns-in-None : goal.returns-in-None
returns-in-None c = answered_fine next_of (opens_without _ _ (sym c.first_at.ensures ∙ c.in-None.is))

pub returns-in-Some : goal.returns-in-Some
returns-in-Some c = c.after_config.ensures ∙ sym (ap (answered next_of) (opens_with_lem _ _ _ _ (sym c.first_at.ensures ∙ c.in-Some.is)))

pub after_config-requires : goal.after_config-requires
after_config-requires c = (first_within _ _ _ _ (sym c.first_at.ensures ∙ c.in-Some.is), c.requires)
