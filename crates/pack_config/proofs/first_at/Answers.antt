-- `pack_config::first_at` meets its contract: by the first byte, or by what stands there.
use mathlib.Core.Path.{sym, ◌∙◌}
use Rattle.pack_config.proofs.Openings.{first_past, first_other, first_wrong, first_config}
use Rattle.pack_config.proofs.first_at.Goals as goal

pub returns-then-s-at : goal.returns-then-s-at
returns-then-s-at c = first_past _ _ c.if-s-at.true

pub returns-then-s-at-ne1 : goal.returns-then-s-at-ne1
returns-then-s-at-ne1 c = first_other _ _ (λ i. (c.type_inv.s i).fits) c.if-s-at-ne1.true

pub returns-in_default : goal.returns-in_default
returns-in_default c = first_wrong _ _ _ (sym c.payload_at.ensures ∙ c.in_default.is)

pub returns : goal.returns
returns c = first_config _ _ _ _ _ c.if-s-at.false c.if-s-at-ne1.false (sym c.payload_at.ensures ∙ c.in-Ok.is)
