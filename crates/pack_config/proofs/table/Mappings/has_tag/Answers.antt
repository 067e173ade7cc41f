-- `Mappings::has_tag` meets its contract: a tag is mapped just if its name is a label.
use mathlib.Core.Path.{sym, ◌∙◌}
use Rattle.pack_config.proofs.Names.{among_label, among_number}
use Rattle.pack_config.proofs.table.Mappings.has_tag.Goals as goal

pub returns-in-Label : goal.returns-in-Label
returns-in-Label c = among_label _ _ _ (sym c.name.ensures ∙ c.in-Label.is)

pub returns-in-Number : goal.returns-in-Number
returns-in-Number c = among_number _ _ _ (sym c.name.ensures ∙ c.in-Number.is)
