-- `Mappings::name` meets its contract: by the index, or by the search.
use mathlib.Core.Path.{sym, ◌∙◌}
use Rattle.pack_config.proofs.Names.{index_none, index_some}
use Rattle.pack_config.proofs.table.Mappings.name.Goals as goal

pub returns-then-index-eq0 : goal.returns-then-index-eq0
returns-then-index-eq0 c = index_none _ _ c.if-index-eq0.true ∙ sym (c.args.self.now.index _ c.if-tag-ge128.false)

pub returns : goal.returns
returns c = index_some _ _ c.if-index-eq0.false ∙ sym (c.args.self.now.index _ c.if-tag-ge128.false)
