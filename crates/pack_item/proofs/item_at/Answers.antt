-- `pack_item::item_at` meets its contract: by what the quick look told, or by what stands there.
use mathlib.Core.Path.{sym, ◌∙◌}
use Rattle.pack.proofs.Payloads.{seen_item}
use Rattle.pack_item.proofs.Glances.{glance_told}
use Rattle.pack_item.proofs.item_at.Goals as goal

pub returns-then-used-lt-ITEM_CAP : goal.returns-then-used-lt-ITEM_CAP
returns-then-used-lt-ITEM_CAP c =
    seen_item _ _ _ _ _ _ (glance_told _ _ _ _ _ (sym c.look.ensures ∙ c.in-Some.is)) c.if-used-lt-ITEM_CAP.true

pub returns : goal.returns
returns c = c.item_in_full.ensures
