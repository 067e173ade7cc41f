-- `pack_item::item_in_full` meets its contract: by what stands there.
use mathlib.Core.Path.{sym, ◌∙◌}
use Rattle.std.proofs.lemmas.Result.{err_from_is_err_and}
use Rattle.pack.specs.Items.{item_at}
use Rattle.pack.proofs.Payloads.{payload_within}
use Rattle.pack_item.proofs.item_in_full.Goals as goal

pub returns-in_err-parsed_at : goal.returns-in_err-parsed_at
unfolding item_at
returns-in_err-parsed_at c =
    let p = err_from_is_err_and c.from_residual.result c.from_residual.ensures.1 in
    rw (p.1, p.2) (simp (sym c.parsed_at.ensures ∙ c.in_err-parsed_at.was))

pub judge-requires : goal.judge-requires
judge-requires c = (payload_within _ _ _ _ _ (sym c.parsed_at.ensures ∙ c.in_ok-parsed_at.was)).inside

pub returns : goal.returns
unfolding item_at
returns c = simp (sym c.parsed_at.ensures ∙ c.in_ok-parsed_at.was) c.judge.ensures
