-- `pack_item::inner_at` meets its contract: by what the quick look told, or by what stands there.
use mathlib.Core.Path.{sym, ◌∙◌}
use borrow.Author.Tests.{lt-leb, le-leb}
use Rattle.std.proofs.lemmas.Result.{err_from_is_err_and}
use Rattle.pack.specs.Payloads.{inner_at}
use Rattle.pack.proofs.Payloads.{seen_inner}
use Rattle.pack_item.proofs.Glances.{glance_told}
use Rattle.pack_item.proofs.inner_at.Goals as goal

pub returns-then-used-lt-ITEM_CAP : goal.returns-then-used-lt-ITEM_CAP
returns-then-used-lt-ITEM_CAP c =
    seen_inner _ _ _ _ _ _ (glance_told _ _ _ _ _ (sym c.look.ensures ∙ c.in-Some.is)) c.if-used-lt-ITEM_CAP.true

pub returns-in_err-element : goal.returns-in_err-element
unfolding inner_at
returns-in_err-element c =
    let p = err_from_is_err_and c.from_residual.result c.from_residual.ensures.1 in
    rw (p.1, p.2) (simp (sym c.payload_at.ensures ∙ c.in_err-element.was))

pub returns-then-element-le3 : goal.returns-then-element-le3
unfolding inner_at
returns-then-element-le3 c = simp (sym c.payload_at.ensures ∙ c.in_ok-element.was, le-leb _ _ c.if-element-le3.true)

pub returns-then-used-ge-ITEM_CAP : goal.returns-then-used-ge-ITEM_CAP
unfolding inner_at
returns-then-used-ge-ITEM_CAP c = simp (sym c.payload_at.ensures ∙ c.in_ok-element.was, lt-leb _ _ c.if-element-le3.false, le-leb _ _ c.if-used-ge-ITEM_CAP.true)

pub returns : goal.returns
unfolding inner_at
returns c = simp (sym c.payload_at.ensures ∙ c.in_ok-element.was, lt-leb _ _ c.if-element-le3.false, lt-leb _ _ c.if-used-ge-ITEM_CAP.false)
