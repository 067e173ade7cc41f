-- `lookup::seek` meets its contract: the opening is refused, or the items are gone over for the tag that the label is mapped to.
use mathlib.Core.Path.{ap, ◌∙◌}
use Rattle.std.proofs.lemmas.Result.{err_from_is_err_and}
use Rattle.runs.specs.Digits.{Bytes}
use Rattle.numbers.specs.Big.{extended}
use Rattle.pack_read.specs.declared.Opening.{Opening}
use Rattle.pack_read.proofs.Openings.{opened_from, opened_small}
use Rattle.lookup.proofs.Tags.{labels_lie, maps_want, sought_from, seek_refused}
use Rattle.lookup.proofs.seek.Goals as goal

pub returns-in_err-opening : goal.returns-in_err-opening
returns-in_err-opening c =
    let p = err_from_is_err_and c.from_residual.result c.from_residual.ensures.1 in
    rw (p.1, p.2) (seek_refused c.args.pack.now c.args.label.now c.«open».ensures c.in_err-opening.was)

pub mapped_to-wanted-requires : goal.mapped_to-wanted-requires
mapped_to-wanted-requires c =
    let x = opened_from _ c.«open».ensures c.in_ok-opening.was in
    labels_lie _ c.args.label.now (λ k. (c.type_inv.pack k).fits) x.1 x.2

pub seek_items-requires : goal.seek_items-requires
seek_items-requires c = opened_small _ c.«open».ensures c.in_ok-opening.was

pub returns : goal.returns
returns c =
    let x = opened_from _ c.«open».ensures c.in_ok-opening.was in
    let s = c.args.pack.now in
    let l = c.args.label.now in
    let b : Bytes s = λ k. (c.type_inv.pack k).fits in
    sought_from s l x.1 b (maps_want s l b x.1 x.2 c.mapped_to-wanted.ensures) (ap (λ (o : Opening). o.next) x.3)
    (c.extended.ensures ∙ ap (λ (o : Opening). extended o.offset) x.3) c.seek_items.ensures
