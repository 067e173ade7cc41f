-- `pack_check::check` meets its contract: the pack's start or its opening is refused, or the items are counted.
use mathlib.Core.Path.{◌≡◌, sym, ◌∙◌}
use Prim.Native.Nat.{ℕ}
use Rattle.std.proofs.lemmas.Result.{err_from_is_err_and}
use Rattle.refusals.specs.Outcomes.{fine}
use Rattle.refusals.proofs.Lent.{refused_was}
use Rattle.refusals.proofs.Outcomes.{then_fine, then_refused, number_of, refused_of, done_of_lem}
use Rattle.pack.specs.Reading.{value_start, opening_at}
use Rattle.pack.proofs.Turns.{start_small}
use Rattle.pack_check.specs.Counts.{next_of}
use Rattle.pack_check.proofs.Checked.{checked_stops, checked_next}
use Rattle.pack_check.proofs.check.Goals as goal
use Rattle.pack_check.proofs.check.Goals.{In_ok-at}

-- past the pack's start, where its value starts
started : (c : In_ok-at) → value_start c.args.pack.now ≡ fine c.in_ok-at.at
started c = number_of _ (sym c.in_ok-at.was ∙ c.value_start.ensures)

pub returns-in_err-at : goal.returns-in_err-at
returns-in_err-at c =
    let p = err_from_is_err_and c.from_residual.result c.from_residual.ensures.1 in
    rw (p.1, p.2) (checked_stops _ (then_refused _ (refused_was (λ (n : ℕ). n) c.value_start.ensures c.in_err-at.was)))

pub items_start-requires : goal.items_start-requires
items_start-requires c = start_small _ _ (started c)

pub returns-in_err-from : goal.returns-in_err-from
returns-in_err-from c =
    let p = err_from_is_err_and c.from_residual-in_err-from.result c.from_residual-in_err-from.ensures.1 in
    rw (p.1, p.2)
    (checked_stops _ (then_fine (opening_at _) (started (goal.at.returns-in_err-from c).In_ok-at) ∙ refused_of next_of _ (sym c.in_err-from.was ∙ c.items_start.ensures)))

pub count_items-requires : goal.count_items-requires
count_items-requires c = start_small _ _ (started (goal.at.count_items-requires c).In_ok-at)

pub returns : goal.returns
returns c =
    let o = done_of_lem next_of _ (sym c.in_ok-from.was ∙ c.items_start.ensures) in
    checked_next _ (then_fine (opening_at _) (started (goal.at.returns c).In_ok-at) ∙ o.1) o.2 c.count_items.ensures
