-- `pack_read::open` meets its contract: the pack's start is refused, no Config stands first, or its mappings are read.
use mathlib.Core.Path.{◌≡◌, refl, sym, ◌∙◌}
use Prim.Native.Nat.{ℕ}
use native.Mathlib.Omega.{arith}
use Rattle.std.proofs.lemmas.Result.{err_from_is_err_and}
use Rattle.refusals.specs.Outcomes.{fine}
use Rattle.refusals.proofs.Lent.{refused_was}
use Rattle.refusals.proofs.Outcomes.{number_of}
use Rattle.pack.specs.Reading.{value_start}
use Rattle.pack.proofs.Turns.{start_small}
use Rattle.pack_config.proofs.Openings.{first_within}
use Rattle.pack_read.proofs.Openings.{open_refused, open_without, open_stops, open_with, open_sized}
use Rattle.pack_read.proofs.open.Goals as goal
use Rattle.pack_read.proofs.open.Goals.{In_ok-at}

-- past the pack's start, where its value starts
started : (c : In_ok-at) → value_start c.args.pack.now ≡ fine c.in_ok-at.at
started c = number_of _ (sym c.in_ok-at.was ∙ c.value_start.ensures)

pub returns-in_err-at : goal.returns-in_err-at
returns-in_err-at c =
    let p = err_from_is_err_and c.from_residual.result c.from_residual.ensures.1 in
    rw (p.1, p.2) (open_refused _ (refused_was (λ (n : ℕ). n) c.value_start.ensures c.in_err-at.was) refl c.requires)

pub returns-in_default : goal.returns-in_default
returns-in_default c = open_without _ (started (goal.at.returns-in_default c).In_ok-at) (sym c.first_at.ensures ∙ c.in_default.is) c.requires

pub config-requires : goal.config-requires
config-requires c =
    (first_within _ _ _ _ (sym c.first_at.ensures ∙ c.in-Some.is), start_small _ _ (started (goal.at.config-requires c).In_ok-at), c.requires)

pub returns-in_err-config : goal.returns-in_err-config
returns-in_err-config c =
    let p = err_from_is_err_and c.from_residual-in_err-config.result c.from_residual-in_err-config.ensures.1 in
    rw (p.1, p.2) (open_stops _ (started (goal.at.returns-in_err-config c).In_ok-at) (sym c.first_at.ensures ∙ c.in-Some.is) c.config.ensures c.in_err-config.was refl)

pub be16-requires : goal.be16-requires
be16-requires c =
    omega (arith, first_within _ _ _ _ (sym c.first_at.ensures ∙ c.in-Some.is), open_sized _ (started (goal.at.be16-requires c).In_ok-at) (sym c.first_at.ensures ∙ c.in-Some.is) c.config.ensures c.in_ok-config.was)

pub overflow_add-result : goal.overflow_add-result
overflow_add-result c =
    omega (arith, first_within _ _ _ _ (sym c.first_at.ensures ∙ c.in-Some.is), start_small _ _ (started (goal.at.overflow_add-result c).In_ok-at))

pub returns : goal.returns
returns c = open_with _ (started (goal.at.returns c).In_ok-at) (sym c.first_at.ensures ∙ c.in-Some.is) c.config.ensures c.in_ok-config.was c.be16.ensures
