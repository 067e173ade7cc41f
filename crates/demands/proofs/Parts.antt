-- What C is told of a success counts no more than the lent run holds, so the part that is handed on lies in it.
use mathlib.Core.Path.{◌≡◌, ap, ◌∙◌}
use mathlib.Core.List.{List, ◌++◌}
use Prim.Native.Nat.{ℕ, ◌-◌, ◌≤◌}
use native.Mathlib.Omega.{arith}
use lib.ListN.{length, replicate, length-append}
use Rattle.runs.specs.Over.{over}
use Rattle.runs.proofs.Over.{length_over}
use Rattle.refusals.specs.Outcomes.{Outcome}
use Rattle.refusals.specs.Lent.{within, lent, Lends}
use Rattle.refusals.proofs.Lent.{within_fine}
use Rattle.scrub_kept.specs.Scrubbed.{leaves}
use Rattle.ballastwren.specs.Told.{told_of}
use Rattle.ballastwren.specs.declared.Told.{Told}
use Rattle.ballastwren.proofs.Edge.{outcome_done}

module _ (o : Outcome (List ℕ)) {before after : List ℕ} {t : Told} where
  pub lent_part : Lends told_of lent (within (length before) o) before t after → t.number ≡ 0 → t.value ≤ length after
  unfolding lent
  lent_part x zero =
      let d = outcome_done x zero in
      let w = within_fine (length before) o d.0 d.1 in
      let long : length after ≡ length (over before 0 d.0) = ap length (x.run ∙ ap (lent before) d.1) in
      omega (arith, w.1, d.2, long, length_over before 0 d.0 (omega (arith, w.1)))

  pub leaves_part : Lends told_of leaves o before t after → t.number ≡ 0 → t.value ≤ length after
  unfolding leaves
  leaves_part x zero =
      let d = outcome_done x zero in
      let rest : List ℕ = replicate (length before - length d.0) 0 in
      let long : length after ≡ length (d.0 ++ rest) = ap length (x.run ∙ ap (leaves before) d.1) in
      omega (arith, d.2, long, length-append d.0 rest)
