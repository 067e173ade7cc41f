-- Two outcomes of `Names::note` that meet the promise on the same items coincide.
use mathlib.Core.Path.{◌≡◌}
use mathlib.Core.List.{List}
use mathlib.Core.Bool.{false}
use Rattle.std.specs.Prelude.{Option}
use native.Mathlib.Omega.{arith}
use lib.Seq.{ext_get_or}
use Rattle.runs.proofs.Cases.{one}
use Rattle.pack.specs.declared.Name.{Name}
use Rattle.scrub_names.specs.declared.Names.{Names}
use Rattle.scrub_names.specs.Marks.{Noted}

pub noted_one : {ms : List (Option Name)} {a b : Names} → Noted ms a → Noted ms b
    → (a.marks ≡ b.marks) × (a.order ≡ b.order) × (a.labels ≡ b.labels) × (a.listed ≡ b.listed) × (a.taken ≡ b.taken)
noted_one {ms} {a} {b} p q = (
  one p.marks q.marks,
  one p.order q.order,
  one p.labels q.labels,
  ext_get_or false a.listed b.listed (one p.long q.long) (λ n h. let w = p.long in one (p.listed n (omega arith)) (q.listed n (omega arith))),
  ext_get_or false a.taken b.taken (one p.wide q.wide) (λ n h. let w = p.wide in one (p.taken n (omega arith)) (q.taken n (omega arith))),
)
