-- What a number names, by what was answered.
use mathlib.Core.Path.{◌≡◌, refl, ap}
use Rattle.std.specs.Prelude.{Option, Some, None, Ok, Err}
use Rattle.runs.proofs.Cases.{absurd_eq}
use Rattle.refusals.specs.Refusals.{refused_at}
use Rattle.refusals.specs.declared.Refusal.TheVariants as R
use Rattle.refusals.specs.declared.Refused.{Refused}
use Rattle.pmd.specs.declared.Kind.{Kind}
use Rattle.pmd.specs.Table.{named}

pub is_known : (o : Option Kind) {kind : Kind} → Ok kind ≡ named o → o ≡ Some kind
is_known (Some k) e = ap Some (cc)
is_known None e = absurd_eq (cc)

pub is_unknown : (o : Option Kind) {r : Refused} → Err r ≡ named o → (o ≡ None) × (r ≡ refused_at R.Kind 0)
is_unknown (Some k) e = absurd_eq (cc)
is_unknown None e = (refl, cc)
