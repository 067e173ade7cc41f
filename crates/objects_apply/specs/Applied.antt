-- Inner. What a call on a lent table of objects promises.
use Rattle.std.specs.Prelude.{◌≡◌, List}
use Rattle.refusals.specs.Outcomes.{Answer}
use Rattle.objects.specs.declared.Object.{Object}
use Rattle.objects.specs.Calls.{Call, answer, next}
use Rattle.objects_pmd.specs.Values.{good}

-- the call's answer, and the table after it, which after a refusal is what it was
pub record Applied (c : Call) (before : List Object) (r : Answer) (after : List Object) : Type 0 where
  pub told : r ≡ answer good c before
  pub table : after ≡ next good c before
