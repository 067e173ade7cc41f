-- A check answers what a reading answers.
use Prim.Native.Nat.{ℕ}
use mathlib.Core.Path.{◌≡◌, refl}
use mathlib.Core.List.{List}
use Rattle.std.specs.Result.{result_map_both}
use Rattle.refusals.specs.Outcomes.{Outcome, fine, refused, answered}
use Rattle.refusals.specs.declared.Refused.{Refused}
use Rattle.pack.specs.Items.{count_of}
use Rattle.pack.specs.Reading.{Read, reading, checked}
use Rattle.pack.specs.Slots.{shown}
use Rattle.pack.specs.declared.Reading.{Reading}

answer_of : (o : Outcome Read) → answered (λ (r : Read). count_of r.body.parts) o ≡ result_map_both (λ (f : Reading). f.count) (λ (e : Refused). e) (answered shown o)
unfolding answered shown
answer_of (fine r) = refl
answer_of (refused why place) = refl

-- the answer of `check` is the count in the reading, or its refusal
pub check_is_read : (s : List ℕ) → checked s ≡ result_map_both (λ (f : Reading). f.count) (λ (e : Refused). e) (answered shown (reading s))
unfolding checked
check_is_read s = answer_of (reading s)
