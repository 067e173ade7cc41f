-- A pack is refused, for a reason and at a place, exactly when it is wrong there in that way, in the words of the layout.
use mathlib.Core.Path.{◌≡◌}
use mathlib.Core.List.{List}
use Prim.Native.Nat.{ℕ}
use Rattle.runs.specs.Digits.{Bytes}
use Rattle.refusals.specs.declared.Refusal.{Refusal}
use Rattle.refusals.specs.Outcomes.{refused}
use Rattle.pack.specs.Reading.{reading}
use Rattle.pack_layout.specs.Refused.{Refused}
use Rattle.pack_layout.proofs.StopsPack.{refused_says}
use Rattle.pack_layout.proofs.RefusesPack.{refused_back}

pub refused_exactly : (s : List ℕ) → Bytes s → (why : Refusal) (place : ℕ)
    → (reading s ≡ refused why place → Refused s why place) × (Refused s why place → reading s ≡ refused why place)
refused_exactly s b why place = (refused_says s b why place, refused_back s b)
