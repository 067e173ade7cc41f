-- Trusted. The payloads of a pack, each with the two numbers of the Sync that it stands in. What a scrub keeps can be told by these alone.
use mathlib.Core.List.{List, [], ◌∷◌, map, flatten}
use Rattle.std.specs.Prelude.{Bool, true, false, ℕ, ◌<◌, length}
use Rattle.pack.specs.Said.{SaidPayload, SaidItem, single, sync}
use Rattle.runs.specs.Those.{those}
use Rattle.scrub_kept.specs.Sheet.{Sheet}
use Rattle.scrub_kept.specs.Kept.{keeps}

-- in no Sync, or in one with this sample_offset and duration
pub data Within : Type 0 where
  outside : Within
  inside : ℕ → ℕ → Within

pub record Placed : Type 0 where
  pub within : Within
  pub payload : SaidPayload

-- the payloads of an item
abbrev pub placed_in : SaidItem → List Placed
placed_in (single x) = record { within = outside; payload = x } ∷ []
placed_in (sync o d xs) = map (λ (x : SaidPayload). record { within = inside o d; payload = x }) xs

-- item by item
abbrev pub grouped : List SaidItem → List (List Placed)
grouped xs = map placed_in xs

-- all payloads in byte order
abbrev pub placed : List SaidItem → List Placed
placed xs = flatten (grouped xs)

-- whether the sheet names a payload
abbrev pub on_sheet : Sheet → Placed → Bool
on_sheet sheet p = keeps sheet p.payload.name

-- an item holds a payload: of a Sync this must be said
abbrev pub HasPayload : SaidItem → Type 0
HasPayload (single x) = Unit
HasPayload (sync o d xs) = 0 < length xs

-- whether a group has a payload
abbrev pub holds_one : List Placed → Bool
holds_one [] = false
holds_one (p ∷ r) = true

-- item by item the payloads that the sheet names, and nothing of an item that has none of them
abbrev pub named_by : Sheet → List SaidItem → List (List Placed)
named_by sheet xs = those holds_one (map (those (on_sheet sheet)) (grouped xs))
