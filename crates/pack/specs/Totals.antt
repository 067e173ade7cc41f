-- Trusted. The payloads of a pack in byte order, each with its total offset: pack offset plus Sync offset, and outside a Sync the pack offset alone.
use mathlib.Core.List.{List, [], ◌∷◌, map, flatten}
use Rattle.std.specs.Prelude.{ℕ, ℤ, ◌+ℤ◌}
use Rattle.numbers.specs.Big.{signed, signed32}
use Rattle.pack.specs.Said.{SaidPayload, SaidItem, single, sync, Said}
use Rattle.pack.specs.Config.{labels_of}
use Rattle.pack.specs.Items.{Part, one, many}
use Rattle.pack.specs.Reading.{Read}
use Rattle.pack.specs.Meaning.{meant_payload}
use Rattle.pack.specs.declared.Payload.{Payload}

pub record Totalled : Type 0 where
  pub payload : SaidPayload
  pub total : ℤ

-- by what the pack says: its offset o, and that of each Sync, are signed numbers
abbrev pub item_totals : ℕ → SaidItem → List Totalled
item_totals o (single x) = record { payload = x; total = signed o } ∷ []
item_totals o (sync p d xs) = map (λ (x : SaidPayload). record { payload = x; total = signed o +ℤ signed p }) xs

abbrev pub totals : Said → List Totalled
totals k = flatten (map (item_totals k.offset) k.items)

-- by the number that each payload of a reading carries
abbrev pub carries : List ℕ → List (List ℕ) → Payload → Totalled
carries s labels x = record { payload = meant_payload s labels x; total = signed32 x.total }

abbrev pub part_carries : List ℕ → List (List ℕ) → Part → List Totalled
part_carries s labels (one x) = carries s labels x ∷ []
part_carries s labels (many h xs) = map (carries s labels) xs

abbrev pub carried_totals : List ℕ → Read → List Totalled
carried_totals s r = flatten (map (part_carries s (labels_of r.mappings)) r.body.parts)
