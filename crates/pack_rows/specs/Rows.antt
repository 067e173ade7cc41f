-- Trusted. The reading of a pack as rows of eight numbers, which is how C gets it (house).
use Rattle.std.specs.Prelude.{List, [], ◌∷◌, ◌++◌, Bool, cond, ℕ, get_or}
use Rattle.refusals.specs.Outcomes.{Outcome, fine, and_then}
use Rattle.numbers.specs.Big.{extended}
use Rattle.pack.specs.Config.{places_of}
use Rattle.pack.specs.Items.{count_of}
use Rattle.pack.specs.Reading.{Read, reading}
use Rattle.pack.specs.Slots.{slots}
use Rattle.pack.specs.Made.{made}
use Rattle.pack.specs.declared.Name.{Name}
use Rattle.pack.specs.declared.Name.TheVariants.{Label, Number}
use Rattle.pack.specs.declared.Head.{Head}
use Rattle.pack.specs.declared.Item.{Item}
use Rattle.pack.specs.declared.Item.TheVariants.{Single, Sync, Inner}

-- the row of the pack: its offset, 1 where a CRC stood, items and inner payloads together
unfoldable pub pack_row : ℕ → Bool → ℕ → List ℕ
pack_row o crc count = extended o ∷ cond crc 1 0 ∷ count ∷ 0 ∷ 0 ∷ 0 ∷ 0 ∷ 0 ∷ []

-- the row of a payload: its form and start; its name, 0 and the tag, or 1 and where the label's 16 bytes stand in the pack; its value's start
-- and length; its total offset. The label of the i-th mapping stands at the i-th of the places
unfoldable pub payload_row : List ℕ → ℕ → Name → ℕ → ℕ → ℕ → ℕ → List ℕ
payload_row places form (Number t) start v l total = form ∷ start ∷ 0 ∷ t ∷ v ∷ l ∷ total ∷ 0 ∷ []
payload_row places form (Label i) start v l total = form ∷ start ∷ 1 ∷ get_or places i 0 ∷ v ∷ l ∷ total ∷ 0 ∷ []

-- the row of a Sync: form 1, its start; 2 and the payloads inside; its value's start and length; sample_offset and duration
unfoldable pub sync_row : Head → List ℕ
sync_row h = 1 ∷ h.start ∷ 2 ∷ h.inside ∷ h.value_start ∷ h.value_len ∷ extended h.offset ∷ h.duration ∷ []

-- an audio payload has form 0, one inside the Sync above it form 2
unfoldable pub item_row : List ℕ → Item → List ℕ
item_row places (Single x) = payload_row places 0 x.name x.start x.value_start x.value_len x.total
item_row places (Sync h) = sync_row h
item_row places (Inner x) = payload_row places 2 x.name x.start x.value_start x.value_len x.total

-- the numbers of a reading: the pack's row, then a row for each item and inner payload in order
unfoldable pub rows_of : Read → List ℕ
rows_of r =
    pack_row r.offset r.body.crc (count_of r.body.parts) ++ made (item_row (places_of r.mappings)) (slots r.body.parts)

-- those of the bytes s, or the refusal
abbrev pub rows_read : List ℕ → Outcome (List ℕ)
rows_read s = and_then (reading s) (λ (r : Read). fine (rows_of r))
