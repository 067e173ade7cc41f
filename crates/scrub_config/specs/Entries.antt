-- Inner. Config, as it is written.
use Rattle.std.specs.Prelude.{List, ◌++◌, map, cond, ◌&&◌, ℕ, ◌+◌, ◌*◌, ◌<◌, ◌≤◌, eqb, length, take, drop}
use Rattle.numbers.specs.Tags.{tag_bytes}
use Rattle.numbers.specs.Lengths.{length_bytes}
use Rattle.pack_layout.specs.Layout.{Entry, config_bytes}
use Rattle.scrub_kept.specs.Written.{as_config}
use Rattle.scrub_config.specs.declared.Mapping.{Mapping}

-- a mapping that is written: its tag, and the label that stands at its place of the pack s
abbrev pub entry_at : List ℕ → Mapping → Entry
entry_at s m = record { tag = m.tag; stands = take 16 (drop m.place s) }

abbrev pub entries_at : List ℕ → List Mapping → List Entry
entries_at s ms = map (entry_at s) ms

-- its bytes
abbrev pub mapping_bytes : List ℕ → Mapping → List ℕ
mapping_bytes s m = tag_bytes m.tag ++ take 16 (drop m.place s)

-- Config, where there is one
abbrev pub config_at : List ℕ → ℕ → List Mapping → List ℕ
config_at s offset ms = config_bytes (as_config offset (entries_at s ms))

-- the size of Config with n mappings, whose tags have one byte each
unfoldable pub config_size : ℕ → ℕ → ℕ
config_size offset n = cond (eqb n 0 && eqb offset 0) 0 (1 + (length (length_bytes (2 + 17 * n)) + (2 + 17 * n)))

-- a tag of one byte, and a label that stands in the pack
abbrev pub MappingFits : List ℕ → Mapping → Type 0
MappingFits s m = (m.tag < 128) × (m.place + 16 ≤ length s)
