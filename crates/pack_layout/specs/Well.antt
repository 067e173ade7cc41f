-- Trusted. The descriptions that a pack may have: every number fits, nothing is out of place, and the caps hold.
use Rattle.std.specs.Prelude.{◌≡◌, List, [], ◌∷◌, map, false, ℕ, ◌+◌, ◌<◌, ◌≤◌, ◌^◌, length}
use Rattle.runs.specs.Digits.{Bytes}
use Rattle.runs.specs.Same.{among, listed}
use Rattle.runs.specs.Those.{Each}
use Rattle.numbers.specs.Tags.{tag_bytes}
use Rattle.numbers.specs.Lengths.{longest, reach, form_bytes}
use Rattle.pack.specs.Fixed.{pack_cap, item_cap, mapping_cap, utility_labels}
use Rattle.pack_layout.specs.Layout.{Element, Chunk, plain, group, Entry, ConfigLaid, no_config, config, CrcLaid, no_crc, crc, Description, group_bytes, entries_bytes, content_bytes, layout}

-- the form can hold the length n
abbrev pub FormFits : ℕ → ℕ → Type 0
FormFits form n = (form ≤ longest) × (n < reach form)

-- an audio payload's tag is none of the three fixed ones
pub record WellElement (x : Element) : Type 0 where
  pub above : 3 < x.tag
  pub below : x.tag < 128 ^ 4
  pub fits : FormFits x.form (length x.value)
  pub bytes : Bytes x.value

abbrev pub WellElements : List Element → Type 0
WellElements xs = Each WellElement xs

-- a Sync holds at least one payload
pub record WellGroup (form o d : ℕ) (xs : List Element) : Type 0 where
  pub fits : FormFits form (length (group_bytes o d xs))
  pub offset : o < 65536
  pub duration : d < 65536
  pub some : 0 < length xs
  pub all : WellElements xs

abbrev pub WellChunk : Chunk → Type 0
WellChunk (plain x) = WellElement x
WellChunk (group form o d xs) = WellGroup form o d xs

abbrev pub WellChunks : List Chunk → Type 0
WellChunks cs = Each WellChunk cs

-- a mapping: no fixed tag, none of the three labels
pub record WellEntry (m : Entry) : Type 0 where
  pub above : 3 < m.tag
  pub below : m.tag < 128 ^ 4
  pub long : length m.stands ≡ 16
  pub bytes : Bytes m.stands
  pub free : listed m.stands utility_labels ≡ false

-- no tag and no label is mapped twice
unfoldable pub WellEntries : List Entry → Type 0
WellEntries [] = Unit
WellEntries (m ∷ r) =
    WellEntry m
    × (among m.tag (map (λ (x : Entry). x.tag) r) ≡ false)
    × (listed m.stands (map (λ (x : Entry). x.stands) r) ≡ false)
    × WellEntries r

unfoldable pub WellConfig : ConfigLaid → Type 0
WellConfig no_config = Unit
WellConfig (config form o ms) =
    FormFits form (2 + length (entries_bytes ms)) × (o < 65536) × (length ms ≤ mapping_cap) × WellEntries ms

unfoldable pub WellCrc : CrcLaid → Type 0
WellCrc no_crc = Unit
WellCrc (crc form) = form ≤ longest

-- how many bytes the CRC payload takes
abbrev pub crc_size : CrcLaid → ℕ
crc_size no_crc = 0
crc_size (crc form) = length (tag_bytes 3) + (length (form_bytes form 4) + 4)

-- audio payloads and Syncs together
unfoldable pub chunks_count : List Chunk → ℕ
chunks_count [] = 0
chunks_count (plain x ∷ r) = 1 + chunks_count r
chunks_count (group form o d xs ∷ r) = 1 + length xs + chunks_count r

pub record WellFormed (d : Description) : Type 0 where
  pub fits : FormFits d.form (length (content_bytes d) + crc_size d.last)
  pub opening : WellConfig d.first
  pub items : WellChunks d.chunks
  pub closing : WellCrc d.last
  pub count : chunks_count d.chunks ≤ item_cap
  pub small : length (layout d) ≤ pack_cap
