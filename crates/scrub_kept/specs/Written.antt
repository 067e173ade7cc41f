-- Trusted. The pack that is written for what is kept: shortest lengths throughout, Config only where it is needed, always a CRC.
use Rattle.std.specs.Prelude.{List, [], ◌∷◌, ◌++◌, map, cond, ℕ, zero, suc, ◌+◌, eqb, length}
use Rattle.runs.specs.Same.{same, among, listed}
use Rattle.numbers.specs.Lengths.{shortest}
use Rattle.pack.specs.Said.{SaidName, label, number, SaidPayload, SaidItem, single, sync, Said, names}
use Rattle.pack_layout.specs.Layout.{Element, Chunk, plain, group, Entry, ConfigLaid, no_config, config, crc, Description, group_bytes, entries_bytes, config_bytes, chunks_bytes, layout}

-- the tag numbers among names
unfoldable pub numbers_in : List SaidName → List ℕ
numbers_in [] = []
numbers_in (label l ∷ r) = numbers_in r
numbers_in (number t ∷ r) = t ∷ numbers_in r

-- the labels among names in order of first appearance, but for those of `seen`
unfoldable pub labels_in : List (List ℕ) → List SaidName → List (List ℕ)
labels_in seen [] = []
labels_in seen (number t ∷ r) = labels_in seen r
labels_in seen (label l ∷ r) = cond (listed l seen) (labels_in seen r) (l ∷ labels_in (l ∷ seen) r)

-- the smallest number from n up that is not taken, where at most k from n on are
unfoldable pub free_from : ℕ → ℕ → List ℕ → ℕ
free_from zero n taken = n
free_from (suc k) n taken = cond (among n taken) (free_from k (suc n) taken) n

-- the smallest number from 64 up that is not taken
abbrev pub free : List ℕ → ℕ
free taken = free_from (length taken) 64 taken

-- each label gets the smallest number from 64 up that no kept payload has as its number name and no earlier mapping took
unfoldable pub assigned : List ℕ → List (List ℕ) → List Entry
assigned taken [] = []
assigned taken (l ∷ ls) = record { tag = free taken; stands = l } ∷ assigned (free taken ∷ taken) ls

abbrev pub entries : List SaidName → List Entry
entries ns = assigned (numbers_in ns) (labels_in [] ns)

-- the tag that a name is written with
unfoldable pub tag_for : List Entry → SaidName → ℕ
tag_for ms (number t) = t
tag_for [] (label l) = 0
tag_for (m ∷ ms) (label l) = cond (same m.stands l) m.tag (tag_for ms (label l))

abbrev pub as_element : List Entry → SaidPayload → Element
as_element ms x = record { tag = tag_for ms x.name; form = shortest (length x.value); value = x.value }

abbrev pub as_chunk : List Entry → SaidItem → Chunk
as_chunk ms (single x) = plain (as_element ms x)
as_chunk ms (sync o d xs) = group (shortest (length (group_bytes o d (map (as_element ms) xs)))) o d (map (as_element ms) xs)

-- Config only if the pack offset isn't 0 or a kept payload has a label
unfoldable pub as_config : ℕ → List Entry → ConfigLaid
as_config o [] = cond (eqb o 0) no_config (config (shortest 2) o [])
as_config o (m ∷ ms) = config (shortest (2 + length (entries_bytes (m ∷ ms)))) o (m ∷ ms)

abbrev pub entries_of : Said → List Entry
entries_of k = entries (names k.items)

abbrev pub config_for : Said → ConfigLaid
config_for k = as_config k.offset (entries_of k)

abbrev pub chunks_of : Said → List Chunk
chunks_of k = map (as_chunk (entries_of k)) k.items

-- what stands between the pack's length and its CRC
abbrev pub content_of : Said → List ℕ
content_of k = config_bytes (config_for k) ++ chunks_bytes (chunks_of k)

-- the size of the pack's value: the CRC payload takes six bytes, its tag, its length and four bytes of value
abbrev pub value_size : Said → ℕ
value_size k = length (content_of k) + 6

unfoldable pub described : Said → Description
described k = record { form = shortest (value_size k); first = config_for k; chunks = chunks_of k; last = crc 0 }

-- the bytes that are written for what is kept
unfoldable pub written : Said → List ℕ
written k = layout (described k)
