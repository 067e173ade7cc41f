-- Trusted. A pack as it is made: a description, and the bytes that it is laid out in. Defined by writing alone, so that the reader's definition can be held
-- against it.
use Rattle.std.specs.Prelude.{List, [], ◌∷◌, ◌++◌, map, Bool, true, false, cond, ℕ, ◌+◌, eqb, length}
use Rattle.runs.specs.Digits.{digits}
use Rattle.numbers.specs.Tags.{tag_bytes}
use Rattle.numbers.specs.Lengths.{form_bytes}
use Rattle.crc.specs.Crc.{crc_of}
use Rattle.pack.specs.Fixed.{key}
use Rattle.pack.specs.Said.{SaidName, label, number, SaidPayload, SaidItem, single, sync, Said}

-- a payload as it is written: its tag, the form of its length, its value
pub record Element : Type 0 where
  pub tag : ℕ
  pub form : ℕ
  pub value : List ℕ

-- an audio payload, or a Sync: the form of its length, its two numbers, its payloads
pub data Chunk : Type 0 where
  plain : Element → Chunk
  group : ℕ → ℕ → ℕ → List Element → Chunk

-- a tag that stands for a label
pub record Entry : Type 0 where
  pub tag : ℕ
  pub stands : List ℕ

-- no Config, or one with the form of its length, the pack offset and the mappings
pub data ConfigLaid : Type 0 where
  no_config : ConfigLaid
  config : ℕ → ℕ → List Entry → ConfigLaid

-- no CRC, or one with the form of its length
pub data CrcLaid : Type 0 where
  no_crc : CrcLaid
  crc : ℕ → CrcLaid

-- a description: the form of the pack's own length, Config, the items, CRC
pub record Description : Type 0 where
  pub form : ℕ
  pub first : ConfigLaid
  pub chunks : List Chunk
  pub last : CrcLaid

-- tag, length, value
abbrev pub element : ℕ → ℕ → List ℕ → List ℕ
element t form v = tag_bytes t ++ (form_bytes form (length v) ++ v)

unfoldable pub elements_bytes : List Element → List ℕ
elements_bytes [] = []
elements_bytes (x ∷ r) = element x.tag x.form x.value ++ elements_bytes r

-- a Sync's value: sample_offset, duration, payloads
abbrev pub group_bytes : ℕ → ℕ → List Element → List ℕ
group_bytes o d xs = digits 256 2 o ++ (digits 256 2 d ++ elements_bytes xs)

unfoldable pub chunks_bytes : List Chunk → List ℕ
chunks_bytes [] = []
chunks_bytes (plain x ∷ r) = element x.tag x.form x.value ++ chunks_bytes r
chunks_bytes (group form o d xs ∷ r) = element 2 form (group_bytes o d xs) ++ chunks_bytes r

unfoldable pub entries_bytes : List Entry → List ℕ
entries_bytes [] = []
entries_bytes (m ∷ r) = tag_bytes m.tag ++ (m.stands ++ entries_bytes r)

unfoldable pub config_bytes : ConfigLaid → List ℕ
config_bytes no_config = []
config_bytes (config form o ms) = element 1 form (digits 256 2 o ++ entries_bytes ms)

-- what stands between the pack's length and its CRC, if there is one
abbrev pub content_bytes : Description → List ℕ
content_bytes d = config_bytes d.first ++ chunks_bytes d.chunks

-- key and length, in their form, before a value of n bytes
abbrev pub start_bytes : Description → ℕ → List ℕ
start_bytes d n = key ++ form_bytes d.form n

-- up to and including the CRC's length
unfoldable pub before_crc : Description → ℕ → List ℕ
before_crc d form =
    start_bytes d (length (content_bytes d) + (length (tag_bytes 3 ++ form_bytes form 4) + 4))
    ++ (content_bytes d ++ (tag_bytes 3 ++ form_bytes form 4))

unfoldable pub laid : Description → CrcLaid → List ℕ
laid d no_crc = start_bytes d (length (content_bytes d)) ++ content_bytes d
laid d (crc form) = before_crc d form ++ digits 256 4 (crc_of (before_crc d form))

-- the bytes of a description
abbrev pub layout : Description → List ℕ
layout d = laid d d.last

-- what a description says: a tag that is mapped stands for its label
unfoldable pub entry_for : List Entry → ℕ → SaidName
entry_for [] t = number t
entry_for (m ∷ ms) t = cond (eqb m.tag t) (label m.stands) (entry_for ms t)

abbrev pub said_element : List Entry → Element → SaidPayload
said_element ms x = record { name = entry_for ms x.tag; value = x.value }

abbrev pub said_chunk : List Entry → Chunk → SaidItem
said_chunk ms (plain x) = single (said_element ms x)
said_chunk ms (group form o d xs) = sync o d (map (said_element ms) xs)

abbrev pub offset_laid : ConfigLaid → ℕ
offset_laid no_config = 0
offset_laid (config form o ms) = o

abbrev pub entries_laid : ConfigLaid → List Entry
entries_laid no_config = []
entries_laid (config form o ms) = ms

abbrev pub crc_mark : CrcLaid → Bool
crc_mark no_crc = false
crc_mark (crc form) = true

unfoldable pub says : Description → Said
says d = record { offset = offset_laid d.first; items = map (said_chunk (entries_laid d.first)) d.chunks }
