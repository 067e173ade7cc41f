-- Trusted. The text of a reading, in ASCII: a line for the pack and one for each item and inner payload, or one line for a refusal.
use Rattle.std.specs.Prelude.{List, [], ◌∷◌, ◌++◌, Bool, cond, ℕ, get_or}
use Rattle.refusals.specs.Refusals.{number_of}
use Rattle.refusals.specs.Outcomes.{Outcome, fine, refused}
use Rattle.numbers.specs.Big.{signed, signed32}
use Rattle.pack.specs.Config.{places_of}
use Rattle.pack.specs.Items.{Part, one, many, count_of}
use Rattle.pack.specs.Reading.{Read}
use Rattle.pack.specs.Meaning.{stretch}
use Rattle.pack.specs.declared.Name.{Name}
use Rattle.pack.specs.declared.Name.TheVariants.{Label, Number}
use Rattle.pack.specs.declared.Payload.{Payload}
use Rattle.pack.specs.declared.Head.{Head}
use Rattle.figures.specs.Figures.{decimal, integer, hex}

-- a line of fields: a space between two, a newline at the end
unfoldable pub line : List (List ℕ) → List ℕ
line [] = 10 ∷ []
line (x ∷ []) = x ++ (10 ∷ [])
line (x ∷ y ∷ r) = x ++ (32 ∷ line (y ∷ r))

-- "pack"
abbrev pub pack_word : List ℕ
pack_word = 112 ∷ 97 ∷ 99 ∷ 107 ∷ []

-- "sync"
abbrev pub sync_word : List ℕ
sync_word = 115 ∷ 121 ∷ 110 ∷ 99 ∷ []

-- "number"
abbrev pub number_word : List ℕ
number_word = 110 ∷ 117 ∷ 109 ∷ 98 ∷ 101 ∷ 114 ∷ []

-- "label"
abbrev pub label_word : List ℕ
label_word = 108 ∷ 97 ∷ 98 ∷ 101 ∷ 108 ∷ []

-- "refused"
abbrev pub refused_word : List ℕ
refused_word = 114 ∷ 101 ∷ 102 ∷ 117 ∷ 115 ∷ 101 ∷ 100 ∷ []

-- "good" where a CRC stood, "none" where there was none
abbrev pub crc_word : Bool → List ℕ
crc_word crc = cond crc (103 ∷ 111 ∷ 111 ∷ 100 ∷ []) (110 ∷ 111 ∷ 110 ∷ 101 ∷ [])

-- the pack: its offset, of whose 16 bits o is the number; items and inner payloads together; the CRC
abbrev pub pack_fields : ℕ → ℕ → Bool → List (List ℕ)
pack_fields o count crc = pack_word ∷ integer (signed o) ∷ decimal count ∷ crc_word crc ∷ []

-- a Sync: start, sample_offset, duration, payloads inside
abbrev pub sync_fields : Head → List (List ℕ)
sync_fields h = sync_word ∷ decimal h.start ∷ integer (signed h.offset) ∷ decimal h.duration ∷ decimal h.inside ∷ []

-- a payload known by its tag number: start, tag, value length, total offset, of whose 32 bits total is the number
abbrev pub number_fields : ℕ → ℕ → ℕ → ℕ → List (List ℕ)
number_fields start tag len total = number_word ∷ decimal start ∷ decimal tag ∷ decimal len ∷ integer (signed32 total) ∷ []

-- a payload known by its label: start, the label's 16 bytes in hex, value length, total offset
abbrev pub label_fields : ℕ → List ℕ → ℕ → ℕ → List (List ℕ)
label_fields start label len total = label_word ∷ decimal start ∷ hex label ∷ decimal len ∷ integer (signed32 total) ∷ []

-- a payload by its name; the label of the i-th mapping is the 16 bytes of the pack s at the i-th of the places
unfoldable pub named_line : List ℕ → List ℕ → Name → ℕ → ℕ → ℕ → List ℕ
named_line s places (Label i) start len total = line (label_fields start (stretch s (get_or places i 0) 16) len total)
named_line s places (Number t) start len total = line (number_fields start t len total)

abbrev pub payload_line : List ℕ → List ℕ → Payload → List ℕ
payload_line s places x = named_line s places x.name x.start x.value_len x.total

unfoldable pub payload_lines : List ℕ → List ℕ → List Payload → List ℕ
payload_lines s places [] = []
payload_lines s places (x ∷ xs) = payload_line s places x ++ payload_lines s places xs

-- the items in order; the payloads inside a Sync follow its line
unfoldable pub part_lines : List ℕ → List ℕ → List Part → List ℕ
part_lines s places [] = []
part_lines s places (one x ∷ r) = payload_line s places x ++ part_lines s places r
part_lines s places (many h xs ∷ r) = line (sync_fields h) ++ (payload_lines s places xs ++ part_lines s places r)

-- a refusal: its number in document 01's table and its place
abbrev pub refused_fields : ℕ → ℕ → List (List ℕ)
refused_fields number place = refused_word ∷ decimal number ∷ decimal place ∷ []

-- the listing of the pack s, read as told
unfoldable pub listing : List ℕ → Outcome Read → List ℕ
listing s (fine r) =
    line (pack_fields r.offset (count_of r.body.parts) r.body.crc) ++ part_lines s (places_of r.mappings) r.body.parts
listing s (refused why place) = line (refused_fields (number_of why) place)
