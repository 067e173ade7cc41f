-- Trusted. The bench examples of document 01 that are marked P, as one table, those of turnarounds, and those of languages. The key and the three labels
-- stand here byte for byte.
use Rattle.std.specs.Prelude.{◌≡◌, List, [], ◌∷◌, ◌++◌, Ok, ℕ, ◌+◌, ◌*◌, ◌/◌, ◌%◌, pos, negsuc}
use Rattle.refusals.specs.declared.Refusal.TheVariants as R
use Rattle.refusals.specs.Outcomes.{Outcome, fine, refused, and_then}
use Rattle.pack.specs.Fixed.{utility_labels}
use Rattle.pack.specs.Said.{number, SaidItem, single, Said}
use Rattle.pack.specs.Reading.{reading}
use Rattle.pack.specs.Meaning.{meant}
use Rattle.pmd.specs.Reading as pmd
use Rattle.pmd.specs.Writing.{fields_written}
use Rattle.pmd.specs.Gain.{level_of}
use Rattle.pmd.specs.declared.Level.{Level}
use Rattle.pmd.specs.declared.Level.TheVariants as G

-- K, the pack key
abbrev pub K : List ℕ
K = 0x06 ∷ 0x0E ∷ 0x2B ∷ 0x34 ∷ 0x02 ∷ 0x7F ∷ 0x01 ∷ 0x01 ∷ 0x0C ∷ 0x04 ∷ 0x01 ∷ 0x00 ∷ 0x00 ∷ 0x00 ∷ 0x00 ∷ 0x00 ∷ []

-- a line: the labels of Config, Sync and CRC; a pack, K left out, and what comes of it; a PMD value of a kind, and its fields; a gain, and its level
pub data Line : Type 0 where
  labels : List (List ℕ) → Line
  pack : List ℕ → Outcome Said → Line
  value : ℕ → List ℕ → Outcome (List ℕ) → Line
  gain : ℕ → Level → Line

-- what a pack says, or its refusal
abbrev pub said_by : List ℕ → Outcome Said
said_by s = and_then (reading s) (λ r. fine (meant s r))

abbrev pub LineHolds : Line → Type 0
LineHolds (labels expected) = utility_labels ≡ expected
LineHolds (pack rest expected) = said_by (K ++ rest) ≡ expected
LineHolds (value kind s expected) = pmd.fields_read kind s ≡ expected
LineHolds (gain g expected) = level_of g ≡ Ok expected

unfoldable pub All : List Line → Type 0
All [] = Unit
All (x ∷ r) = LineHolds x × All r

-- a pack without offset that has these items
abbrev pub items : List SaidItem → Outcome Said
items xs = fine (record { offset = 0; items = xs })

-- number 5, value AA
abbrev pub five_aa : List SaidItem
five_aa = single (record { name = number 5; value = 0xAA ∷ [] }) ∷ []

abbrev pub table : List Line
table =
    labels
    ((0x06 ∷ 0x0E ∷ 0x2B ∷ 0x34 ∷ 0x04 ∷ 0x01 ∷ 0x01 ∷ 0x0D ∷ 0x04 ∷ 0x04 ∷ 0x02 ∷ 0x01 ∷ 0x00 ∷ 0x00 ∷ 0x00 ∷ 0x00 ∷ [])
    ∷ (0x06 ∷ 0x0E ∷ 0x2B ∷ 0x34 ∷ 0x04 ∷ 0x01 ∷ 0x01 ∷ 0x0D ∷ 0x04 ∷ 0x04 ∷ 0x02 ∷ 0x02 ∷ 0x00 ∷ 0x00 ∷ 0x00 ∷ 0x00 ∷ [])
    ∷ (0x06 ∷ 0x0E ∷ 0x2B ∷ 0x34 ∷ 0x04 ∷ 0x01 ∷ 0x01 ∷ 0x0D ∷ 0x04 ∷ 0x04 ∷ 0x02 ∷ 0x03 ∷ 0x00 ∷ 0x00 ∷ 0x00 ∷ 0x00 ∷ [])
    ∷ [])
    ∷ pack (0x00 ∷ []) (items [])
    ∷ pack (0x04 ∷ 0x05 ∷ 0x81 ∷ 0x01 ∷ 0xAA ∷ []) (items five_aa)
    ∷ pack (0x03 ∷ 0x05 ∷ 0x01 ∷ 0xAA ∷ []) (items five_aa)
    ∷ pack (0x80 ∷ []) (refused R.Length 16)
    ∷ pack (0x02 ∷ 0x05 ∷ 0x01 ∷ []) (refused R.Cut 17)
    ∷ pack (0x02 ∷ 0x80 ∷ 0x00 ∷ []) (refused R.Tag 17)
    ∷ pack (0x06 ∷ 0x02 ∷ 0x04 ∷ 0x00 ∷ 0x00 ∷ 0x00 ∷ 0x00 ∷ []) (refused R.Sync 17)
    ∷ pack (0x06 ∷ 0x05 ∷ 0x00 ∷ 0x01 ∷ 0x02 ∷ 0x00 ∷ 0x00 ∷ []) (refused R.Place 19)
    ∷ value 4 (0x04 ∷ 0x00 ∷ 0x40 ∷ 0x18 ∷ 0x03 ∷ 0xFF ∷ []) (fine (1 ∷ 1 ∷ 1 ∷ 512 ∷ 1023 ∷ []))
    ∷ value 6 (0x14 ∷ 0x10 ∷ 0x00 ∷ []) (fine (1 ∷ 65 ∷ 0 ∷ []))
    ∷ value 6 (0x14 ∷ 0x10 ∷ 0x01 ∷ []) (refused R.Pad 20)
    ∷ value 1 (0x00 ∷ 0x80 ∷ 0xAE ∷ 0x00 ∷ 0x00 ∷ 0x00 ∷ []) (fine (1 ∷ 0 ∷ 5568 ∷ 0 ∷ []))
    ∷ gain 0 G.Muted
    ∷ gain 1 (G.HalfDecibels (negsuc 49))
    ∷ gain 51 (G.HalfDecibels (pos 0))
    ∷ gain 63 (G.HalfDecibels (pos 12))
    ∷ []

-- Kind 7: neither deliverable; ED2 with one pair, and the parameter set of its closing pair; Dolby E with the last rate, configuration and presentation. Then
-- what is reserved: a rate of 6, a configuration of 24, and an id of 0, where 8 bits that are left begin another record; a closing pair that is cut off; and
-- a number that is no kind.
abbrev pub turnarounds : List Line
turnarounds =
    value 7 (0x07 ∷ 0x00 ∷ []) (fine (7 ∷ 0 ∷ 0 ∷ []))
    ∷ value 7 (0x01 ∷ 0x98 ∷ 0x14 ∷ 0x24 ∷ 0x00 ∷ 0x06 ∷ []) (fine (1 ∷ 1 ∷ 3 ∷ 5 ∷ 9 ∷ 0 ∷ 3 ∷ 0 ∷ []))
    ∷ value 7 (0x01 ∷ 0x56 ∷ 0xFF ∷ 0xF0 ∷ 0x00 ∷ 0x07 ∷ 0xF8 ∷ []) (fine (1 ∷ 0 ∷ 1 ∷ 5 ∷ 23 ∷ 511 ∷ 0 ∷ 0 ∷ 255 ∷ []))
    ∷ value 7 (0x01 ∷ 0xB0 ∷ 0x00 ∷ 0x00 ∷ []) (refused R.Field 9)
    ∷ value 7 (0x01 ∷ 0x47 ∷ 0x00 ∷ 0x00 ∷ 0x00 ∷ []) (refused R.Field 14)
    ∷ value 7 (0x07 ∷ 0x00 ∷ 0x00 ∷ []) (refused R.Field 10)
    ∷ value 7 (0x01 ∷ 0x98 ∷ 0x00 ∷ []) (refused R.Bits 22)
    ∷ value 8 (0x07 ∷ 0x00 ∷ []) (refused R.Kind 0)
    ∷ []

-- a langcod of these three groups
abbrev pub groups : ℕ → ℕ → ℕ → ℕ
groups a b c = a * 1024 + b * 32 + c

-- the numbers of kind 2 that give presentation 1 an empty name in a language, and their value: 9 bits, 15 and 8
abbrev pub nameless : ℕ → List ℕ
nameless langcod = 1 ∷ langcod ∷ 0 ∷ []

abbrev pub nameless_value : ℕ → List ℕ
nameless_value langcod = 0x00 ∷ (0x80 + langcod / 256) ∷ (langcod % 256) ∷ 0x00 ∷ []

-- a langcod that is read and written
abbrev pub IsLanguage : ℕ → Type 0
IsLanguage langcod =
    (pmd.fields_read 2 (nameless_value langcod) ≡ fine (nameless langcod)) × (fields_written 2 (nameless langcod) ≡ fine (nameless_value langcod))

-- one that is refused at its place, bit 9 of the value and number 1 of the list
abbrev pub IsReserved : ℕ → Type 0
IsReserved langcod =
    (pmd.fields_read 2 (nameless_value langcod) ≡ refused R.Field 9) × (fields_written 2 (nameless langcod) ≡ refused R.Field 1)

-- Request 2026-02: the letters of a langcod end with z, and 27 is reserved in each group.
abbrev pub Languages : Type 0
Languages =
    IsLanguage (groups 26 26 26)
    × (IsLanguage (groups 26 26 0)
    × (IsReserved (groups 27 26 26)
    × (IsReserved (groups 26 27 26)
    × IsReserved (groups 26 26 27))))
