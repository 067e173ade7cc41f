-- Document 01's example of a listing, computed: the key, then 08 02 06 FF FF 00 00 05 00.
use mathlib.Core.Path.{◌≡◌, refl}
use mathlib.Core.List.{List, [], ◌∷◌, ◌++◌}
use Prim.Native.Nat.{ℕ}
use Rattle.runs.specs.Digits.{digits, number_from}
use Rattle.runs.specs.Same.{same}
use Rattle.refusals.specs.Outcomes.{and_then}
use Rattle.numbers.specs.Big.{big_at, signed, signed32, extended, sum32}
use Rattle.numbers.specs.Tags.{tag_at, tag_from}
use Rattle.numbers.specs.Lengths.{length_at}
use Rattle.pack.specs.Fixed.{key}
use Rattle.pack.specs.Payloads.{value_found, tag_found, payload_at, inner_at, name_from, inners_from}
use Rattle.pack.specs.Items.{judged, item_at, some_inside, items_from, count_of}
use Rattle.pack.specs.Reading.{value_start, opening_at, read_from, reading}
use Rattle.figures.specs.Figures.{size_from, decimal, integer}
use Rattle.pack_text.specs.Text.{line, named_line, payload_lines, part_lines, listing}

unfoldable pub example : List ℕ
example = key ++ (0x08 ∷ 0x02 ∷ 0x06 ∷ 0xFF ∷ 0xFF ∷ 0x00 ∷ 0x00 ∷ 0x05 ∷ 0x00 ∷ [])

-- "pack 0 2 none", "sync 17 -1 0 1", "number 23 5 0 -1", each with a newline
unfoldable pub text : List ℕ
text =
    (112 ∷ 97 ∷ 99 ∷ 107 ∷ 32 ∷ 48 ∷ 32 ∷ 50 ∷ 32 ∷ 110 ∷ 111 ∷ 110 ∷ 101 ∷ 10 ∷ [])
    ++ ((115 ∷ 121 ∷ 110 ∷ 99 ∷ 32 ∷ 49 ∷ 55 ∷ 32 ∷ 45 ∷ 49 ∷ 32 ∷ 48 ∷ 32 ∷ 49 ∷ 10 ∷ [])
    ++ (110 ∷ 117 ∷ 109 ∷ 98 ∷ 101 ∷ 114 ∷ 32 ∷ 50 ∷ 51 ∷ 32 ∷ 53 ∷ 32 ∷ 48 ∷ 32 ∷ 45 ∷ 49 ∷ 10 ∷ []))

pub worked : listing example (reading example) ≡ text
unfolding example text key listing reading and_then value_start same length_at opening_at payload_at tag_found tag_at tag_from value_found read_from items_from item_at judged inners_from inner_at name_from some_inside count_of big_at number_from signed signed32 extended sum32 digits size_from decimal integer line named_line payload_lines part_lines
worked = refl
