-- Document 01's example of a listing as rows, computed: the key, then 08 02 06 FF FF 00 00 05 00. It has a Sync with sample_offset -1 and in it
-- the number 5 with an empty value.
use mathlib.Core.Path.{◌≡◌, refl}
use mathlib.Core.List.{List, [], ◌∷◌, ◌++◌}
use Prim.Native.Nat.{ℕ}
use Rattle.runs.specs.Digits.{number_from}
use Rattle.runs.specs.Same.{same}
use Rattle.refusals.specs.Outcomes.{fine, and_then}
use Rattle.numbers.specs.Big.{big_at, extended, sum32}
use Rattle.numbers.specs.Tags.{tag_at, tag_from}
use Rattle.numbers.specs.Lengths.{length_at}
use Rattle.pack.specs.Fixed.{key}
use Rattle.pack.specs.Payloads.{value_found, tag_found, payload_at, inner_at, name_from, inners_from}
use Rattle.pack.specs.Items.{judged, item_at, some_inside, items_from, count_of}
use Rattle.pack.specs.Reading.{value_start, opening_at, read_from, reading}
use Rattle.pack.specs.Slots.{slots}
use Rattle.pack.specs.Made.{made}
use Rattle.pack_rows.specs.Rows.{pack_row, payload_row, sync_row, item_row, rows_of, rows_read}

unfoldable pub example : List ℕ
example = key ++ (0x08 ∷ 0x02 ∷ 0x06 ∷ 0xFF ∷ 0xFF ∷ 0x00 ∷ 0x00 ∷ 0x05 ∷ 0x00 ∷ [])

unfoldable pub table : List ℕ
table =
    (0 ∷ 0 ∷ 2 ∷ 0 ∷ 0 ∷ 0 ∷ 0 ∷ 0 ∷ [])
    ++ ((1 ∷ 17 ∷ 2 ∷ 1 ∷ 19 ∷ 6 ∷ 0xFFFFFFFF ∷ 0 ∷ [])
    ++ (2 ∷ 23 ∷ 0 ∷ 5 ∷ 25 ∷ 0 ∷ 0xFFFFFFFF ∷ 0 ∷ []))

pub worked : rows_read example ≡ fine table
unfolding example table key reading and_then value_start same length_at opening_at payload_at tag_found tag_at tag_from value_found read_from items_from item_at judged inners_from inner_at name_from some_inside count_of big_at number_from slots extended sum32 pack_row payload_row sync_row item_row made rows_of
worked = refl
