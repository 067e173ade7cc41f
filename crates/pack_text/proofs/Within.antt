-- The listing of any pack fits 4,096 bytes: 64 lines of at most 63 bytes after a first line of at most 43, or one line of a refusal.
use mathlib.Core.Path.{◌≡◌, refl, ap}
use mathlib.Core.Bool.{Bool, true, false}
use mathlib.Core.Logic.{⊎_elim}
use mathlib.Core.List.{List, [], ◌∷◌}
use Prim.Native.Nat.{ℕ, ◌-◌, ◌*◌, ◌^◌, ◌<◌, ◌≤◌}
use native.Mathlib.Omega.{arith}
use lib.IntN.{ℤ}
use lib.ListN.{length, get_or, drop, length-append, length-take}
use Rattle.runs.specs.Digits.{Bytes}
use Rattle.runs.specs.Over.{Wrote}
use Rattle.runs.specs.Those.{Each}
use Rattle.runs.proofs.Cases.{lt_or_ge}
use Rattle.runs.proofs.Over.{wrote_length}
use Rattle.refusals.specs.Refusals.{number_of}
use Rattle.refusals.specs.Outcomes.{Outcome, fine, refused}
use Rattle.numbers.specs.Big.{signed, signed32, extended}
use Rattle.numbers.proofs.Signs.{extended_exact, extended_lt}
use Rattle.pack.specs.Fixed.{pack_cap}
use Rattle.pack.specs.Config.{places_of}
use Rattle.pack.specs.Items.{Part, count_of}
use Rattle.pack.specs.Reading.{Read, reading}
use Rattle.pack.specs.Slots.{slots}
use Rattle.pack.specs.Made.{made}
use Rattle.pack.proofs.Slots.{slots_count}
use Rattle.pack.specs.Meaning.{stretch}
use Rattle.pack.specs.declared.Name.{Name}
use Rattle.pack.specs.declared.Name.TheVariants.{Label, Number}
use Rattle.pack.specs.declared.Item.{Item}
use Rattle.pack.specs.declared.Item.TheVariants.{Single, Sync, Inner}
use Rattle.pack_layout.proofs.Bounds.{NameFits, ItemLies, PartLies, slots_lie, reading_bounds}
use Rattle.figures.specs.Figures.{decimal, integer}
use Rattle.pack_text.specs.Text.{line, pack_fields, sync_fields, number_fields, label_fields, named_line, part_lines, refused_fields, listing}
use Rattle.pack_text.specs.Items.{item_line, item_lines}
use Rattle.pack_text.proofs.Fields.{line_size}
use Rattle.pack_text.proofs.Shown.{lines_of}
use Rattle.figures.proofs.Figures.{length_decimal, size_most, decimal_short, signed_low, signed_high, length_hex}

decimal_most : (n : ℕ) → length (decimal n) ≤ 20
decimal_most n = omega (arith, length_decimal n, size_most n)

integer_short : (n : ℕ) → n < 2 ^ 32 → length (integer (signed32 n)) ≤ 11
integer_short n h =
    ⊎_elim
    (λ (l : n < 2 ^ 31). omega (arith, ap length (signed_low n l), decimal_short 10 n (omega arith) (omega arith)))
    (λ (l : 2 ^ 31 ≤ n). omega (arith, ap length (signed_high n l h), decimal_short 10 (2 ^ 32 - n) (omega arith) (omega arith)))
    (lt_or_ge n (2 ^ 31))

-- an offset of 16 bits is extended to 32
offset_short : (n : ℕ) → n < 65536 → length (integer (signed n)) ≤ 11
offset_short n h = omega (arith, ap (λ (z : ℤ). length (integer z)) (extended_exact n h), integer_short (extended n) (extended_lt n h))

pack_short : (o count : ℕ) (crc : Bool) → o < 65536 → length (line (pack_fields o count crc)) ≤ 43
pack_short o count true h = omega (arith, line_size (pack_fields o count true) (omega arith), offset_short o h, decimal_most count)
pack_short o count false h = omega (arith, line_size (pack_fields o count false) (omega arith), offset_short o h, decimal_most count)

refused_short : (n place : ℕ) → length (line (refused_fields n place)) ≤ 50
refused_short n place = omega (arith, line_size (refused_fields n place) (omega arith), decimal_most n, decimal_most place)

module _ (s places : List ℕ) (mapped : ℕ) (small : length s ≤ pack_cap) where
  named_short : (n : Name) (start len total : ℕ) → start < 10 ^ 5 → len < 10 ^ 5 → total < 2 ^ 32 → NameFits mapped n → length (named_line s places n start len total) ≤ 63
  unfolding named_line
  named_short (Label i) start len total a b c h =
      let p = get_or places i 0 in
      omega (
        arith,
        line_size (label_fields start (stretch s p 16) len total) (omega arith),
        decimal_short 5 start (omega arith) a,
        decimal_short 5 len (omega arith) b,
        integer_short total c,
        length_hex (stretch s p 16),
        length-take 16 (drop p s),
      )
  named_short (Number t) start len total a b c h =
      omega (
        arith,
        line_size (number_fields start t len total) (omega arith),
        decimal_short 5 start (omega arith) a,
        decimal_short 5 len (omega arith) b,
        integer_short total c,
        decimal_short 9 t (omega arith) (omega arith),
      )

  item_short : (y : Item) → ItemLies s mapped y → length (item_line s places y) ≤ 63
  item_short (Single x) h = named_short x.name x.start x.value_len x.total (omega arith) (omega arith) h.total h.named
  item_short (Inner x) h = named_short x.name x.start x.value_len x.total (omega arith) (omega arith) h.total h.named
  item_short (Sync y) h =
      omega (
        arith,
        line_size (sync_fields y) (omega arith),
        decimal_short 5 y.start (omega arith) (omega arith),
        offset_short y.offset h.1.offset,
        decimal_short 5 y.duration (omega arith) (omega arith),
        decimal_most y.inside,
      )

  items_short : (ws : List Item) → Each (λ (w : Item). ItemLies s mapped w) ws → length (item_lines s places ws) ≤ 63 * length ws
  unfolding made
  items_short [] h = omega arith
  items_short (w ∷ ws) h =
      omega (arith, length-append (item_line s places w) (item_lines s places ws), item_short w h.0, items_short ws h.1)

  parts_short : (ps : List Part) → Each (PartLies s mapped) ps → length (part_lines s places ps) ≤ 63 * count_of ps
  parts_short ps h = omega (arith, items_short (slots ps) (slots_lie s mapped ps h), ap length (lines_of s places ps), slots_count ps)

pub outcome_fits : (s : List ℕ) → Bytes s → (o : Outcome Read) → reading s ≡ o → length (listing s o) ≤ 4096
unfolding listing
outcome_fits s b (fine r) e =
    let a = reading_bounds s b r e in
    let places = places_of r.mappings in
    let first = line (pack_fields r.offset (count_of r.body.parts) r.body.crc) in
    let rest = part_lines s places r.body.parts in
    omega (arith, length-append first rest, pack_short r.offset (count_of r.body.parts) r.body.crc a.offset, parts_short s places (length r.mappings) a.small r.body.parts a.parts, a.count)
outcome_fits s b (refused why place) e = omega (arith, refused_short (number_of why) place)

-- the listing of any bytes fits
pub listing_fits : (s : List ℕ) → Bytes s → length (listing s (reading s)) ≤ 4096
listing_fits s b = outcome_fits s b (reading s) refl

-- so what is written ends within a buffer of so many bytes
pub wrote_within : (s : List ℕ) → Bytes s → {out us : List ℕ} {n : ℕ} → 4096 ≤ length out → Wrote out 0 (listing s (reading s)) n us
    → Wrote out 0 (listing s (reading s)) n us × (n ≤ length us)
wrote_within s b {out} h p =
    let fits = listing_fits s b in
    (p, omega (arith, p.next, wrote_length (omega arith) p))
