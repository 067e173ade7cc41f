-- What Ballastwren promises. Each theorem is stated here once, with a sentence of plain English above it; the work is in the crates that it
-- cites. A pack, a sheet, a value and a lent buffer are lists of bytes; `Bytes s` says that each element of s is below 256. The definitions that
-- the statements use stand in the specs/ folders, and the contract of each function says that it computes them.
use mathlib.Core.Path.{◌≡◌, sym, ap, subst, ◌∙◌}
use mathlib.Core.Bool.{Bool, true, false, cond, ◌||◌}
use mathlib.Core.List.{List, [], ◌∷◌, ◌++◌, map, Memᴰ, Nodup}
use mathlib.Core.Logic.{◌⊎◌, ◌↔◌}
use Prim.Native.Nat.{ℕ, ◌+◌, ◌-◌, ◌*◌, ◌<◌, ◌≤◌, ◌^◌}
use lib.IntN.{pos, ◌-ℤ◌}
use lib.ListN.{length, take, drop, replicate}
use Rattle.runs.specs.Digits.{Bytes, digits}
use Rattle.runs.specs.Over.{over, Wrote}
use Rattle.runs.specs.Same.{among, listed}
use Rattle.refusals.specs.Outcomes.{Outcome, fine, refused, answered, Answer}
use Rattle.refusals.specs.Refusals.{number_of}
use Rattle.refusals.specs.declared.Refusal.{Refusal}
use Rattle.refusals.specs.declared.Refusal.TheVariants as R
use Rattle.refusals.proofs.Numbers as refusals
use Rattle.numbers.specs.Reads.{read}
use Rattle.numbers.specs.Tags.{tag_at, tag_bytes}
use Rattle.numbers.specs.Lengths.{longest, reach, length_at, form_bytes, length_bytes}
use Rattle.numbers.proofs.Tags as tags
use Rattle.numbers.proofs.Lengths as lengths
use Rattle.bits.specs.Bits.{bits, field_at}
use Rattle.bits.proofs.Bits as bit_laws
use Rattle.bits.proofs.Fields as fields
use Rattle.crc.specs.Crc.{crc_of}
use Rattle.crc.proofs.Serial as serial
use Rattle.pack.specs.Fixed.{pack_cap}
use Rattle.pack.specs.Said.{SaidName, label, number, SaidItem, Said, names}
use Rattle.pack.specs.Payloads.{Ground, inners_from}
use Rattle.pack.specs.Items.{items_from}
use Rattle.pack.specs.Config.{mappings_from}
use Rattle.pack.specs.Reading.{Read, reading, checked}
use Rattle.pack.specs.Meaning.{meant}
use Rattle.pack.specs.Totals.{totals, carried_totals}
use Rattle.pack.proofs.Fuel as fuel
use Rattle.pack_text.specs.Text.{listing}
use Rattle.pack_text.proofs.One as listings
use Rattle.pack_layout.specs.Layout.{Entry, no_config, entries_laid, Description, layout}
use Rattle.pack_layout.specs.Well.{WellFormed}
use Rattle.pack_layout.specs.Agrees.{Sound, Complete}
use Rattle.pack_layout.specs.Refused.{Refused}
use Rattle.pack_layout.proofs.Complete as complete
use Rattle.pack_layout.proofs.Sound as sound
use Rattle.pack_layout.proofs.Refusals as refused_packs
use Rattle.pack_layout.proofs.Totals as sums
use Rattle.runs.specs.Those.{those, Each}
use Rattle.runs.proofs.Those.{those_pass}
use Rattle.runs.proofs.Cases.{one}
use Rattle.numbers.specs.Big.{big_at}
use Rattle.scrub_kept.specs.Sheet.{Sheet, everything, these, all_sheet, sheet_of, sheet_checked}
use Rattle.scrub_kept.specs.Kept.{kept_items, kept}
use Rattle.scrub_kept.specs.Placed.{Placed, grouped, placed, on_sheet, HasPayload, named_by}
use Rattle.scrub_kept.specs.Written.{numbers_in, labels_in, described, written}
use Rattle.scrub_kept.specs.Scrubbed.{scrubbed, leaves, ReadsAs}
use Rattle.scrub_kept.proofs.Labels as labels
use Rattle.scrub_kept.proofs.Mappings as mappings
use Rattle.scrub_kept.proofs.Described.{described_entries, described_bare}
use Rattle.scrub_kept.proofs.Keeping as keeping
use Rattle.scrub_kept.proofs.Sheets as sheets
use Rattle.scrub_kept.proofs.Scrubbing as scrubbing
use Rattle.scrub_kept.proofs.ReadBack as back
use Rattle.lookup.specs.Lookup.{Looked, looked_up, part_of}
use Rattle.lookup.specs.Named.{Without, Says}
use Rattle.pmd.specs.Reading as pmd
use Rattle.pmd.specs.Writing.{fields_written}
use Rattle.pmd.specs.Gain.{level_of}
use Rattle.pmd.proofs.RoundTrips as trips
use Rattle.pmd.proofs.Levels as levels
use Rattle.ballastwren.specs.Told.{told_of, told_found_of, told_gain_of, BwRead, BwScrub, BwPmdRead, BwPmdWrite}
use Rattle.ballastwren.specs.Looked.{FirstTold, TotalTold, PartTold, absent_told}
use Rattle.objects.specs.declared.Object.{Object}
use Rattle.objects.specs.Table.{judged}
use Rattle.objects_pmd.specs.Values.{good}
use Rattle.ballastwren.specs.Objects.{BwApply, BwClear, AodSet, XyzMoved, Cleared, Overfull}
use Rattle.ballastwren.specs.Version.{version}
use Rattle.ballastwren.specs.declared.Told.{Told}
use Rattle.ballastwren.specs.declared.ToldFound.{ToldFound}
use Rattle.ballastwren.specs.declared.ToldGain.{ToldGain}
use Rattle.promises.specs.Starts.{AllStand}
use Rattle.promises.proofs.Starts as starts
use Rattle.ballastwren.proofs.Checks as checks
use Rattle.ballastwren.proofs.SheetChecks as sheet_checks
use Rattle.ballastwren.proofs.Lookups as lookups
use Rattle.ballastwren.proofs.Tables as objects
use Rattle.ballastwren.proofs.Edge as edge
use Rattle.ballastwren.proofs.Most as most
use Rattle.ballastwren.proofs.One as exports

-- an outcome whose result is a list, as C is told it
abbrev told : Outcome (List ℕ) → Told
told o = told_of (answered length o)

-- NUMBERS

-- A tag that was written is read where it stands, whatever follows.
pub tag_back : (s : List ℕ) (at t : ℕ) (r : List ℕ) → drop at s ≡ tag_bytes t ++ r → 0 < t → t < 128 ^ 4 → tag_at s at ≡ read t (at + length (tag_bytes t))
tag_back = tags.tag_back

-- Every tag that is accepted is the one written form of its number.
pub tag_canonical : (s : List ℕ) (at t n : ℕ) → Bytes s → tag_at s at ≡ read t n → (drop at s ≡ tag_bytes t ++ drop n s) × (n ≡ at + length (tag_bytes t))
tag_canonical = tags.tag_canonical

-- A length in any accepted form is read where it stands, whatever follows.
pub length_back : (s : List ℕ) (at k n : ℕ) (r : List ℕ) → drop at s ≡ form_bytes k n ++ r → k ≤ longest → n < reach k
    → length_at s at ≡ read n (at + length (form_bytes k n))
length_back = lengths.form_back

-- No accepted form of a length is shorter than the one that is written.
pub shortest_least : (n k : ℕ) → n < reach k → length (length_bytes n) ≤ length (form_bytes k n)
shortest_least = lengths.shortest_least

-- Bits of equally many bytes tell the bytes.
pub bits_one : (s t : List ℕ) → length s ≡ length t → Bytes s → Bytes t → bits s ≡ bits t → s ≡ t
bits_one = bit_laws.bits_one

-- A field of w bits that stands after `at` bits is fetched as its number.
pub field_back : (s p q : List ℕ) (at w v : ℕ) → bits s ≡ p ++ (digits 2 w v ++ q) → length p ≡ at → v < 2 ^ w → field_at s at w ≡ v
field_back = fields.field_of

-- The CRC of bytes followed by their CRC is 0.
pub crc_residue : (s : List ℕ) → crc_of (s ++ digits 256 4 (crc_of s)) ≡ 0
crc_residue = serial.crc_residue

-- READING A PACK

-- Every accepted pack is the layout of a well-formed description (offset, mappings, items, a form for each length, a CRC or none), and its reading
-- means what the description says.
pub reading_sound : (s : List ℕ) → Bytes s → (r : Read) → reading s ≡ fine r → Sound s r
reading_sound = sound.reading_sound

-- The layout of every well-formed description is accepted, and its reading means what the description says.
pub reading_complete : (d : Description) → WellFormed d → Complete d
reading_complete = complete.reading_complete

-- Reading goes through the items of a pack, the payloads inside a Sync and the mappings of a Config by steps, of which it has one for each byte there is.
-- Those are enough: with any more, each comes to the same.
pub fuel_enough : (s : List ℕ) (grounds : Ground) (more at v l used : ℕ)
    → (length s ≤ more → items_from more s grounds at used ≡ items_from (length s) s grounds at used)
    × (l ≤ more → inners_from more (take (l - 4) (drop (v + 4) s)) grounds (v + 4) 0 used ≡ inners_from l (take (l - 4) (drop (v + 4) s)) grounds (v + 4) 0 used)
    × (l ≤ more → mappings_from more (take (v + l) s) at [] (v + 2) ≡ mappings_from l (take (v + l) s) at [] (v + 2))
fuel_enough = fuel.fuel_enough

-- Every payload of an accepted pack, those inside Syncs too, stands where its reading says that it starts: its tag, a form of its length, and its value,
-- which is the very stretch that the reading speaks of; so does every Sync with its two numbers, and every label of a mapping.
pub payloads_stand : (s : List ℕ) → Bytes s → (r : Read) → reading s ≡ fine r → AllStand s r
payloads_stand = starts.all_stand

-- Each payload of an accepted pack carries its total offset, exactly: as signed numbers the pack's offset plus that of the Sync that it stands in, and
-- outside a Sync the pack's alone. `bw_read` tells it as number 6 of the payload's row, the listing as the last field of its line.
pub totals_exact : (s : List ℕ) → Bytes s → (r : Read) → reading s ≡ fine r → carried_totals s r ≡ totals (meant s r)
totals_exact = sums.totals_exact

-- A pack is refused, for a reason and at a place, exactly when it is wrong there in that way, in the words of the layout: what stands before is laid out
-- well, and what stands there is no element, item, Config or payload of a Sync, as `Refused` says it of each reason.
pub refused_exactly : (s : List ℕ) → Bytes s → (why : Refusal) (place : ℕ)
    → (reading s ≡ refused why place → Refused s why place) × (Refused s why place → reading s ≡ refused why place)
refused_exactly = refused_packs.refused_exactly

-- Two texts of a listing coincide, with all that follows them in the buffer.
pub list_one : (pack out : List ℕ) {a b : ℕ} {us vs : List ℕ} → Wrote out 0 (listing pack (reading pack)) a us → Wrote out 0 (listing pack (reading pack)) b vs
    → (a ≡ b) × (us ≡ vs)
list_one = listings.list_one

-- SCRUBBING A PACK
-- `BwScrub sheet s before a after` is the contract of `bw_scrub`: handed these bytes of a sheet and this pack, and lent a buffer that held `before`, it
-- tells C the two numbers a and leaves `after` in the buffer. A pack was written exactly where the first number is 0, and then the second is its length.

module _ (sheet s : List ℕ) (sh : Sheet) (r : Read) (named : sheet_of sheet ≡ fine sh) (accepted : reading s ≡ fine r) where
  -- Two accepted packs of the same pack offset and the same kept items, in order and in Syncs of the same two numbers, scrubbed by one sheet into
  -- buffers of equal length, are answered the same; and where a pack is written the whole buffers are equal, whatever they held before.
  pub same_kept_same_buffer : (t : List ℕ) (q : Read) {before other us vs : List ℕ} {a b : Told} → reading t ≡ fine q
      → (meant s r).offset ≡ (meant t q).offset → kept_items sh (meant s r).items ≡ kept_items sh (meant t q).items
      → length before ≡ length other → BwScrub sheet s before a us → BwScrub sheet t other b vs
      → (a ≡ b) × (a.number ≡ 0 → us ≡ vs)
  same_kept_same_buffer t q {before} {other} also offsets items lengths x y =
      let same = scrubbing.scrub_same sheet s t sh r q (length before) named accepted also offsets items ∙ ap (scrubbed sheet t) lengths in
      let cleared = scrubbing.done_same before other (scrubbed sheet s (length before)) lengths in
      (x.told ∙ ap told same ∙ sym y.told, λ done. x.run ∙ cleared _ (edge.answer_done x done) ∙ ap (leaves other) same ∙ sym y.run)

  -- Two accepted packs of the same pack offset that have, item by item, the same payloads that the sheet names are answered the same and leave the same
  -- in one buffer: however their other payloads, tag tables and length forms differ, nothing of that is seen.
  pub no_trace : (t : List ℕ) (q : Read) {before us vs : List ℕ} {a b : Told} → reading t ≡ fine q
      → (meant s r).offset ≡ (meant t q).offset → named_by sh (meant s r).items ≡ named_by sh (meant t q).items
      → BwScrub sheet s before a us → BwScrub sheet t before b vs → (a ≡ b) × (us ≡ vs)
  no_trace t q {before} also offsets items x y =
      let tell = keeping.named_tell sh (meant s r).items (meant t q).items items in
      let same = scrubbing.scrub_same sheet s t sh r q (length before) named accepted also offsets tell in
      (x.told ∙ ap told same ∙ sym y.told, x.run ∙ ap (leaves before) same ∙ sym y.run)

  -- Reading the pack that was written gives exactly the pack offset and the kept items of the pack that was scrubbed, and a good CRC.
  pub read_back : {before after : List ℕ} {a : Told} → Bytes s → BwScrub sheet s before a after → a.number ≡ 0
      → ReadsAs (take a.value after) (kept sh (meant s r))
  read_back {before} {after} {a} bytes x done =
      subst (λ (b : List ℕ). ReadsAs (take a.value b) (kept sh (meant s r))) (sym x.run)
      (back.scrub_reads s r sh bytes accepted sheet _ (length before) named (scrubbing.done_front before _ a.value (edge.answer_done x done)))

  -- Every payload of the pack that was written is named by the sheet; and the payloads that the sheet names of the pack that was scrubbed are all there,
  -- unaltered, in their order, each with the two numbers of its Sync.
  pub written_only_whole : {before after : List ℕ} {a : Told} (bytes : Bytes s) (x : BwScrub sheet s before a after) (done : a.number ≡ 0)
      → let out = (meant (take a.value after) (read_back bytes x done).read).items in
      Each (λ (p : Placed). on_sheet sh p ≡ true) (placed out) × (placed out ≡ those (on_sheet sh) (placed (meant s r).items))
  unfolding kept
  written_only_whole bytes x done =
      let is = ap (λ (k : Said). placed k.items) (read_back bytes x done).says ∙ keeping.kept_placed sh (meant s r).items in
      (subst (Each (λ (p : Placed). on_sheet sh p ≡ true)) (sym is) (those_pass (on_sheet sh) (placed (meant s r).items)), is)

  -- Scrubbing the pack that was written again, by the same sheet and into a buffer of the same length, gives the same answer and the same buffer.
  pub scrub_again : {before other after again : List ℕ} {a b : Told} → Bytes s → BwScrub sheet s before a after → a.number ≡ 0
      → length before ≡ length other → BwScrub sheet (take a.value after) other b again → (a ≡ b) × (after ≡ again)
  unfolding kept
  scrub_again {before} {other} {after} {again} {a} bytes x done lengths y =
      let w = read_back bytes x done in
      let items = sym (ap (λ (k : Said). kept_items sh k.items) w.says ∙ keeping.kept_again sh (meant s r).items) in
      let same = same_kept_same_buffer (take a.value after) w.read w.accepted (sym (ap (λ (k : Said). k.offset) w.says)) items lengths x y in
      (same.0, same.1 done)

  -- The pack is written, and its length told, where buffer and cap hold it; NOROOM, number 15 and place 0, is told exactly where one of them does not.
  pub room_exactly : {before after : List ℕ} {a : Told} → BwScrub sheet s before a after
      → (length (written (kept sh (meant s r))) ≤ length before → length (written (kept sh (meant s r))) ≤ pack_cap
      → a ≡ record { number = 0; value = length (written (kept sh (meant s r))) })
      × ((length before < length (written (kept sh (meant s r)))) ⊎ (pack_cap < length (written (kept sh (meant s r)))) → a ≡ record { number = 15; value = 0 })
  unfolding answered
  room_exactly {before} x =
      let w = written (kept sh (meant s r)) in
      let e = scrubbing.scrub_is sheet s sh r (length before) named accepted in
      (λ h g. x.told ∙ ap told (e ∙ scrubbing.room_enough (length before) w h g), λ h. x.told ∙ ap told (e ∙ scrubbing.room_short (length before) w h))

module _ (s : List ℕ) (r : Read) (bytes : Bytes s) (accepted : reading s ≡ fine r) where
  -- A sheet of 0 bytes keeps nothing: the pack that is written says the pack offset of the pack that was scrubbed, and no item.
  pub empty_keeps_none : {before after : List ℕ} {a : Told} → BwScrub [] s before a after → a.number ≡ 0
      → ReadsAs (take a.value after) (record { offset = (meant s r).offset; items = [] })
  empty_keeps_none {before} {after} {a} x done =
      subst (ReadsAs (take a.value after)) (sheets.kept_none (meant s r)) (read_back [] s (these [] []) r sheets.empty_none accepted bytes x done)

  -- The sheet of the 8 bytes FF FF 00 08 FF FF 00 08 keeps all: the pack that is written says what the pack that was scrubbed says.
  pub all_keeps_all : {before after : List ℕ} {a : Told} → BwScrub all_sheet s before a after → a.number ≡ 0 → ReadsAs (take a.value after) (meant s r)
  all_keeps_all {before} {after} {a} x done =
      subst (ReadsAs (take a.value after)) (sheets.kept_all s r bytes accepted) (read_back all_sheet s everything r sheets.all_is accepted bytes x done)

-- No other sheet keeps all.
pub all_exactly : (sheet : List ℕ) → Bytes sheet → (sheet_of sheet ≡ fine everything → sheet ≡ all_sheet) × (sheet ≡ all_sheet → sheet_of sheet ≡ fine everything)
all_exactly = sheets.all_exactly

-- 65,535 in one count or in both of any other sheet, whatever its length, is SHEET, number 14 and place 0: it never counts entries.
pub all_or_refused : (sheet s : List ℕ) {before after : List ℕ} {a : Told} → Bytes sheet → (big_at sheet 0 2 ≡ 65535) ⊎ (big_at sheet 4 2 ≡ 65535)
    → (sheet ≡ all_sheet → ⊥) → BwScrub sheet s before a after → a ≡ record { number = 14; value = 0 }
unfolding answered
all_or_refused sheet s {before} bytes counts other x =
    x.told ∙ ap told (scrubbing.sheet_refused sheet s (length before) R.Sheet 0 (sheets.all_or_refused sheet bytes counts other))

-- A malformed sheet is refused first, as SHEET with place 0, whatever the pack and the buffer; then the pack is, as reading refuses it.
pub refused_in_order : (sheet s : List ℕ) (room : ℕ) (why : Refusal) (place : ℕ)
    → (sheet_of sheet ≡ refused why place → scrubbed sheet s room ≡ refused R.Sheet 0)
    × ((sh : Sheet) → sheet_of sheet ≡ fine sh → reading s ≡ refused why place → scrubbed sheet s room ≡ refused why place)
refused_in_order sheet s room why place =
    (scrubbing.sheet_refused sheet s room why place, λ sh. scrubbing.pack_refused sheet s room sh why place)

-- Nothing is kept that the sheet does not name.
pub kept_only : (sh : Sheet) (xs : List SaidItem) → Each (λ (p : Placed). on_sheet sh p ≡ true) (placed (kept_items sh xs))
kept_only sh xs = rw keeping.kept_placed (those_pass (on_sheet sh) (placed xs))

-- All that the sheet names is kept: unaltered, in its order, each payload with the two numbers of its Sync.
pub kept_whole : (sh : Sheet) (xs : List SaidItem) → placed (kept_items sh xs) ≡ those (on_sheet sh) (placed xs)
kept_whole = keeping.kept_placed

-- And it stays in the item that it stood in: nothing is moved into another Sync or out of one, and no Sync is kept without a payload.
pub kept_in_place : (sh : Sheet) (xs : List SaidItem) → (grouped (kept_items sh xs) ≡ named_by sh xs) × Each HasPayload (kept_items sh xs)
kept_in_place sh xs = (keeping.kept_grouped sh xs, keeping.kept_hold sh xs)

module _ (k : Said) where
  -- No label is mapped but that of a kept payload.
  pub mapped_only : Each (λ (m : Entry). Memᴰ (label m.stands) (names k.items)) (entries_laid (described k).first)
  mapped_only = rw described_entries (mappings.entries_only (names k.items))

  -- Labels are mapped as `labels_in` lists them, in order of first appearance.
  pub mapped_in_order : map (λ (m : Entry). m.stands) (entries_laid (described k).first) ≡ labels_in [] (names k.items)
  mapped_in_order = rw described_entries (mappings.entries_order (names k.items))

  -- The tag that a label is mapped to is the smallest number from 64 up that is neither a kept payload's number name nor the tag of an earlier mapping.
  pub free_least : (before : List Entry) (m : Entry) (after : List Entry) → entries_laid (described k).first ≡ before ++ (m ∷ after)
      → let taken : ℕ → Bool = λ n. among n (numbers_in (names k.items)) || among n (map (λ (e : Entry). e.tag) before) in
      (64 ≤ m.tag) × (taken m.tag ≡ false) × ((n : ℕ) → 64 ≤ n → n < m.tag → taken n ≡ true)
  free_least before m after e = mappings.entries_least (names k.items) before m after (sym (described_entries k) ∙ e)

  -- With at most 64 kept payloads, and of an accepted pack no more are kept, every label gets a tag from 64 to 127 that is no payload's number name,
  -- and no tag is given twice.
  pub new_tags : length (names k.items) ≤ 64
      → Each (λ (m : Entry). (64 ≤ m.tag) × (m.tag ≤ 127) × (among m.tag (numbers_in (names k.items)) ≡ false)) (entries_laid (described k).first)
      × Nodup (map (λ (m : Entry). m.tag) (entries_laid (described k).first))
  new_tags few = rw described_entries (mappings.entries_new (names k.items) few, mappings.entries_once (names k.items))

  -- Config is written only if the pack offset isn't 0 or a kept payload has a label.
  pub config_needed : k.offset ≡ 0 → labels_in [] (names k.items) ≡ [] → (described k).first ≡ no_config
  config_needed none unlabelled = described_bare k none (mappings.entries_none (names k.items) unlabelled)

-- That order: a further name brings its label to the end, unless the label is there or the name is a number.
pub first_appearance : (ns : List SaidName) (l : List ℕ) (t : ℕ)
    → (labels_in [] (ns ++ (label l ∷ [])) ≡ cond (listed l (labels_in [] ns)) (labels_in [] ns) (labels_in [] ns ++ (l ∷ [])))
    × (labels_in [] (ns ++ (number t ∷ [])) ≡ labels_in [] ns)
first_appearance ns l t = (labels.label_last ns l, labels.number_last ns t)

-- After a pack of so many bytes as C is told the buffer holds 0 to its end.
pub rest_cleared : (sheet s : List ℕ) {before after : List ℕ} {a : Told} → BwScrub sheet s before a after
    → a.number ≡ 0 → drop a.value after ≡ replicate (length before - a.value) 0
rest_cleared sheet s {before} {after} {a} x done =
    ap (drop a.value) x.run ∙ scrubbing.done_rest before (scrubbed sheet s (length before)) a.value (edge.answer_done x done)

-- LOOKING UP A LABEL
-- `bw_lookup`, handed two packs and a label l, tells C the five numbers `told_found_of (looked_up main backup l)`. `value` of crates/lookup, handed the same,
-- returns the part `part_of main backup (looked_up main backup l)` of one of the packs, both of which the caller lends it for one lifetime. A value was found
-- exactly where the first number is 0.

module _ (main backup l : List ℕ) {a : ToldFound} (x : a ≡ told_found_of (looked_up main backup l)) where
  -- Two answers on the same packs and label coincide, and so do two parts.
  pub lookup_one : {b : ToldFound} {u v : List ℕ} → b ≡ told_found_of (looked_up main backup l)
      → u ≡ part_of main backup (looked_up main backup l) → v ≡ part_of main backup (looked_up main backup l) → (a ≡ b) × (u ≡ v)
  lookup_one {b} y p q = (exports.bw_lookup_one main backup l a b x y, one p q)

  -- A stretch that is told is the value of the first payload of the label in main, in byte order and inside Syncs too; or in backup, where no payload of
  -- main has the label. Both packs are accepted.
  pub lookup_first : Bytes main → Bytes backup → a.number ≡ 0 → FirstTold main backup l a
  lookup_first m b = lookups.lookup_first main backup l m b x

  -- The total offset that is told is that of the same payload: as signed numbers, its pack's offset plus that of the Sync that it stands in, and outside a
  -- Sync its pack's alone.
  pub lookup_total : Bytes main → Bytes backup → a.number ≡ 0 → TotalTold main backup l a
  lookup_total m b = lookups.lookup_total main backup l m b x

  -- The part that is returned is the very stretch that is told, and lies in the pack that is told. Where none is told, the start is 0 and no byte is
  -- returned.
  pub lookup_stretch : {v : List ℕ} → Bytes main → Bytes backup → v ≡ part_of main backup (looked_up main backup l)
      → (a.number ≡ 0 → PartTold main backup v a) × ((a.number ≡ 0 → ⊥) → (a.start ≡ 0) × (v ≡ []))
  lookup_stretch m b = lookups.lookup_stretch main backup l m b x

  -- Both packs are checked first, main before backup, also where main has the label: what `bw_check` tells of a main that it refuses is told with the mark
  -- 1, else what it tells of a backup that it refuses with the mark 2. Where it accepts both, a value is found, or ABSENT is told: number 20, place 0,
  -- neither pack, no stretch, no total offset.
  pub lookup_refused : {c d : Told} → c ≡ told_of (checked main) → d ≡ told_of (checked backup)
      → ((c.number ≡ 0 → ⊥) → a ≡ record { number = c.number; value = c.value; from = 1; start = 0; total = pos 0 })
      × (c.number ≡ 0 → (d.number ≡ 0 → ⊥) → a ≡ record { number = d.number; value = d.value; from = 2; start = 0; total = pos 0 })
      × (c.number ≡ 0 → d.number ≡ 0 → (a.number ≡ 0) ⊎ (a ≡ absent_told))
  lookup_refused = lookups.lookup_refused main backup l x

  -- ABSENT is told exactly where both packs are accepted and no payload of either has the label; one that is mapped and that no payload has is absent.
  pub absent_exactly : Bytes main → Bytes backup
      → (a ≡ absent_told → Says main (Without l) × Says backup (Without l)) × (Says main (Without l) → Says backup (Without l) → a ≡ absent_told)
  absent_exactly m b = lookups.absent_exactly main backup l m b x

  -- A label that is not of 16 bytes is ABSENT in any two packs that are accepted.
  pub label_of_sixteen : {c d : Told} → c ≡ told_of (checked main) → d ≡ told_of (checked backup) → (length l ≡ 16 → ⊥) → c.number ≡ 0 → d.number ≡ 0
      → a ≡ absent_told
  label_of_sixteen = lookups.label_of_sixteen main backup l x

-- PMD VALUES

-- Writing the fields that were read from an accepted value gives that value back, for every kind.
pub read_then_write : (kind : ℕ) (s xs : List ℕ) → Bytes s → pmd.fields_read kind s ≡ fine xs → fields_written kind xs ≡ fine s
read_then_write = trips.read_then_write

-- Reading the value that a list of fields was written as gives that list back, for every kind.
pub write_then_read : (kind : ℕ) (s xs : List ℕ) → fields_written kind xs ≡ fine s → pmd.fields_read kind s ≡ fine xs
write_then_read = trips.write_then_read

-- So it is in C, whenever both lent runs have room: what `bw_pmd_read` read from a value, handed to `bw_pmd_write`, is written as that value, and what
-- follows it in the buffer stays.
pub bw_read_then_write : (kind : ℕ) (value : List ℕ) {before numbers out end : List ℕ} {a b : Told} → Bytes value
    → BwPmdRead kind value before a numbers → a.number ≡ 0 → BwPmdWrite kind (take a.value numbers) out b end → length value ≤ length out
    → (b ≡ record { number = 0; value = length value }) × (end ≡ over out 0 value)
bw_read_then_write kind value bytes = edge.there_and_back (fields_written kind) value (λ xs e. trips.read_then_write kind value xs bytes e)

-- And what `bw_pmd_write` wrote of a list of numbers, handed to `bw_pmd_read`, is read as that list.
pub bw_write_then_read : (kind : ℕ) (numbers : List ℕ) {before value run end : List ℕ} {a b : Told}
    → BwPmdWrite kind numbers before a value → a.number ≡ 0 → BwPmdRead kind (take a.value value) run b end → length numbers ≤ length run
    → (b ≡ record { number = 0; value = length numbers }) × (end ≡ over run 0 numbers)
bw_write_then_read kind numbers = edge.there_and_back (pmd.fields_read kind) numbers (λ s e. trips.write_then_read kind s numbers e)

-- Of a value that has fields `bw_pmd_read` tells how many they are where the lent run has room for them, and NOROOM, number 15 and place 0, exactly where it
-- has not.
pub pmd_read_room_exactly : (kind : ℕ) (value xs : List ℕ) → pmd.fields_read kind value ≡ fine xs → {before after : List ℕ} {a : Told} → BwPmdRead kind value before a after
    → (length xs ≤ length before → a ≡ record { number = 0; value = length xs }) × (length before < length xs → a ≡ record { number = 15; value = 0 })
pmd_read_room_exactly kind value xs e = edge.room_told e

-- And so `bw_pmd_write` of a list of numbers that makes a value.
pub pmd_write_room_exactly : (kind : ℕ) (numbers s : List ℕ) → fields_written kind numbers ≡ fine s → {before after : List ℕ} {a : Told} → BwPmdWrite kind numbers before a after
    → (length s ≤ length before → a ≡ record { number = 0; value = length s }) × (length before < length s → a ≡ record { number = 15; value = 0 })
pmd_write_room_exactly kind numbers s e = edge.room_told e

-- A TABLE OF OBJECTS
-- `bw_objects_apply`, lent a table that holds t, tells C the two numbers a and leaves the table holding `after`, as `BwApply kind value t a after` says; and
-- `bw_objects_clear` as `BwClear element t a after` says. A table is taken where `judged good t` is true: it has at most 128 entries, no used one has a field
-- that is reserved or too wide, and no two have the same element. It is refused as TABLE else, before anything is looked at.

module _ {t after : List Object} {a : Told} where
  -- Two calls of one value on the same table tell the same, and leave the same table to its last entry; so do two clearings of one element.
  pub objects_one : (kind : ℕ) (value : List ℕ) (element : ℕ) {b : Told} {others : List Object}
      → (BwApply kind value t a after → BwApply kind value t b others → (a ≡ b) × (after ≡ others))
      × (BwClear element t a after → BwClear element t b others → (a ≡ b) × (after ≡ others))
  objects_one kind value element = (λ x y. objects.objects_one x y, λ x y. objects.objects_one x y)

  -- A table that is taken is taken after any call, whatever the value and its kind and whatever the element.
  pub table_kept : (kind : ℕ) (value : List ℕ) (element : ℕ) → judged good t ≡ true
      → (BwApply kind value t a after → judged good after ≡ true) × (BwClear element t a after → judged good after ≡ true)
  table_kept kind value element h = (λ x. objects.apply_kept kind value x h, λ x. objects.clear_kept element x h)

  -- An AOD that is applied puts its k-th new element, by first appearance, into the k-th free slot, and sets each entry that it names as the last record that
  -- names it has it. Every other entry stays as it is. C is told how many records there are.
  pub aod_sets : (value : List ℕ) → BwApply 3 value t a after → a.number ≡ 0 → AodSet value t a after
  aod_sets = objects.aod_sets

  -- An XYZ that is applied changes x, y and z of each entry that it names, as the last record that names it has them. No other field and no other entry
  -- changes. C is told how many records there are.
  pub xyz_moves : (value : List ℕ) → BwApply 4 value t a after → a.number ≡ 0 → XyzMoved value t a after
  xyz_moves = objects.xyz_moves

  -- A clearing that is done leaves 0 in all fields of the entry of that element, and every other entry as it is. C is told 1.
  pub clear_frees : (element : ℕ) → BwClear element t a after → a.number ≡ 0 → Cleared element t a after
  clear_frees = objects.clear_frees

  -- FULL, number 24, is told exactly where the value is an accepted AOD, the table is taken, and the elements below 4,096 that the value names and the table
  -- has not are more than its free slots: an element that the value names twice counts once.
  pub full_exactly : (kind : ℕ) (value : List ℕ) → BwApply kind value t a after → (a.number ≡ 24) ↔ Overfull kind value t
  full_exactly kind value x = objects.full_exactly kind value x

  -- Where C is told a refusal, by any number but 0, the table holds what it held before, free entries included.
  pub table_unchanged : (kind : ℕ) (value : List ℕ) (element : ℕ) → (a.number ≡ 0 → ⊥)
      → (BwApply kind value t a after → after ≡ t) × (BwClear element t a after → after ≡ t)
  table_unchanged kind value element h = (λ x. objects.refused_keeps x h, λ x. objects.refused_keeps x h)

-- WHAT C CALLS

-- What C is told determines the answer and its place: no two answers are told by the same two numbers.
pub told_apart : (a b : Answer) → told_of a ≡ told_of b → a ≡ b
told_apart = edge.told_apart

-- Nor are two answers of a look-up told by the same four numbers.
pub found_apart : (a b : Looked) → told_found_of a ≡ told_found_of b → a ≡ b
found_apart = lookups.found_apart

-- Where C is told a refusal, by any number but 0, every lent run holds what it held before.
pub read_unchanged : (pack : List ℕ) {before after : List ℕ} {a : Told} → BwRead pack before a after → (a.number ≡ 0 → ⊥) → after ≡ before
read_unchanged pack {before} x = edge.unchanged x (edge.lent_unchanged before)

pub refused_unchanged : (sheet pack : List ℕ) {before after : List ℕ} {a : Told} → BwScrub sheet pack before a after → (a.number ≡ 0 → ⊥) → after ≡ before
refused_unchanged sheet pack {before} x = edge.unchanged x (edge.leaves_unchanged before)

pub pmd_read_unchanged : (kind : ℕ) (value : List ℕ) {before after : List ℕ} {a : Told} → BwPmdRead kind value before a after → (a.number ≡ 0 → ⊥) → after ≡ before
pmd_read_unchanged kind value {before} x = edge.unchanged x (edge.lent_unchanged before)

pub pmd_write_unchanged : (kind : ℕ) (numbers : List ℕ) {before after : List ℕ} {a : Told} → BwPmdWrite kind numbers before a after → (a.number ≡ 0 → ⊥) → after ≡ before
pmd_write_unchanged kind numbers {before} x = edge.unchanged x (edge.lent_unchanged before)

-- `bw_read` never writes more than 520 numbers, which is what the header calls BW_ROWS_MAX.
pub rows_most : (pack : List ℕ) {before after : List ℕ} {a : Told} → Bytes pack → BwRead pack before a after → a.number ≡ 0 → a.value ≤ 520
rows_most = most.rows_most

-- `bw_pmd_read` never writes more than 9,828 numbers, which is what the header calls BW_PMD_NUMBERS_MAX.
pub pmd_numbers_most : (kind : ℕ) (value : List ℕ) {before after : List ℕ} {a : Told} → BwPmdRead kind value before a after → a.number ≡ 0 → a.value ≤ 9828
pmd_numbers_most = most.pmd_numbers_most

-- A refusal of `bw_check` is that of `bw_read`. Where it counts, `bw_read` writes eight numbers for the pack and for each item and inner payload, and
-- tells NOROOM exactly where the run is shorter.
pub check_then_read : (pack : List ℕ) {before after : List ℕ} {a b : Told} → a ≡ told_of (checked pack) → BwRead pack before b after
    → ((a.number ≡ 0 → ⊥) → b ≡ a)
    × (a.number ≡ 0 → 8 * (1 + a.value) ≤ length before → b ≡ record { number = 0; value = 8 * (1 + a.value) })
    × (a.number ≡ 0 → length before < 8 * (1 + a.value) → b ≡ record { number = 15; value = 0 })
check_then_read = checks.check_then_read

-- `bw_check` accepts exactly the packs that can be made: one that it accepts is the layout of a well-formed description, and its reading means what the
-- description says; and the layout of every well-formed description is accepted.
pub accepted_exactly : (pack : List ℕ) → Bytes pack → {a : Told} → a ≡ told_of (checked pack)
    → (a.number ≡ 0 → (r : Read) × (reading pack ≡ fine r) × Sound pack r) × ((d : Description) → WellFormed d → layout d ≡ pack → a.number ≡ 0)
accepted_exactly = checks.accepted_exactly

-- `bw_check` tells a refusal, by its number and at a place, exactly where the pack is wrong there in that way and laid out well before.
pub told_exactly : (pack : List ℕ) → Bytes pack → {a : Told} → a ≡ told_of (checked pack) → (why : Refusal) (place : ℕ)
    → (a ≡ record { number = number_of why; value = place } → Refused pack why place) × (Refused pack why place → a ≡ record { number = number_of why; value = place })
told_exactly = checks.told_exactly

-- A sheet that `bw_sheet_check` refuses, always as SHEET, number 14 and place 0, is refused in the same words by every `bw_scrub`, whatever the pack and the
-- buffer; and no scrub by a sheet that it accepts tells SHEET.
pub sheet_check_then_scrub : (sheet s : List ℕ) {before after : List ℕ} {a b : Told} → Bytes s → a ≡ told_of (sheet_checked sheet) → BwScrub sheet s before b after
    → ((a.number ≡ 0 → ⊥) → (a ≡ record { number = 14; value = 0 }) × (b ≡ a)) × (a.number ≡ 0 → b.number ≡ 14 → ⊥)
sheet_check_then_scrub sheet s bytes x = sheet_checks.sheet_check_then_scrub sheet x s bytes

-- `bw_sheet_check` counts the labels and the tag numbers of a sheet that has entries, none on the sheet that keeps all, and never more than 64.
pub sheet_entries : (sheet : List ℕ) {a : Told} → a ≡ told_of (sheet_checked sheet)
    → ((ls : List (List ℕ)) (ts : List ℕ) → sheet_of sheet ≡ fine (these ls ts) → a ≡ record { number = 0; value = length ls + length ts })
    × (sheet ≡ all_sheet → a ≡ record { number = 0; value = 0 })
    × (a.number ≡ 0 → a.value ≤ 64)
sheet_entries = sheet_checks.sheet_entries

-- `bw_gain` tells a gain muted at 0, else gain minus 51 in half decibels; a gain above 63 is FIELD, number 17.
pub gain_levels : (gain : ℕ) {t : ToldGain} → t ≡ told_gain_of (level_of gain)
    → (gain ≡ 0 → t ≡ record { number = 0; muted = 1; half_db = pos 0 })
    × (0 < gain → gain ≤ 63 → t ≡ record { number = 0; muted = 0; half_db = pos gain -ℤ pos 51 })
    × (63 < gain → t ≡ record { number = 17; muted = 0; half_db = pos 0 })
gain_levels gain x = (
  λ none. x ∙ ap told_gain_of (levels.level_muted gain none),
  λ some few. x ∙ ap told_gain_of (levels.level_half gain some few),
  λ big. x ∙ ap told_gain_of (levels.level_refused gain big),
)

-- Two outcomes of an export on the same input coincide: the numbers that C is told, and every lent run and buffer to its last element.

pub bw_check_one : (pack : List ℕ) (a b : Told) → a ≡ told_of (checked pack) → b ≡ told_of (checked pack) → a ≡ b
bw_check_one = exports.bw_check_one

pub bw_read_one : (pack before us vs : List ℕ) (a b : Told)
    → BwRead pack before a us → BwRead pack before b vs → (a ≡ b) × (us ≡ vs)
bw_read_one = exports.bw_read_one

pub bw_scrub_one : (sheet pack before us vs : List ℕ) (a b : Told)
    → BwScrub sheet pack before a us → BwScrub sheet pack before b vs → (a ≡ b) × (us ≡ vs)
bw_scrub_one = exports.bw_scrub_one

pub bw_sheet_check_one : (sheet : List ℕ) (a b : Told) → a ≡ told_of (sheet_checked sheet) → b ≡ told_of (sheet_checked sheet) → a ≡ b
bw_sheet_check_one = exports.bw_sheet_check_one

pub bw_lookup_one : (main backup l : List ℕ) (a b : ToldFound) → a ≡ told_found_of (looked_up main backup l) → b ≡ told_found_of (looked_up main backup l) → a ≡ b
bw_lookup_one = exports.bw_lookup_one

pub bw_pmd_read_one : (kind : ℕ) (value before us vs : List ℕ) (a b : Told)
    → BwPmdRead kind value before a us → BwPmdRead kind value before b vs
    → (a ≡ b) × (us ≡ vs)
bw_pmd_read_one = exports.bw_pmd_read_one

pub bw_pmd_write_one : (kind : ℕ) (numbers before us vs : List ℕ) (a b : Told)
    → BwPmdWrite kind numbers before a us → BwPmdWrite kind numbers before b vs
    → (a ≡ b) × (us ≡ vs)
bw_pmd_write_one = exports.bw_pmd_write_one

pub bw_gain_one : (gain : ℕ) (a b : ToldGain) → a ≡ told_gain_of (level_of gain) → b ≡ told_gain_of (level_of gain) → a ≡ b
bw_gain_one = exports.bw_gain_one

pub bw_objects_apply_one : (kind : ℕ) (value : List ℕ) (before us vs : List Object) (a b : Told)
    → BwApply kind value before a us → BwApply kind value before b vs → (a ≡ b) × (us ≡ vs)
bw_objects_apply_one = exports.bw_objects_apply_one

pub bw_objects_clear_one : (element : ℕ) (before us vs : List Object) (a b : Told)
    → BwClear element before a us → BwClear element before b vs → (a ≡ b) × (us ≡ vs)
bw_objects_clear_one = exports.bw_objects_clear_one

pub bw_version_one : (a b : ℕ) → a ≡ version → b ≡ version → a ≡ b
bw_version_one = exports.bw_version_one

-- No two refusals have the same number.
pub numbers_apart : (a b : Refusal) → number_of a ≡ number_of b → a ≡ b
numbers_apart = refusals.numbers_apart
