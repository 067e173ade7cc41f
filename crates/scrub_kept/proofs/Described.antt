-- The description of what is kept: it says what is kept, and it is well-formed where that can be said and its pack is small enough.
use mathlib.Core.Path.{◌≡◌, refl, sym, ap, ap₂, subst, ◌∙◌}
use mathlib.Core.List.{List, [], ◌∷◌, ◌++◌, map, Memᴰ}
use mathlib.Core.Bool.{true}
use Prim.Native.Nat.{ℕ, ◌+◌, ◌<◌, ◌≤◌, ◌^◌}
use native.Mathlib.Omega.{arith}
use lib.Dec.{eqb}
use lib.ListN.{length, length-append, length-map}
use borrow.Author.Tests.{eqb-true}
use Rattle.runs.specs.Digits.{digits}
use Rattle.runs.specs.Same.{listed}
use Rattle.runs.proofs.Cases.{split}
use Rattle.runs.proofs.Digits.{length_digits}
use Rattle.numbers.specs.Tags.{tag_bytes}
use Rattle.numbers.specs.Lengths.{form_bytes, shortest}
use Rattle.numbers.proofs.Tags.{tag_short}
use Rattle.numbers.proofs.Lengths.{shortest_most, shortest_reaches, length_form}
use Rattle.pack.specs.Fixed.{pack_cap, mapping_cap}
use Rattle.pack.specs.Said.{SaidName, label, number, SaidPayload, SaidItem, single, sync, Said, names}
use Rattle.pack.proofs.Said.{total}
use Rattle.pack_layout.specs.Layout.{no_config, Entry, crc, elements_bytes, group_bytes, chunks_bytes, entries_bytes, config_bytes, entry_for, said_element, said_chunk, offset_laid, entries_laid, says}
use Rattle.pack_layout.specs.Well.{FormFits, WellElement, WellElements, WellChunks, WellEntries, WellConfig, WellCrc, crc_size, chunks_count, WellFormed}
use Rattle.pack_layout.proofs.Entries.{entry_labels}
use Rattle.runs.specs.Those.{Each}
use Rattle.scrub_kept.specs.Written.{numbers_in, labels_in, assigned, free, entries, tag_for, as_element, as_chunk, as_config, entries_of, config_for, chunks_of, content_of, value_size, described, written}
use Rattle.runs.proofs.Those.{each_map, each_both, each_member, each_append, each_left, each_right}
use Rattle.scrub_kept.proofs.Listed.{among_here, listed_mem}
use Rattle.scrub_kept.proofs.Entries.{assigned_labels, assigned_length, assigned_new, assigned_apart, Reaches, assigned_range, label_tag, number_means, label_means}
use Rattle.scrub_kept.proofs.Free.{free_range}
use Rattle.scrub_kept.proofs.Labels.{Named, names_named, names_few, LabelsApart, labels_apart, labels_only, Known, labels_few}
use Rattle.scrub_kept.proofs.Sayable.{SayableLabel, SayableName, SayablePayload, SayableItem, Sayable}
use Rattle.scrub_kept.proofs.Sizes.{written_length, element_fits}

-- a name that is written with a tag that an audio payload can have
abbrev Tagged : List Entry → SaidName → Type 0
Tagged ms n = (3 < tag_for ms n) × (tag_for ms n < 128 ^ 4)

-- The mappings that are written give each name back.
module _ (ns : List SaidName) where
  mapped : (l : List ℕ) → listed l (labels_in [] ns) ≡ true → listed l (entry_labels (entries ns)) ≡ true
  mapped l h = ap (listed l) (assigned_labels (numbers_in ns) (labels_in [] ns)) ∙ h

  name_means : (n : SaidName) → Named (numbers_in ns) (labels_in [] ns) n → entry_for (entries ns) (tag_for (entries ns) n) ≡ n
  unfolding tag_for
  name_means (number t) h = number_means t (entries ns) (assigned_new t (numbers_in ns) (labels_in [] ns) h)
  name_means (label l) h = label_means l (entries ns) (assigned_apart (numbers_in ns) (labels_in [] ns)) (mapped l h)

  pub names_mean : Each (λ (n : SaidName). entry_for (entries ns) (tag_for (entries ns) n) ≡ n) ns
  names_mean = each_map name_means ns (names_named ns)

abbrev Means : List Entry → SaidName → Type 0
Means ms n = entry_for ms (tag_for ms n) ≡ n

module _ (ms : List Entry) where
  payload_said : (x : SaidPayload) → Means ms x.name → said_element ms (as_element ms x) ≡ x
  payload_said x h = ap (λ (n : SaidName). record { name = n; value = x.value }) h

  payloads_said : (xs : List SaidPayload) → Each (Means ms) (map (λ (x : SaidPayload). x.name) xs) → map (said_element ms) (map (as_element ms) xs) ≡ xs
  payloads_said [] h = refl
  payloads_said (x ∷ xs) h = ap₂ (λ (y : SaidPayload) (r : List SaidPayload). y ∷ r) (payload_said x h.0) (payloads_said xs h.1)

  items_said : (xs : List SaidItem) → Each (Means ms) (names xs) → map (said_chunk ms) (map (as_chunk ms) xs) ≡ xs
  unfolding names
  items_said [] h = refl
  items_said (single x ∷ r) h = ap₂ (λ (y : SaidPayload) (t : List SaidItem). single y ∷ t) (payload_said x h.0) (items_said r h.1)
  items_said (sync o d xs ∷ r) h =
      let ns = map (λ (x : SaidPayload). x.name) xs in
      ap₂ (λ (ys : List SaidPayload) (t : List SaidItem). sync o d ys ∷ t) (payloads_said xs (each_left (Means ms) ns (names r) h))
      (items_said r (each_right (Means ms) ns (names r) h))

-- no Config where the pack offset is 0 and nothing is mapped
pub described_bare : (k : Said) → k.offset ≡ 0 → entries_of k ≡ [] → (described k).first ≡ no_config
unfolding described as_config
described_bare k o e = ap₂ as_config o e

-- the offset and the mappings of Config, if there is one
config_offset : (o : ℕ) (ms : List Entry) → offset_laid (as_config o ms) ≡ o
unfolding as_config
config_offset o [] = split (eqb o 0) (λ e. rw e (sym (eqb-true o 0 e))) (λ e. rw e)
config_offset o (m ∷ ms) = refl

config_entries : (o : ℕ) (ms : List Entry) → entries_laid (as_config o ms) ≡ ms
unfolding as_config
config_entries o [] = split (eqb o 0) (λ e. rw e) (λ e. rw e)
config_entries o (m ∷ ms) = refl

pub described_entries : (k : Said) → entries_laid (described k).first ≡ entries_of k
unfolding described
described_entries k = config_entries k.offset (entries_of k)

-- the description says what is kept
pub described_says : (k : Said) → says (described k) ≡ k
unfolding says described
described_says k =
    let ms = entries_of k in
    ap₂ (λ (o : ℕ) (xs : List SaidItem). record { offset = o; items = xs })
    (config_offset k.offset ms)
    (ap (λ (es : List Entry). map (said_chunk es) (chunks_of k)) (config_entries k.offset ms) ∙ items_said ms k.items (names_mean (names k.items)))

-- The mappings are well-formed.
entries_well : (taken : List ℕ) (ls : List (List ℕ)) → LabelsApart ls → Each SayableLabel ls → length taken + length ls ≤ 64 → WellEntries (assigned taken ls)
unfolding assigned WellEntries
entries_well taken [] a g h = search
entries_well taken (l ∷ ls) a g h =
    let r = free_range taken in
    let seen = free taken ∷ taken in (
      record { above = omega arith; below = omega arith; long = g.0.long; bytes = g.0.bytes; free = g.0.free },
      assigned_new (free taken) seen ls (among_here (free taken) taken),
      ap (listed l) (assigned_labels seen ls) ∙ a.0,
      entries_well seen ls a.1 g.1 (omega arith),
    )

module _ (ls : List (List ℕ)) (ns : List SaidName) (few : length ns ≤ 64) (sayable : Each (SayableName ls) ns) where
  known : (n : SaidName) → SayableName ls n → Known ls n
  known (label l) h = h
  known (number t) h = tt

  names_known : Each (Known ls) ns
  names_known = each_map known ns sayable

  label_in : Each SayableLabel ls → (l : List ℕ) → Memᴰ (label l) ns → SayableLabel l
  label_in g l m = each_member SayableLabel ls g (listed_mem l ls (each_member (Known ls) ns names_known m))

  pub names_entries : Each SayableLabel ls → WellEntries (entries ns)
  names_entries g =
      entries_well (numbers_in ns) (labels_in [] ns) (labels_apart [] ns) (each_map (label_in g) (labels_in [] ns) (labels_only [] ns))
      (omega (arith, names_few [] ns))

  pub entries_few : length (entries ns) ≤ length ls
  entries_few = omega (arith, assigned_length (numbers_in ns) (labels_in [] ns), labels_few ls ns names_known)

  -- each name is written with a tag that an audio payload can have
  name_tagged : (n : SaidName) → SayableName ls n → Named (numbers_in ns) (labels_in [] ns) n → Tagged (entries ns) n
  unfolding tag_for
  name_tagged (number t) h g = h
  name_tagged (label l) h g =
      let r = label_tag (Reaches (length (numbers_in ns) + length (labels_in [] ns))) l (entries ns) (mapped ns l g) (assigned_range (numbers_in ns) (labels_in [] ns)) in
      let f = names_few [] ns in
      (omega arith, omega arith)

  pub names_tagged : Each (Tagged (entries ns)) ns
  names_tagged = each_both name_tagged ns sayable (names_named ns)

-- Sizes: the shortest form holds what a pack can hold.
fits_short : (n : ℕ) → n ≤ pack_cap → FormFits (shortest n) n
fits_short n h = (shortest_most n, shortest_reaches n (omega arith))

module _ (ls : List (List ℕ)) (ms : List Entry) where
  payload_well : (x : SaidPayload) → Tagged ms x.name → SayablePayload ls x → length x.value ≤ pack_cap → WellElement (as_element ms x)
  payload_well x t p h = record { above = t.0; below = t.1; fits = fits_short (length x.value) h; bytes = p.bytes }

  payloads_well : (xs : List SaidPayload) → Each (Tagged ms) (map (λ (x : SaidPayload). x.name) xs) → Each (SayablePayload ls) xs
      → length (elements_bytes (map (as_element ms) xs)) ≤ pack_cap → WellElements (map (as_element ms) xs)
  unfolding elements_bytes
  payloads_well [] t p h = search
  payloads_well (x ∷ xs) t p h =
      let e = as_element ms x in
      let f = element_fits e.tag e.form e.value (elements_bytes (map (as_element ms) xs)) pack_cap h in
      (payload_well x t.0 p.0 f.0, payloads_well xs t.1 p.1 f.1)

  items_well : (xs : List SaidItem) → Each (Tagged ms) (names xs) → Each (SayableItem ls) xs → length (chunks_bytes (map (as_chunk ms) xs)) ≤ pack_cap
      → WellChunks (map (as_chunk ms) xs)
  unfolding names chunks_bytes
  items_well [] t p h = search
  items_well (single x ∷ r) t p h =
      let e = as_element ms x in
      let f = element_fits e.tag e.form e.value (chunks_bytes (map (as_chunk ms) r)) pack_cap h in
      (payload_well x t.0 p.0 f.0, items_well r t.1 p.1 f.1)
  items_well (sync o d xs ∷ r) t p h =
      let ns = map (λ (x : SaidPayload). x.name) xs in
      let es = map (as_element ms) xs in
      let v = group_bytes o d es in
      let f = element_fits 2 (shortest (length v)) v (chunks_bytes (map (as_chunk ms) r)) pack_cap h in
      let s = p.0.some in (
        record {
          fits = fits_short (length v) f.0;
          offset = p.0.offset;
          duration = p.0.duration;
          some = omega (arith, length-map xs (as_element ms));
          all =
              payloads_well xs (each_left (Tagged ms) ns (names r) t) p.0.all
              (omega (arith, f.0, length-append (digits 256 2 o) (digits 256 2 d ++ elements_bytes es), length-append (digits 256 2 d) (elements_bytes es)));
        },
        items_well r (each_right (Tagged ms) ns (names r) t) p.1 f.1,
      )

  items_count : (xs : List SaidItem) → chunks_count (map (as_chunk ms) xs) ≡ total xs
  unfolding chunks_count total
  items_count [] = refl
  items_count (single x ∷ r) = ap (λ (n : ℕ). 1 + n) (items_count r)
  items_count (sync o d xs ∷ r) = ap₂ (λ (m n : ℕ). 1 + m + n) (length-map xs (as_element ms)) (items_count r)

-- Config is well-formed where it fits.
config_well : (o : ℕ) (ms : List Entry) → o < 65536 → length ms ≤ mapping_cap → WellEntries ms → length (config_bytes (as_config o ms)) ≤ pack_cap → WellConfig (as_config o ms)
unfolding as_config config_bytes entries_bytes WellConfig
config_well o [] a b w h = split (eqb o 0) (λ e. rw e tt) (λ e. rw e (fits_short 2 (omega arith), a, b, w))
config_well o (m ∷ ms) a b w h =
    let v = digits 256 2 o ++ entries_bytes (m ∷ ms) in
    let form = shortest (2 + length (entries_bytes (m ∷ ms))) in
    let x = length-append (tag_bytes 1) (form_bytes form (length v) ++ v) in
    let y = length-append (form_bytes form (length v)) v in
    let z = length-append (digits 256 2 o) (entries_bytes (m ∷ ms)) in
    (fits_short (2 + length (entries_bytes (m ∷ ms))) (omega (arith, length_digits 256 2 o)), a, b, w)

-- the names of items that can be said
payloads_named : (ls : List (List ℕ)) (xs : List SaidPayload) → Each (SayablePayload ls) xs → Each (SayableName ls) (map (λ (x : SaidPayload). x.name) xs)
payloads_named ls [] h = search
payloads_named ls (x ∷ xs) h = (h.0.named, payloads_named ls xs h.1)

items_named : (ls : List (List ℕ)) (xs : List SaidItem) → Each (SayableItem ls) xs → Each (SayableName ls) (names xs)
unfolding names
items_named ls [] h = search
items_named ls (single x ∷ r) h = (h.0.named, items_named ls r h.1)
items_named ls (sync o d xs ∷ r) h =
    each_append (SayableName ls) (map (λ (x : SaidPayload). x.name) xs) (names r) (payloads_named ls xs h.0.all) (items_named ls r h.1)

pub names_total : (xs : List SaidItem) → length (names xs) ≤ total xs
unfolding names total
names_total [] = omega arith
names_total (single x ∷ r) = let i = names_total r in omega arith
names_total (sync o d xs ∷ r) =
    let ns = map (λ (x : SaidPayload). x.name) xs in
    omega (arith, names_total r, length-append ns (names r), length-map xs (λ (x : SaidPayload). x.name))

crc_size_lem : crc_size (crc 0) ≡ 6
crc_size_lem = omega (arith, ap length (tag_short 3 (omega arith)), length_form 0 4)

-- the description is well-formed where its pack is small enough
pub described_well : (ls : List (List ℕ)) (k : Said) → Sayable ls k → length (written k) ≤ pack_cap → WellFormed (described k)
unfolding described written WellCrc
described_well ls k s h =
    let ns = names k.items in
    let ms = entries_of k in
    let few : length ns ≤ 64 = omega (arith, names_total k.items, s.count) in
    let sayable : Each (SayableName ls) ns = items_named ls k.items s.items in
    let size : value_size k ≤ pack_cap = omega (arith, written_length k, h) in
    let parts = length-append (config_bytes (config_for k)) (chunks_bytes (chunks_of k)) in
    record {
      fits = subst (λ (n : ℕ). FormFits (shortest (value_size k)) (length (content_of k) + n)) (sym crc_size_lem) (fits_short (value_size k) size);
      opening =
          config_well k.offset ms s.offset (omega (arith, entries_few ls ns few sayable, s.few)) (names_entries ls ns few sayable s.labels) (omega arith);
      items = items_well ls ms k.items (names_tagged ls ns few sayable) s.items (omega arith);
      closing = omega arith;
      count = omega (arith, items_count ls ms k.items, s.count);
      small = h;
    }
