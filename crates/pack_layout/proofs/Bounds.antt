-- What every accepted pack keeps to: its caps, where its payloads, its Syncs and its labels lie, and which names its payloads have.
use mathlib.Core.Path.{◌≡◌, refl, sym, ap, subst, ◌∙◌}
use mathlib.Core.List.{List, [], ◌∷◌, map}
use mathlib.Core.Bool.{Bool}
use Prim.Native.Nat.{ℕ, zero, suc, ◌+◌, ◌-◌, ◌^◌, ◌<◌, ◌≤◌, min}
use native.Mathlib.Nat.{zero-add, suc-add, add-suc}
use native.Mathlib.Omega.{arith}
use lib.Dec.{eqb}
use lib.ListN.{length, take, drop, get_or, length-take, length-drop, length-map}
use Rattle.runs.specs.Those.{Each}
use Rattle.runs.proofs.Those.{each_map}
use Rattle.runs.specs.Digits.{Bytes}
use Rattle.runs.proofs.Cases.{split}
use Rattle.runs.proofs.Below.{below_take}
use Rattle.runs.proofs.Stands.{stands_within}
use Rattle.refusals.specs.Outcomes.{fine}
use Rattle.refusals.proofs.Outcomes.{then_was}
use Rattle.numbers.specs.Big.{big_at, extended}
use Rattle.numbers.proofs.Big.{big_lt}
use Rattle.numbers.proofs.Signs.{extended_lt, sum_lt}
use Rattle.pack.specs.Fixed.{pack_cap, item_cap, mapping_cap}
use Rattle.pack.specs.declared.Name.{Name}
use Rattle.pack.specs.declared.Name.TheVariants.{Label, Number}
use Rattle.pack.specs.declared.Payload.{Payload}
use Rattle.pack.specs.declared.Head.{Head}
use Rattle.pack.specs.declared.Item.{Item}
use Rattle.pack.specs.declared.Item.TheVariants as I
use Rattle.pack.specs.Payloads.{name_from, name_of, Ground}
use Rattle.pack.specs.Config.{Mapping, labels_of, places_of}
use Rattle.pack.specs.Items.{Part, one, many, sync_head, count_of}
use Rattle.pack.specs.Reading.{Read, Opening, value_start, opening_at, reading}
use Rattle.pack.specs.Slots.{slots}
use Rattle.pack.proofs.Slots.{PartItems, slots_each}
use Rattle.pack.proofs.Payloads.{payload_within}
use Rattle.pack.proofs.Turns.{opening}
use Rattle.pack_layout.specs.Well.{WellEntries}
use Rattle.pack_layout.proofs.Parts.{part_bytes}
use Rattle.pack_layout.proofs.Elements.{payload_laid}
use Rattle.pack_layout.proofs.Accepts.{InnersRead, none_inside, next_inside, ItemsRead, ended, closed, next_plain, next_sync}
use Rattle.pack_layout.proofs.Opens.{mapping_of, MappingsRead, none_mapped, next_mapped, OpeningRead, no_config_read, config_read, opening_of, reading_of}
use Rattle.pack_layout.proofs.Counts.{items_count, mappings_count}
use Rattle.pack_layout.proofs.Entries.{entry_of}
use Rattle.pack_layout.proofs.Described.{entries_well}

-- a label is one of so many mappings, a number none of the fixed tags
abbrev pub NameFits : ℕ → Name → Type 0
NameFits mapped (Label i) = i < mapped
NameFits mapped (Number t) = (3 < t) × (t < 128 ^ 4)

pub record PayloadLies (s : List ℕ) (mapped : ℕ) (x : Payload) : Type 0 where
  pub starts : x.start < x.value_start
  pub ends : x.value_start + x.value_len ≤ length s
  pub named : NameFits mapped x.name
  pub total : x.total < 2 ^ 32

pub record HeadLies (s : List ℕ) (h : Head) (xs : List Payload) : Type 0 where
  pub starts : h.start < h.value_start
  pub ends : h.value_start + h.value_len ≤ length s
  pub long : 4 ≤ h.value_len
  pub offset : h.offset < 65536
  pub duration : h.duration < 65536
  pub count : h.inside ≡ length xs
  pub some : 0 < length xs

abbrev pub PartLies : List ℕ → ℕ → Part → Type 0
PartLies s mapped (one x) = PayloadLies s mapped x
PartLies s mapped (many h xs) = HeadLies s h xs × Each (PayloadLies s mapped) xs

-- the same, asked of an item
abbrev pub ItemLies : List ℕ → ℕ → Item → Type 0
ItemLies s mapped (I.Single x) = PayloadLies s mapped x
ItemLies s mapped (I.Inner x) = PayloadLies s mapped x
ItemLies s mapped (I.Sync h) = (xs : List Payload) × HeadLies s h xs

-- where the parts lie, each slot lies
pub slots_lie : (s : List ℕ) (mapped : ℕ) (ps : List Part) → Each (PartLies s mapped) ps → Each (λ (w : Item). ItemLies s mapped w) (slots ps)
slots_lie s mapped ps h = slots_each (ItemLies s mapped) ps (each_map items ps h)
  where
    items : (p : Part) → PartLies s mapped p → PartItems (ItemLies s mapped) p
    items (one x) l = l
    items (many y xs) l = ((xs, l.0), l.1)

pub record LabelLies (s : List ℕ) (m : Mapping) : Type 0 where
  pub ends : m.place + 16 ≤ length s
  pub is : m.stands ≡ take 16 (drop m.place s)

-- the label of a mapping, at its place among the places
pub label_at : (s : List ℕ) (ms : List Mapping) (i : ℕ) → Each (LabelLies s) ms → i < length ms
    → (take 16 (drop (get_or (places_of ms) i 0) s) ≡ get_or (labels_of ms) i []) × (get_or (places_of ms) i 0 + 16 ≤ length s)
label_at s [] i h g = absurd (omega arith)
label_at s (m ∷ ms) zero h g = (sym h.0.is, h.0.ends)
label_at s (m ∷ ms) (suc i) h g = label_at s ms i h.1 (omega arith)

-- what is known of a pack that is accepted
pub record Accepted (s : List ℕ) (r : Read) : Type 0 where
  pub small : length s ≤ pack_cap
  pub offset : r.offset < 65536
  pub count : count_of r.body.parts ≤ item_cap
  pub parts : Each (PartLies s (length r.mappings)) r.body.parts
  pub mapped : length r.mappings ≤ mapping_cap
  pub labels : Each (LabelLies s) r.mappings
  pub entries : WellEntries (map entry_of r.mappings)

name_from_fits : (i : ℕ) (tags : List ℕ) (t : ℕ) → 3 < t → t < 128 ^ 4 → NameFits (i + length tags) (name_from i tags t)
unfolding name_from
name_from_fits i [] t low high = (low, high)
name_from_fits i (x ∷ tags) t low high =
    split (eqb x t)
    (λ a. simp a (let z : i < i + suc (length tags) = omega arith in z))
    (λ a. simp a (subst (λ (n : ℕ). NameFits n (name_from (suc i) tags t)) (suc-add i (length tags) ∙ sym (add-suc i (length tags))) (name_from_fits (suc i) tags t low high)))

name_fits : (tags : List ℕ) (t : ℕ) → 3 < t → t < 128 ^ 4 → NameFits (length tags) (name_of tags t)
name_fits tags t low high = subst (λ (n : ℕ). NameFits n (name_of tags t)) (zero-add (length tags)) (name_from_fits 0 tags t low high)

inners_lie : (s : List ℕ) {q : List ℕ} {grounds : Ground} {base at used : ℕ} {xs : List Payload} → Bytes q → base + length q ≤ length s → grounds.total < 2 ^ 32
    → InnersRead q grounds base at used xs → Each (PayloadLies s (length grounds.tags)) xs
inners_lie s b room fits (none_inside h) = tt
inners_lie s {q} {grounds} b room fits (next_inside {at = at} t v l e h u r) =
    let x = payload_within q at t v l e in
    let d = payload_laid q at t v l b e in
    (record { starts = omega arith; ends = omega arith; named = name_fits grounds.tags t h d.high; total = fits }, inners_lie s b room fits r)

items_lie : (s : List ℕ) {grounds : Ground} {at used : ℕ} {parts : List Part} {mark : Bool} → Bytes s → grounds.total < 2 ^ 32
    → ItemsRead s grounds at used parts mark → Each (PartLies s (length grounds.tags)) parts
items_lie s b fits (ended h) = tt
items_lie s b fits (closed v e z c) = tt
items_lie s {grounds} b fits (next_plain {at = at} t v l e h u r) =
    let x = payload_within s at t v l e in
    let d = payload_laid s at t v l b e in
    (record { starts = x.later; ends = x.inside; named = name_fits grounds.tags t h d.high; total = fits }, items_lie s b fits r)
items_lie s {grounds} b fits (next_sync {at = at} v l xs e h u n inner r) =
    let x = payload_within s at 2 v l e in
    let q = take (l - 4) (drop (v + 4) s) in
    let room : v + 4 + length q ≤ length s = simp (length-take, length-drop) (omega arith) in
    let head : HeadLies s (sync_head s at v l (length xs)) xs =
    record { starts = x.later; ends = x.inside; long = h; offset = big_lt s v 2 b; duration = big_lt s (v + 2) 2 b; count = refl; some = n } in
    ((head, inners_lie s (part_bytes s (v + 4) (l - 4) b) room (sum_lt grounds.total (extended (big_at s v 2))) inner), items_lie s b fits r)

-- labels that stand in the front of a list stand in it
labels_lie : {c : List ℕ} {at : ℕ} {seen more : List Mapping} (s : List ℕ) (m : ℕ) → c ≡ take m s → MappingsRead c at seen more → Each (LabelLies s) more
labels_lie s m front (none_mapped h) = tt
labels_lie {c} s m front (next_mapped t n few e room apart r) =
    let long : length c ≡ min m (length s) = ap length front ∙ length-take m s in
    let label : LabelLies s (mapping_of c t n) = record {
      ends = omega arith;
      is = ap (λ (l : List ℕ). take 16 (drop n l)) front ∙ stands_within n 16 m s (omega arith);
    } in
    (label, labels_lie s m front r)

opening_lies : (s : List ℕ) {start o next : ℕ} {ms : List Mapping} → Bytes s → OpeningRead s start o ms next
    → (o < 65536) × (length ms ≤ mapping_cap) × Each (LabelLies s) ms × WellEntries (map entry_of ms)
unfolding WellEntries
opening_lies s b (no_config_read none) = (omega arith, omega arith, tt, tt)
opening_lies s b (config_read v l e h r) =
    (big_lt s v 2 b, omega (arith, mappings_count r (omega arith)), labels_lie s (v + l) refl r, entries_well (below_take 256 (v + l) s b) r tt)

-- of a pack that opens, whatever its items
pub opening_bounds : (s : List ℕ) → Bytes s → {o : Opening} → opening s ≡ fine o
    → (length o.mappings ≤ mapping_cap) × Each (LabelLies s) o.mappings × WellEntries (map entry_of o.mappings)
opening_bounds s b {o} h =
    let w = then_was (value_start s) (opening_at s) h in
    let lies = opening_lies s b (opening_of s w.0 o w.2) in
    (lies.1, lies.2, lies.3)

pub reading_bounds : (s : List ℕ) → Bytes s → (r : Read) → reading s ≡ fine r → Accepted s r
reading_bounds s b r h =
    let p = reading_of s r b h in
    let o = opening_lies s b p.opens in
    record {
      small = p.begins.small;
      offset = o.0;
      count = omega (arith, items_count p.items (omega arith));
      parts = subst (λ (n : ℕ). Each (PartLies s n) r.body.parts) (length-map r.mappings (λ (m : Mapping). m.tag)) (items_lie s b (extended_lt r.offset o.0) p.items);
      mapped = o.1;
      labels = o.2;
      entries = o.3;
    }
