-- An accepted pack in the struct `Reading`: its slots, its labels, and what is known of them.
use mathlib.Core.Path.{◌≡◌, sym, ap, subst, ◌∙◌}
use mathlib.Core.List.{List, [], ◌∷◌, map}
use mathlib.Core.Bool.{false}
use Prim.Native.Nat.{ℕ, zero, suc, ◌+◌, ◌-◌, ◌<◌, ◌≤◌}
use native.Mathlib.Omega.{arith}
use lib.ListN.{length, take, drop, get_or, replicate, length-map, get_or-append}
use Rattle.pack.specs.declared.Name.{Name}
use Rattle.pack.specs.declared.Name.TheVariants as N
use Rattle.pack.specs.declared.Payload.{Payload}
use Rattle.pack.specs.Fixed.{mapping_cap, pack_cap}
use Rattle.pack.specs.Said.{label}
use Rattle.pack.specs.Config.{Mapping}
use Rattle.pack.specs.Config as C
use Rattle.pack.specs.Items.{Part, one, many}
use Rattle.pack.specs.Reading.{Read}
use Rattle.pack.specs.Slots.{slots, padded}
use Rattle.pack_layout.specs.Layout.{Entry}
use Rattle.pack_layout.specs.Well.{WellEntries}
use Rattle.pack_layout.proofs.Entries.{entry_of, entry_labels}
use Rattle.pack_layout.proofs.Mapped.{labels_entries}
use Rattle.pack_layout.proofs.Bounds as B
use Rattle.runs.specs.Those.{Each}
use Rattle.runs.proofs.Those.{each_map}
use Rattle.pack.proofs.Slots.{PartItems, slots_each}
use Rattle.scrub_kept.specs.Sheet.{Sheet}
use Rattle.scrub_kept.specs.Kept.{keeps}
use Rattle.scrub_kept.proofs.Labels.{LabelsApart}
use Rattle.scrub_names.specs.Marks.{flags_of, HasLabel}
use Rattle.scrub_plan.specs.Planned.{ItemSmall}
use Rattle.scrub.proofs.Names.{Below, ItemBelow}

get_or_padded : {A : Type 0} (n : ℕ) (d : A) (xs : List A) (i : ℕ) (e : A) → i < length xs → get_or (padded n d xs) i e ≡ get_or xs i e
get_or_padded n d xs i e h = get_or-append xs (replicate (n - length xs) d) e i h

entries_apart : (ms : List Entry) → WellEntries ms → LabelsApart (entry_labels ms)
unfolding WellEntries
entries_apart [] w = tt
entries_apart (m ∷ ms) w = (w.2, entries_apart ms w.3)

name_below : (n : ℕ) (x : Name) → B.NameFits n x → Below n x
name_below n (N.Label i) f = f
name_below n (N.Number t) f = tt

-- a place of the labels that were read
module _ (s : List ℕ) where
  pub places_fit : (ms : List Mapping) → Each (B.LabelLies s) ms → Each (HasLabel s) (C.places_of ms)
  places_fit [] h = tt
  places_fit (m ∷ ms) h = (h.0.ends, places_fit ms h.1)

  flag_at : (sh : Sheet) (ms : List Mapping) (i : ℕ) → Each (B.LabelLies s) ms → i < length ms
      → get_or (flags_of sh s (C.places_of ms)) i false ≡ keeps sh (label (get_or (C.labels_of ms) i []))
  flag_at sh [] i h g = absurd (omega arith)
  flag_at sh (m ∷ ms) zero h g = ap (λ (l : List ℕ). keeps sh (label l)) (sym h.0.is)
  flag_at sh (m ∷ ms) (suc i) h g = flag_at sh ms i h.1 (omega arith)

-- PAYLOADS

module _ (s : List ℕ) (n : ℕ) where
  payload_below : (x : Payload) → B.PayloadLies s n x → Below n x.name
  payload_below x h = name_below n x.name h.named

  part_below : (p : Part) → B.PartLies s n p → PartItems (ItemBelow n) p
  part_below (one x) h = payload_below x h
  part_below (many hd xs) h = (tt, each_map payload_below xs h.1)

  pub parts_below : (ps : List Part) → Each (B.PartLies s n) ps → Each (PartItems (ItemBelow n)) ps
  parts_below ps h = each_map part_below ps h

  module _ (small : length s ≤ pack_cap) where
    value_small : (x : Payload) → B.PayloadLies s n x → x.value_len ≤ pack_cap
    value_small x h = let e = h.ends in omega arith

    part_small : (p : Part) → B.PartLies s n p → PartItems ItemSmall p
    part_small (one x) h = value_small x h
    part_small (many hd xs) h = (tt, each_map value_small xs h.1)

    pub slots_small : (ps : List Part) → Each (B.PartLies s n) ps → Each ItemSmall (slots ps)
    slots_small ps h = slots_each ItemSmall ps (each_map part_small ps h)

-- an accepted pack
module _ (s : List ℕ) (r : Read) (a : B.Accepted s r) where
  abbrev pub labels : List (List ℕ)
  labels = C.labels_of r.mappings

  abbrev pub places : List ℕ
  places = C.places_of r.mappings

  pub labels_count : length labels ≡ length r.mappings
  labels_count = length-map r.mappings (λ (m : Mapping). m.stands)

  pub places_count : length places ≡ length r.mappings
  places_count = length-map r.mappings (λ (m : Mapping). m.place)

  pub labels_apart : LabelsApart labels
  labels_apart = subst LabelsApart (labels_entries r.mappings) (entries_apart (map entry_of r.mappings) a.entries)

  pub flags_right : (sh : Sheet) (i : ℕ) → i < length labels
      → get_or (padded mapping_cap false (flags_of sh s (C.places_of r.mappings))) i false ≡ keeps sh (label (get_or labels i []))
  flags_right sh i h =
      let l = labels_count in
      let places = C.places_of r.mappings in
      let n : length (flags_of sh s places) ≡ length r.mappings = length-map places (λ (p : ℕ). keeps sh (label (take 16 (drop p s)))) ∙ places_count in
      get_or_padded mapping_cap false (flags_of sh s places) i false (omega arith) ∙ flag_at s sh r.mappings i a.labels (omega arith)

  pub place_right : (i : ℕ) → i < length labels → (take 16 (drop (get_or places i 0) s) ≡ get_or labels i []) × (get_or places i 0 + 16 ≤ length s)
  place_right i h =
      let l = labels_count in
      B.label_at s r.mappings i a.labels (omega arith)
