-- What is prepared for an accepted pack writes what is kept of it.
use mathlib.Core.Path.{◌≡◌, refl, sym, ap, ap₂, subst, ◌∙◌}
use mathlib.Core.List.{List, [], ◌∷◌, ◌++◌, map}
use mathlib.Core.Bool.{Bool, false}
use Prim.Native.Nat.{ℕ, suc, ◌+◌, ◌-◌, ◌<◌, ◌≤◌}
use native.Mathlib.Omega.{arith}
use lib.ListN.{length, take, get_or, replicate, length-append, length-map}
use Rattle.runs.specs.Digits.{Bytes}
use Rattle.refusals.specs.Outcomes.{fine}
use Rattle.pack.specs.declared.Name.{Name}
use Rattle.pack.specs.declared.Name.TheVariants as N
use Rattle.pack.specs.declared.Item.{Item}
use Rattle.std.specs.Prelude.{Option, Some, None}
use Rattle.pack.specs.Fixed.{item_cap, mapping_cap}
use Rattle.pack.specs.Said.{label, Said, names}
use Rattle.pack.specs.Config.{places_of}
use Rattle.pack.specs.Items.{count_of}
use Rattle.pack.specs.Reading.{Read, reading}
use Rattle.pack.specs.Slots.{slots, padded}
use Rattle.pack.specs.Meaning.{meant_part, meant}
use Rattle.pack.proofs.Padded.{take_padded}
use Rattle.pack.proofs.Slots.{PartItems, slots_count, slots_each}
use Rattle.pack_layout.specs.Layout.{Entry, config_bytes, chunks_bytes}
use Rattle.pack_layout.proofs.Bounds as B
use Rattle.runs.specs.Those.{Each}
use Rattle.scrub_kept.specs.Sheet.{Sheet}
use Rattle.scrub_kept.specs.Kept.{kept_items, kept}
use Rattle.scrub_kept.specs.Written.{free, assigned, entries, entries_of, as_config, as_chunk, tag_for, content_of}
use Rattle.runs.proofs.Those.{each_map, each_same, each_append}
use Rattle.scrub_kept.proofs.Free.{free_range}
use Rattle.scrub_kept.proofs.ReadBack.{kept_few}
use Rattle.scrub_names.specs.declared.Names.{Names}
use Rattle.scrub_names.specs.Marks.{flags_of, mark_item, marks_of, kept_numbers, kept_labels, Noted}
use Rattle.scrub_names.specs.Given.{given, unmapped, mapped, by_index}
use Rattle.scrub_names.proofs.Growing.{marks_few}
use Rattle.scrub_ops.specs.declared.Op.{Op}
use Rattle.scrub_ops.specs.Ops.{ops_bytes, SomeFits}
use Rattle.scrub_config.specs.declared.Mapping.{Mapping}
use Rattle.scrub_config.specs.Entries.{entries_at, config_at, config_size, MappingFits}
use Rattle.scrub_write.specs.Packed.{content_at}
use Rattle.scrub_config.proofs.Entries.{config_length}
use Rattle.scrub_plan.specs.Planned.{Planned, planned, Plans, MarkFits}
use Rattle.scrub.specs.Ready.{Ready}
use Rattle.scrub.proofs.Flat.{new_tag, ItemLies, plan_by, plan_count, flat_items, total_size, ops_fit}
use Rattle.scrub.proofs.Names.{at, MarkBelow, ItemBelow, saying, saying_numbers, saying_labels, order_below, marks_say, marks_below, slots_planned}
use Rattle.scrub.proofs.Tags.{free_tags, given_free, entries_assigned, given_length, mapped_length, mapped_each, index_assigned}
use Rattle.scrub.proofs.Shown.{parts_below, labels, places, labels_count, labels_apart, flags_right, place_right}
use Rattle.scrub.proofs.Tagged.{parts_lie}

-- ARRAYS

mark_low : (k : ℕ) → k ≤ 32 → (m : Option Name) → MarkBelow k m → MarkFits m
mark_low k h None g = tt
mark_low k h (Some (N.Number t)) g = tt
mark_low k h (Some (N.Label i)) g = let z : i < k = g in let y : i < 32 = omega arith in y

pub marks_fit : (k : ℕ) (ms : List (Option Name)) (n : ℕ) → k ≤ 32 → Each (MarkBelow k) ms → Each MarkFits (ms ++ replicate n None)
marks_fit k ms n h g = each_append MarkFits ms (replicate n None) (each_map (mark_low k h) ms g) (each_same MarkFits n None tt)

mappings_fit : (s places order taken : List ℕ) → Each (λ (i : ℕ). get_or places i 0 + 16 ≤ length s) order → length taken + length order ≤ 64
    → Each (MappingFits s) (mapped places order (free_tags taken (length order)))
unfolding free_tags mapped
mappings_fit s places [] taken g few = tt
mappings_fit s places (i ∷ order) taken g few =
    let r = (free_range taken).1 in
    let z : length taken + suc (length order) ≤ 64 = few in
    let t : free taken < 128 = omega arith in
    ((t, g.0), mappings_fit s places order (free taken ∷ taken) g.1 (let y : suc (length taken) + length order ≤ 64 = omega arith in y))

-- AN ACCEPTED PACK

module _ (s : List ℕ) (valid : Bytes s) (r : Read) (h : reading s ≡ fine r) (sh : Sheet) where
  pub a : B.Accepted s r
  a = B.reading_bounds s valid r h

  abbrev all_items : List Item
  all_items = slots r.body.parts

  abbrev pub flags : List Bool
  flags = padded mapping_cap false (flags_of sh s (places_of r.mappings))

  abbrev pub marks : List (Option Name)
  marks = marks_of flags sh all_items

  abbrev pub order : List ℕ
  order = kept_labels [] marks

  abbrev numbers : List ℕ
  numbers = kept_numbers marks

  abbrev what : Said
  what = kept sh (meant s r)

  pub few_labels : length (labels s r a) ≤ 32
  few_labels = let l = labels_count s r a in let m = a.mapped in omega arith

  below : Each (PartItems (ItemBelow (length (labels s r a)))) r.body.parts
  below = rw (labels_count s r a) (parts_below s (length r.mappings) r.body.parts a.parts)

  items_below : Each (ItemBelow (length (labels s r a))) all_items
  items_below = slots_each (ItemBelow (length (labels s r a))) r.body.parts below

  pub marks_low : Each (MarkBelow (length (labels s r a))) marks
  marks_low = marks_below s (labels s r a) sh flags (flags_right s r a sh) all_items items_below

  pub order_each : Each (λ (i : ℕ). i < length (labels s r a)) order
  order_each = order_below (length (labels s r a)) [] marks marks_low

  pub order_fits : Each (λ (i : ℕ). i < mapping_cap) order
  order_fits =
      let f = few_labels in
      let low : (i : ℕ) → i < length (labels s r a) → i < 32 = λ i l. omega arith in
      each_map low order order_each

  pub marks_length : length marks ≡ count_of r.body.parts
  marks_length = length-map all_items (mark_item flags sh) ∙ slots_count r.body.parts

  pub few : length numbers + length order ≤ 64
  few = let f = marks_few [] marks in let l = marks_length in let c = a.count in omega arith

  names_are : saying (labels s r a) marks ≡ names what.items
  unfolding kept meant
  names_are = marks_say s (labels s r a) sh flags (flags_right s r a sh) r.body.parts below

  -- the mappings that are written
  entries_are : entries_of what ≡ assigned numbers (map (at (labels s r a) (labels_apart s r a)) order)
  entries_are =
      let ls = labels s r a in
      ap entries (sym names_are)
      ∙ ap₂ assigned (saying_numbers ls marks) (saying_labels ls (labels_apart s r a) [] marks tt marks_low)

  lies : Each (PartItems (ItemLies s (labels s r a) sh (entries_of what))) r.body.parts
  unfolding kept meant
  lies = parts_lie s (labels s r a) sh (length r.mappings) (names what.items) (kept_few s r sh valid h) r.body.parts a.parts refl

  -- PASS BY PASS

  module _ (nm : Names) (noted : Noted marks nm) where
    pub order_is : take nm.labels nm.order ≡ order
    order_is = ap (take nm.labels) noted.order ∙ take_padded item_cap 0 order nm.labels (sym noted.labels)

    given_is : given nm.taken 0 nm.labels ≡ free_tags numbers (length order)
    given_is =
        let low = (free_range numbers).0 in
        ap (given nm.taken 0) noted.labels ∙ given_free (length order) 0 nm.taken numbers (omega arith) few (λ k x y. noted.taken k y)

    -- the mappings that are written
    abbrev maps : List Mapping
    maps = mapped (places s r a) order (free_tags numbers (length order))

    maps_length : length maps ≡ nm.labels
    maps_length = mapped_length (places s r a) order (free_tags numbers (length order)) (sym (ap length given_is) ∙ given_length nm.taken 0 nm.labels ∙ noted.labels) ∙ sym noted.labels

    module _ (mappings : List Mapping) (made : mappings ≡ padded item_cap unmapped (mapped (places s r a) (take nm.labels nm.order) (given nm.taken 0 nm.labels))) where
      pub maps_are : take nm.labels mappings ≡ maps
      maps_are =
          ap (take nm.labels) (made ∙ ap₂ (λ (o t : List ℕ). padded item_cap unmapped (mapped (places s r a) o t)) order_is given_is)
          ∙ take_padded item_cap unmapped maps nm.labels maps_length

      pub index_fits : Each (λ (m : Mapping). m.index < mapping_cap) (take nm.labels mappings)
      index_fits = rw maps_are (mapped_each (λ (i : ℕ). i < mapping_cap) (places s r a) order (free_tags numbers (length order)) order_fits)

      module _ (index : List ℕ) (placed : index ≡ by_index (take nm.labels mappings)) (ops : List (Option Op)) (bytes : ℕ)
          (plans : Plans index all_items nm.marks (record { ops = ops; size = bytes })) where
        abbrev writes : List (Option Op)
        writes = take (length all_items) ops

        abbrev mappings_of : List Entry
        mappings_of = assigned numbers (map (at (labels s r a) (labels_apart s r a)) order)

        laid_is : entries_at s maps ≡ mappings_of
        laid_is = entries_assigned s (places s r a) (labels s r a) (labels_apart s r a) order numbers (each_map (λ i l. (place_right s r a i l).0) order order_each)

        fit : Each (MappingFits s) maps
        fit = mappings_fit s (places s r a) order numbers (each_map (λ i l. (place_right s r a i l).1) order order_each) few

        index_right : (i : ℕ) → i < length (labels s r a) → get_or index i 0 ≡ tag_for mappings_of (label (get_or (labels s r a) i []))
        index_right i l =
            ap (λ (x : List ℕ). get_or x i 0) (placed ∙ ap by_index maps_are)
            ∙ index_assigned (labels s r a) (labels_apart s r a) (places s r a) order numbers few_labels order_each i l

        plan_is : planned index all_items nm.marks ≡ plan_by (new_tag s (labels s r a) sh mappings_of) all_items
        plan_is =
            ap (planned index all_items) noted.marks
            ∙ slots_planned s (labels s r a) sh flags (flags_right s r a sh) mappings_of index index_right all_items (replicate (item_cap - length marks) None) items_below

        lie : Each (PartItems (ItemLies s (labels s r a) sh mappings_of)) r.body.parts
        lie = subst (λ (ms : List Entry). Each (PartItems (ItemLies s (labels s r a) sh ms)) r.body.parts) entries_are lies

        items_lie : Each (ItemLies s (labels s r a) sh mappings_of) all_items
        items_lie = slots_each (ItemLies s (labels s r a) sh mappings_of) r.body.parts lie

        ops_are : writes ≡ (plan_by (new_tag s (labels s r a) sh mappings_of) all_items).ops
        ops_are =
            let p = plan_by (new_tag s (labels s r a) sh mappings_of) all_items in
            ap (take (length all_items)) (plans.ops ∙ ap (λ (q : Planned). padded item_cap None q.ops) plan_is)
            ∙ take_padded item_cap None p.ops (length all_items) (plan_count s (labels s r a) sh mappings_of all_items)

        writes_are : ops_bytes s writes ≡ chunks_bytes (map (as_chunk mappings_of) (kept_items sh (map (meant_part s (labels s r a)) r.body.parts)))
        writes_are = ap (ops_bytes s) ops_are ∙ flat_items s (labels s r a) sh mappings_of r.body.parts lie

        size_is : bytes ≡ length (ops_bytes s writes)
        size_is =
            plans.size ∙ ap (λ (p : Planned). p.total) plan_is
            ∙ total_size s (labels s r a) sh mappings_of all_items items_lie
            ∙ ap (λ (l : List (Option Op)). length (ops_bytes s l)) (sym ops_are)

        writes_fit : Each (SomeFits s) writes
        writes_fit =
            let t : (plan_by (new_tag s (labels s r a) sh mappings_of) all_items).total < 3000000 =
            let x = plans.small in let y = plans.size ∙ ap (λ (q : Planned). q.total) plan_is in omega arith in
            rw ops_are (ops_fit s (labels s r a) sh mappings_of all_items items_lie t)

        content_is : content_at s r.offset maps writes ≡ content_of what
        unfolding kept meant
        content_is =
            ap₂ (λ (x y : List ℕ). x ++ y)
            (ap (λ (ms : List Entry). config_bytes (as_config r.offset ms)) (laid_is ∙ sym entries_are))
            (writes_are ∙ ap (λ (ms : List Entry). chunks_bytes (map (as_chunk ms) what.items)) (sym entries_are))

        pub ready : (size : ℕ) → (size ≡ config_size r.offset nm.labels) × (size < 2000)
            → Ready what s r.offset (take nm.labels mappings) writes (size + bytes + 6)
        ready size z =
            let f = few in
            let e = maps_length in
            let n = noted.labels in
            let g : size ≡ length (config_at s r.offset maps) = z.0 ∙ ap (config_size r.offset) (sym e) ∙ sym (config_length s r.offset maps fit) in
            let w = size_is in
            let k = length-append (config_at s r.offset maps) (ops_bytes s writes) in
            let l = plans.small in
            rw maps_are (record {
              packs = record {
                few = omega arith;
                mappings = fit;
                writes = writes_fit;
                counted = omega arith;
                small = omega (arith, z.1);
              };
              content = content_is;
            })
