-- What each pass asks of an accepted pack, and what the passes prepare.
use mathlib.Core.Path.{◌≡◌, sym, ap, ap₂, subst, ◌∙◌}
use mathlib.Core.List.{List}
use mathlib.Core.Bool.{Bool, false}
use Rattle.std.specs.Prelude.{Option}
use Prim.Native.Nat.{ℕ, ◌+◌, ◌-◌, ◌<◌, ◌≤◌}
use native.Mathlib.Omega.{arith}
use lib.ListN.{length, take}
use Rattle.runs.specs.Those.{Each}
use Rattle.runs.proofs.Those.{each_map}
use Rattle.pack.specs.Config.{places_of}
use Rattle.refusals.specs.Outcomes.{fine}
use Rattle.pack.specs.declared.Name.{Name}
use Rattle.pack.specs.declared.Item.{Item}
use Rattle.pack.specs.Fixed.{item_cap, mapping_cap}
use Rattle.pack.specs.Reading.{Read, reading}
use Rattle.pack.specs.Slots.{padded}
use Rattle.pack.specs.Meaning.{meant}
use Rattle.pack.specs.Fits.{ItemFits}
use Rattle.pack.proofs.Slots.{slots_count}
use Rattle.pack_layout.proofs.Bounds as B
use Rattle.pack_layout.proofs.Shown.{slots_fit}
use Rattle.scrub_kept.specs.Sheet.{Sheet}
use Rattle.scrub_kept.specs.Kept.{kept}
use Rattle.scrub_names.specs.declared.Names.{Names}
use Rattle.scrub_names.specs.Marks.{flags_of, marks_of, Noted, HasLabel}
use Rattle.scrub_names.specs.Given.{given, unmapped, mapped, by_index}
use Rattle.scrub_config.specs.declared.Mapping.{Mapping}
use Rattle.scrub_config.specs.Entries.{config_size}
use Rattle.scrub_ops.specs.declared.Op.{Op}
use Rattle.scrub_plan.specs.Planned.{Plans, ItemSmall, MarkFits}
use Rattle.scrub.specs.Ready.{Accepts, Ready}
use Rattle.scrub.proofs.Shown.{places_fit, slots_small, labels, labels_count, places_count}
use Rattle.scrub.proofs.Preparing.{a, marks, marks_low, order_is, order_each, few, few_labels, marks_fit, index_fits, ready}

module _ {s : List ℕ} {offset : ℕ} {stood : List ℕ} {items : List Item} (g : Accepts s offset stood items) (sh : Sheet) where
  abbrev r : Read
  r = g.read

  acc : B.Accepted s r
  acc = a s g.bytes r g.is sh

  pub few_items : length items ≤ 64
  few_items = let c = acc.count in let e = ap length g.hold ∙ slots_count r.body.parts in omega arith

  pub flags_ask : (length stood ≤ 32) × Each (HasLabel s) stood
  flags_ask =
      let m = acc.mapped in
      let e = ap length g.stand ∙ places_count s r acc in
      (omega arith, rw g.stand (places_fit s r.mappings acc.labels))

  pub note_asks : Each ItemFits items
  note_asks = rw g.hold (slots_fit s (length r.mappings) acc.mapped r.body.parts acc.parts)

  pub plan_asks : Each ItemSmall items
  plan_asks = rw g.hold (slots_small s (length r.mappings) acc.small r.body.parts acc.parts)

  module _ (f : List Bool) (flagged : f ≡ padded mapping_cap false (flags_of sh s stood)) (nm : Names) (noted : Noted (marks_of f sh items) nm) where
    noted_is : Noted (marks s g.bytes r g.is sh) nm
    noted_is =
        subst (λ (m : List (Option Name)). Noted m nm)
        (ap₂ (λ (x : List Bool) (y : List Item). marks_of x sh y) (flagged ∙ ap (λ (p : List ℕ). padded mapping_cap false (flags_of sh s p)) g.stand) g.hold)
        noted

    pub labels_few : nm.labels ≤ 64
    labels_few = let f = few s g.bytes r g.is sh in let e = noted_is.labels in omega arith

    -- a label that stays has a place, so that none is mapped from where no place is told
    pub order_asks : Each (λ (i : ℕ). i < length stood) (take nm.labels nm.order)
    order_asks =
        let n : length stood ≡ length (labels s r acc) = ap length g.stand ∙ places_count s r acc ∙ sym (labels_count s r acc) in
        rw (order_is s g.bytes r g.is sh nm noted_is) (each_map (λ i l. omega arith) _ (order_each s g.bytes r g.is sh))

    pub marks_ask : Each MarkFits nm.marks
    marks_ask =
        let ms = marks s g.bytes r g.is sh in
        rw noted_is.marks (marks_fit _ ms (item_cap - length ms) (few_labels s g.bytes r g.is sh) (marks_low s g.bytes r g.is sh))

    module _ (mappings : List Mapping) (made : mappings ≡ padded item_cap unmapped (mapped stood (take nm.labels nm.order) (given nm.taken 0 nm.labels))) where
      made_is : mappings ≡ padded item_cap unmapped (mapped (places_of r.mappings) (take nm.labels nm.order) (given nm.taken 0 nm.labels))
      made_is = made ∙ ap (λ (l : List ℕ). padded item_cap unmapped (mapped l (take nm.labels nm.order) (given nm.taken 0 nm.labels))) g.stand

      pub index_asks : Each (λ (m : Mapping). m.index < mapping_cap) (take nm.labels mappings)
      index_asks = index_fits s g.bytes r g.is sh nm noted_is mappings made_is

      pub prepared : (index : List ℕ) (ops : List (Option Op)) (n size : ℕ) → index ≡ by_index (take nm.labels mappings)
          → Plans index items nm.marks (record { ops = ops; size = n }) → (size ≡ config_size offset nm.labels) × (size < 2000) → (q : Read) → reading s ≡ fine q
          → Ready (kept sh (meant s q)) s offset (take nm.labels mappings) (take (length items) ops) (size + n + 6)
      prepared index ops n size i p z q e =
          let same : r ≡ q = let x = g.is in cc in
          let done = ready s g.bytes r g.is sh nm noted_is mappings made_is index i ops n
          (subst (λ (x : List Item). Plans index x nm.marks (record { ops = ops; size = n })) g.hold p) size (z.0 ∙ ap (λ (o : ℕ). config_size o nm.labels) g.starts, z.1) in
          let ms = take nm.labels mappings in
          subst (λ (x : Read). Ready (kept sh (meant s x)) s offset ms (take (length items) ops) (size + n + 6)) same
          (subst (λ (o : ℕ). Ready (kept sh (meant s r)) s o ms (take (length items) ops) (size + n + 6)) (sym g.starts)
          (subst (λ (l : List Item). Ready (kept sh (meant s r)) s r.offset ms (take (length l) ops) (size + n + 6)) (sym g.hold) done))
