-- The slots that are shown of an accepted pack: their lines are those of its items, and their labels stand in the pack.
use mathlib.Core.Path.{◌≡◌, refl, sym, ap, subst, ◌∙◌}
use mathlib.Core.List.{List, [], ◌∷◌, ◌++◌, map, append_assoc}
use Prim.Native.Nat.{ℕ, ◌-◌, ◌≤◌}
use native.Mathlib.Omega.{arith}
use lib.ListN.{length, take, replicate}
use Rattle.runs.specs.Those.{Each}
use Rattle.runs.proofs.Those.{each_map}
use Rattle.pack.specs.Fixed.{mapping_cap, item_cap}
use Rattle.pack.specs.Config.{Mapping, places_of}
use Rattle.pack.specs.Items.{Part, one, many, count_of}
use Rattle.pack.specs.Reading.{Read}
use Rattle.pack.specs.Slots.{slots, blank, padded}
use Rattle.pack.specs.Made.{made}
use Rattle.pack.proofs.Made.{made_same, place_padded}
use Rattle.pack.proofs.Slots.{slots_taken}
use Rattle.pack.specs.declared.Name.{Name}
use Rattle.pack.specs.declared.Name.TheVariants.{Label, Number}
use Rattle.pack.specs.declared.Payload.{Payload}
use Rattle.pack.specs.declared.Item.{Item}
use Rattle.pack.specs.declared.Item.TheVariants as I
use Rattle.pack_layout.proofs.Bounds.{NameFits, ItemLies, slots_lie, LabelLies, label_at, Accepted}
use Rattle.pack_text.specs.Text.{line, sync_fields, named_line, payload_line, payload_lines, part_lines}
use Rattle.pack_text.specs.Items.{item_line, item_lines, NameStands, ItemStands, ItemsStand}

-- the lines of the slots of parts are those of the parts
module _ (s places : List ℕ) where
  inner_lines : (xs : List Payload) (ws : List Item)
      → item_lines s places (map (λ (x : Payload). I.Inner x) xs ++ ws) ≡ payload_lines s places xs ++ item_lines s places ws
  unfolding made payload_lines
  inner_lines [] ws = refl
  inner_lines (x ∷ xs) ws =
      ap (λ (l : List ℕ). payload_line s places x ++ l) (inner_lines xs ws)
      ∙ sym (append_assoc (payload_line s places x) (payload_lines s places xs) (item_lines s places ws))

  pub lines_of : (ps : List Part) → item_lines s places (slots ps) ≡ part_lines s places ps
  unfolding made slots part_lines
  lines_of [] = refl
  lines_of (one x ∷ r) = ap (λ (l : List ℕ). payload_line s places x ++ l) (lines_of r)
  lines_of (many h xs ∷ r) =
      ap (λ (l : List ℕ). line (sync_fields h) ++ l) (inner_lines xs (slots r) ∙ ap (λ (l : List ℕ). payload_lines s places xs ++ l) (lines_of r))

-- what fills up the places changes no line
module _ (s places : List ℕ) (k : ℕ) where
  name_line : (n : Name) (start len total : ℕ) → named_line s (places ++ replicate k 0) n start len total ≡ named_line s places n start len total
  unfolding named_line
  name_line (Label i) start len total = cc (place_padded k places i)
  name_line (Number t) start len total = refl

  item_line_lem : (y : Item) → item_line s (places ++ replicate k 0) y ≡ item_line s places y
  item_line_lem (I.Single x) = name_line x.name x.start x.value_len x.total
  item_line_lem (I.Inner x) = name_line x.name x.start x.value_len x.total
  item_line_lem (I.Sync h) = refl

-- labels that stand in the pack
module _ (s : List ℕ) (ms : List Mapping) (few : length ms ≤ mapping_cap) (lie : Each (LabelLies s) ms) (k : ℕ) where
  name_stands : (n : Name) → NameFits (length ms) n → NameStands s (places_of ms ++ replicate k 0) n
  name_stands (Label i) h = (omega arith, rw place_padded (label_at s ms i lie h).1)
  name_stands (Number t) h = tt

  item_stands : (y : Item) → ItemLies s (length ms) y → ItemStands s (places_of ms ++ replicate k 0) y
  item_stands (I.Single x) h = name_stands x.name h.named
  item_stands (I.Inner x) h = name_stands x.name h.named
  item_stands (I.Sync y) h = tt

-- the two facts of an accepted pack, as the loop over its slots asks for them
module _ (s : List ℕ) (r : Read) (a : Accepted s r) where
  abbrev filled : List ℕ
  filled = padded mapping_cap 0 (places_of r.mappings)

  abbrev first : List Item
  first = take (count_of r.body.parts) (padded item_cap blank (slots r.body.parts))

  pub accepted_lines : item_lines s filled first ≡ part_lines s (places_of r.mappings) r.body.parts
  accepted_lines =
      let places = places_of r.mappings in
      ap (item_lines s filled) (slots_taken r.body.parts)
      ∙ made_same (item_line s filled) (item_line s places) (item_line_lem s places (mapping_cap - length places)) (slots r.body.parts) ∙ lines_of s places r.body.parts

  pub accepted_stand : ItemsStand s filled first
  accepted_stand =
      let k = mapping_cap - length (places_of r.mappings) in
      subst (ItemsStand s filled) (sym (slots_taken r.body.parts))
      (each_map (item_stands s r.mappings a.mapped a.labels k) (slots r.body.parts)
      (slots_lie s (length r.mappings) r.body.parts a.parts))
