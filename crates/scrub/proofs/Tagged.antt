-- Every kept payload has a tag that can be written.
use mathlib.Core.Path.{◌≡◌, sym, ap, subst, ◌∙◌}
use mathlib.Core.List.{List, [], ◌∷◌, ◌++◌, map}
use mathlib.Core.Bool.{true, false}
use Prim.Native.Nat.{ℕ, ◌<◌, ◌≤◌, ◌^◌}
use native.Mathlib.Omega.{arith}
use lib.ListN.{length, get_or}
use Rattle.runs.specs.Same.{among, listed}
use Rattle.runs.proofs.Cases.{split}
use Rattle.pack.specs.declared.Name.{Name}
use Rattle.pack.specs.declared.Name.TheVariants as N
use Rattle.pack.specs.declared.Payload.{Payload}
use Rattle.pack.specs.declared.Item.{Item}
use Rattle.pack.specs.declared.Item.TheVariants as I
use Rattle.pack.specs.Said.{SaidName, label, SaidPayload, names}
use Rattle.pack.specs.Items.{Part, one, many}
use Rattle.pack.specs.Meaning.{meant_name, meant_payload, meant_part}
use Rattle.pack.proofs.Slots.{PartItems}
use Rattle.pack_layout.specs.Layout.{Entry}
use Rattle.pack_layout.proofs.Bounds as B
use Rattle.runs.specs.Those.{those, Each}
use Rattle.scrub_kept.specs.Sheet.{Sheet}
use Rattle.scrub_kept.specs.Kept.{keeps, kept_payloads, kept_items}
use Rattle.scrub_kept.specs.Written.{numbers_in, labels_in, entries, tag_for}
use Rattle.runs.proofs.Those.{each_map, each_both, each_left, each_right}
use Rattle.scrub_kept.proofs.Listed.{never}
use Rattle.scrub_kept.proofs.Labels.{Named, names_named}
use Rattle.scrub_kept.proofs.Entries.{assigned_labels, label_tag}
use Rattle.scrub_kept.proofs.Mappings.{entries_new}
use Rattle.scrub.proofs.Flat.{Lies, ItemLies}
use Rattle.scrub.proofs.Names.{sync_names}

-- a tag that can be written, and that is none of a payload that goes
abbrev pub Writable : ℕ → Type 0
Writable t = (0 < t) × (t < 128 ^ 4)

pub label_writable : (ns : List SaidName) (l : List ℕ) → length ns ≤ 64 → listed l (labels_in [] ns) ≡ true → Writable (tag_for (entries ns) (label l))
label_writable ns l few h =
    let range : (m : Entry) → (64 ≤ m.tag) × (m.tag ≤ 127) × (among m.tag (numbers_in ns) ≡ false) → Writable m.tag =
    λ m q. let x = q.0 in let y = q.1 in (omega arith, omega arith) in
    label_tag Writable l (entries ns)
    (ap (listed l) (assigned_labels (numbers_in ns) (labels_in [] ns)) ∙ h)
    (each_map range (entries ns) (entries_new ns few))

module _ (s : List ℕ) (labels : List (List ℕ)) (sh : Sheet) where
  -- a rule of the kept names is one of each payload that is kept
  module _ (P : SaidName → Type 0) where
    abbrev KeptOne : Payload → Type 0
    KeptOne x = keeps sh (meant_name labels x.name) ≡ true → P (meant_name labels x.name)

    abbrev KeptItem : Item → Type 0
    KeptItem (I.Single x) = KeptOne x
    KeptItem (I.Inner x) = KeptOne x
    KeptItem (I.Sync h) = Unit

    kept_inside : (xs : List Payload) → Each P (map (λ (x : SaidPayload). x.name) (kept_payloads sh (map (meant_payload s labels) xs))) → Each KeptOne xs
    unfolding those
    kept_inside [] h = tt
    kept_inside (x ∷ xs) h =
        let rest = map (λ (y : SaidPayload). y.name) (kept_payloads sh (map (meant_payload s labels) xs)) in
        split (keeps sh (meant_name labels x.name))
        (λ e. let g : P (meant_name labels x.name) × Each P rest = simp e at h in ((λ q. g.0), kept_inside xs g.1))
        (λ e. let g : Each P rest = simp e at h in ((λ q. never (sym q ∙ e)), kept_inside xs g))

    kept_parts : (ps : List Part) → Each P (names (kept_items sh (map (meant_part s labels) ps))) → Each (PartItems KeptItem) ps
    unfolding kept_items names
    kept_parts [] h = tt
    kept_parts (one x ∷ ps) h =
        let rest = names (kept_items sh (map (meant_part s labels) ps)) in
        split (keeps sh (meant_name labels x.name))
        (λ e. let g : P (meant_name labels x.name) × Each P rest = simp e at h in ((λ q. g.0), kept_parts ps g.1))
        (λ e. let g : Each P rest = simp e at h in ((λ q. never (sym q ∙ e)), kept_parts ps g))
    kept_parts (many hd xs ∷ ps) h =
        let ys = kept_payloads sh (map (meant_payload s labels) xs) in
        let ns = map (λ (x : SaidPayload). x.name) ys in
        let rest = kept_items sh (map (meant_part s labels) ps) in
        let g : Each P (ns ++ names rest) = subst (Each P) (sync_names hd.offset hd.duration ys rest) h in
        ((tt, kept_inside xs (each_left P ns (names rest) g)), kept_parts ps (each_right P ns (names rest) g))

  module _ (n : ℕ) (ns : List SaidName) (few : length ns ≤ 64) where
    name_writable : (x : Name) → B.NameFits n x → Named (numbers_in ns) (labels_in [] ns) (meant_name labels x) → Writable (tag_for (entries ns) (meant_name labels x))
    unfolding tag_for
    name_writable (N.Label i) f h = label_writable ns (get_or labels i []) few h
    name_writable (N.Number t) f h = let x = f.0 in (omega arith, f.1)

    abbrev Rule : SaidName → Type 0
    Rule m = Named (numbers_in ns) (labels_in [] ns) m

    payload_lies : (x : Payload) → B.PayloadLies s n x → KeptOne Rule x → Lies s labels sh (entries ns) x
    payload_lies x p q = record { ends = p.ends; tagged = λ e. name_writable x.name p.named (q e) }

    part_lies : (p : Part) → B.PartLies s n p → PartItems (KeptItem Rule) p → PartItems (ItemLies s labels sh (entries ns)) p
    part_lies (one x) p q = payload_lies x p q
    part_lies (many hd xs) p q = (tt, each_both payload_lies xs p.1 q.1)

    pub parts_lie : (ps : List Part) → Each (B.PartLies s n) ps → ns ≡ names (kept_items sh (map (meant_part s labels) ps)) → Each (PartItems (ItemLies s labels sh (entries ns))) ps
    parts_lie ps p e = each_both part_lies ps p (kept_parts Rule ps (subst (Each Rule) e (names_named ns)))
