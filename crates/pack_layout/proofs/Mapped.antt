-- Mappings that are laid out are read, each with the place of its label.
use mathlib.Core.Path.{◌≡◌, refl, sym, ap, subst, ◌∙◌}
use mathlib.Core.List.{List, [], ◌∷◌, ◌++◌, map, map-map}
use mathlib.Core.Bool.{false}
use Prim.Native.Nat.{ℕ, ◌+◌, ◌-◌, ◌≤◌}
use native.Mathlib.Omega.{arith}
use lib.ListN.{length, take, drop, length-append, length-drop}
use lib.Seq.{take_at}
use Rattle.runs.specs.Same.{among, listed}
use Rattle.runs.proofs.Stands.{stands_past}
use Rattle.numbers.specs.Reads.{read}
use Rattle.numbers.specs.Tags.{tag_at, tag_bytes}
use Rattle.numbers.proofs.Tags.{tag_back}
use Rattle.pack.specs.Fixed.{mapping_cap}
use Rattle.pack.specs.Config.{Mapping, tags_of, labels_of, clashes}
use Rattle.pack_layout.specs.Layout.{Entry, entries_bytes}
use Rattle.pack_layout.specs.Well.{WellEntries}
use Rattle.pack_layout.proofs.Entries.{entry_tags, entry_labels, entry_of, entries_before, Apart, apart_run}
use Rattle.pack_layout.proofs.Opens.{mapping_of, MappingsRead, none_mapped, next_mapped}

-- the mappings whose tags and labels stand one after the other from `at` on
unfoldable pub placed : ℕ → List Entry → List Mapping
placed at [] = []
placed at (m ∷ ms) =
    record { tag = m.tag; stands = m.stands; place = at + length (tag_bytes m.tag) } ∷ placed (at + length (tag_bytes m.tag) + 16) ms

pub placed_entries : (at : ℕ) (ms : List Entry) → map entry_of (placed at ms) ≡ ms
unfolding placed
placed_entries at [] = refl
placed_entries at (m ∷ ms) = ap (λ (l : List Entry). m ∷ l) (placed_entries (at + length (tag_bytes m.tag) + 16) ms)

-- tags and labels of mappings and of their entries
pub tags_entries : (ms : List Mapping) → entry_tags (map entry_of ms) ≡ tags_of ms
tags_entries ms = map-map (λ (m : Entry). m.tag) entry_of ms

pub labels_entries : (ms : List Mapping) → entry_labels (map entry_of ms) ≡ labels_of ms
labels_entries ms = map-map (λ (m : Entry). m.stands) entry_of ms

-- a mapping goes from those to come to those that were seen
pub moved : (seen : List Mapping) (m : Mapping) (ms : List Entry) → map entry_of (seen ++ (m ∷ [])) ++ ms ≡ map entry_of seen ++ (entry_of m ∷ ms)
moved [] m ms = refl
moved (x ∷ seen) m ms = ap (λ (l : List Entry). entry_of x ∷ l) (moved seen m ms)

-- a mapping that stands at `at`, before `rest`, after those of `seen`: it may come after them
pub record MappingLaid (c : List ℕ) (at : ℕ) (seen : List Mapping) (m : Entry) (ms : List Entry) (rest : List ℕ) : Type 0 where
  pub tag : tag_at c at ≡ read m.tag (at + length (tag_bytes m.tag))
  pub room : at + length (tag_bytes m.tag) + 16 ≤ length c
  pub stands : take 16 (drop (at + length (tag_bytes m.tag)) c) ≡ m.stands
  pub apart : clashes (tags_of seen) (labels_of seen) m.tag (take 16 (drop (at + length (tag_bytes m.tag)) c)) ≡ false
  pub next : drop (at + length (tag_bytes m.tag) + 16) c ≡ rest
  pub same : map entry_of seen ++ (m ∷ ms) ≡ map entry_of (seen ++ (mapping_of c m.tag (at + length (tag_bytes m.tag)) ∷ [])) ++ ms

pub mapping_laid : (m : Entry) (ms : List Entry) (c : List ℕ) (at : ℕ) (seen : List Mapping) (rest : List ℕ) → drop at c ≡ tag_bytes m.tag ++ (m.stands ++ rest)
    → WellEntries (map entry_of seen ++ (m ∷ ms)) → MappingLaid c at seen m ms rest
mapping_laid m ms c at seen rest e w =
    let b = entries_before (map entry_of seen) m ms w in
    let t = m.tag in
    let n = at + length (tag_bytes t) in
    let long : length m.stands ≡ 16 = omega (arith, b.0.long) in
    let e1 : drop n c ≡ m.stands ++ rest = stands_past c at (tag_bytes t) (m.stands ++ rest) e in
    let l : take 16 (drop n c) ≡ m.stands = ap (take 16) e1 ∙ take_at m.stands rest 16 long in
    let q : length c - n ≡ length m.stands + length rest = sym (length-drop n c) ∙ ap length e1 ∙ length-append m.stands rest in
    let apart : Apart seen t m.stands = record {
      above = b.0.above;
      free = b.0.free;
      new_tag = ap (among t) (sym (tags_entries seen)) ∙ b.1;
      new_label = ap (listed m.stands) (sym (labels_entries seen)) ∙ b.2;
    } in
    record {
      tag = tag_back c at t (m.stands ++ rest) e (omega (arith, b.0.above)) b.0.below;
      room = omega arith;
      stands = l;
      apart = ap (clashes (tags_of seen) (labels_of seen) t) l ∙ apart_run seen t m.stands apart;
      next = ap (λ (x : ℕ). drop (n + x) c) (sym long) ∙ stands_past c n m.stands rest e1;
      same = ap (λ (y : List ℕ). map entry_of seen ++ (record { tag = t; stands = y } ∷ ms)) (sym l) ∙ sym (moved seen (mapping_of c t n) ms);
    }

pub mappings_laid : (ms : List Entry) (c : List ℕ) (at : ℕ) (seen : List Mapping) → drop at c ≡ entries_bytes ms → length seen + length ms ≤ mapping_cap
    → WellEntries (map entry_of seen ++ ms) → MappingsRead c at seen (placed at ms)
unfolding entries_bytes placed
mappings_laid [] c at seen e u w = none_mapped {at = at} (omega (arith, length-drop at c, ap length e))
mappings_laid (m ∷ ms) c at seen e u w =
    let r = mapping_laid m ms c at seen (entries_bytes ms) e w in
    let t = m.tag in
    let n = at + length (tag_bytes t) in
    let x = mapping_of c t n in
    let more = placed (n + 16) ms in
    subst (λ (y : List ℕ). MappingsRead c at seen (record { tag = t; stands = y; place = n } ∷ more)) r.stands
    (next_mapped t n (omega arith) r.tag r.room r.apart
    (mappings_laid ms c (n + 16) (seen ++ (x ∷ [])) r.next (omega (arith, length-append seen (x ∷ []))) (subst WellEntries r.same w)))
