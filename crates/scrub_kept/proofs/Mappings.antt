-- The mappings that are written for names: their tags and their labels.
use mathlib.Core.Path.{◌≡◌, sym, ap, subst}
use mathlib.Core.List.{List, [], ◌∷◌, ◌++◌, Memᴰ, Nodup}
use mathlib.Core.Bool.{true, false, ◌||◌}
use Prim.Native.Nat.{ℕ, ◌+◌, ◌<◌, ◌≤◌}
use native.Mathlib.Omega.{arith}
use lib.ListN.{length}
use Rattle.runs.specs.Same.{among}
use Rattle.pack.specs.Said.{SaidName, label}
use Rattle.pack_layout.specs.Layout.{Entry}
use Rattle.pack_layout.proofs.Entries.{entry_tags, entry_labels}
use Rattle.runs.specs.Those.{Each}
use Rattle.scrub_kept.specs.Written.{numbers_in, labels_in, assigned, entries}
use Rattle.runs.proofs.Those.{each_both, each_made}
use Rattle.scrub_kept.proofs.Entries.{apart_nodup, Reaches, assigned_labels, assigned_free, assigned_least, assigned_apart, assigned_range}
use Rattle.scrub_kept.proofs.Labels.{names_few, labels_only}

module _ (ns : List SaidName) where
  -- the labels are mapped in their order, and where there is none nothing is mapped
  pub entries_order : entry_labels (entries ns) ≡ labels_in [] ns
  entries_order = assigned_labels (numbers_in ns) (labels_in [] ns)

  pub entries_none : labels_in [] ns ≡ [] → entries ns ≡ []
  unfolding assigned
  entries_none e = ap (assigned (numbers_in ns)) e

  -- no tag is given twice
  pub entries_once : Nodup (entry_tags (entries ns))
  entries_once = apart_nodup _ (assigned_apart (numbers_in ns) (labels_in [] ns))

  pub entries_new : length ns ≤ 64 → Each (λ (m : Entry). (64 ≤ m.tag) × (m.tag ≤ 127) × (among m.tag (numbers_in ns) ≡ false)) (entries ns)
  entries_new h =
      let ts = numbers_in ns in
      let ls = labels_in [] ns in
      let f = names_few [] ns in
      let both : (m : Entry) → Reaches (length ts + length ls) m.tag → among m.tag ts ≡ false
      → (64 ≤ m.tag) × (m.tag ≤ 127) × (among m.tag ts ≡ false) = λ m a b. (a.0, omega arith, b) in
      each_both both (entries ns) (assigned_range ts ls) (assigned_free ts ls)

  -- each tag is the smallest number from 64 up that is neither a number name nor the tag of an earlier mapping
  pub entries_least : (before : List Entry) (m : Entry) (after : List Entry) → entries ns ≡ before ++ (m ∷ after)
      → (64 ≤ m.tag) × (among m.tag (numbers_in ns) || among m.tag (entry_tags before) ≡ false)
      × ((n : ℕ) → 64 ≤ n → n < m.tag → among n (numbers_in ns) || among n (entry_tags before) ≡ true)
  entries_least = assigned_least (numbers_in ns) (labels_in [] ns)

  pub entries_only : Each (λ (m : Entry). Memᴰ (label m.stands) ns) (entries ns)
  entries_only =
      let there : List ℕ → Type 0 = λ l. Memᴰ (label l) ns in
      each_made there (λ (m : Entry). m.stands) (entries ns) (subst (Each there) (sym entries_order) (labels_only [] ns))
