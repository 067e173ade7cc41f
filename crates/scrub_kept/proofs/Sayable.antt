-- What a pack can say: within the caps, with names that it can have and numbers that fit. What a well-formed description says is sayable.
use mathlib.Core.Path.{◌≡◌, refl, ap, ap₂, subst}
use mathlib.Core.List.{List, [], ◌∷◌, map}
use mathlib.Core.Bool.{true, false}
use Prim.Native.Nat.{ℕ, ◌+◌, ◌<◌, ◌≤◌, ◌^◌}
use native.Mathlib.Omega.{arith}
use lib.ListN.{length, length-map}
use lib.Dec.{eqb}
use Rattle.runs.specs.Digits.{Bytes}
use Rattle.runs.specs.Same.{listed}
use Rattle.runs.proofs.Cases.{split}
use Rattle.refusals.specs.Outcomes.{fine}
use Rattle.pack.specs.Fixed.{item_cap, mapping_cap, utility_labels}
use Rattle.pack.specs.Said.{SaidName, label, number, SaidPayload, SaidItem, single, sync, Said}
use Rattle.pack.proofs.Said.{total}
use Rattle.pack.specs.Reading.{Read, reading}
use Rattle.pack.specs.Meaning.{meant}
use Rattle.pack_layout.specs.Layout.{Element, Chunk, plain, group, Entry, ConfigLaid, no_config, config, Description, entry_for, said_element, said_chunk, offset_laid, entries_laid, says}
use Rattle.pack_layout.specs.Well.{WellElement, WellElements, WellChunks, WellEntries, WellConfig, chunks_count, WellFormed}
use Rattle.pack_layout.proofs.Entries.{entry_labels}
use Rattle.pack_layout.proofs.Sound.{reading_sound}
use Rattle.runs.specs.Those.{Each}
use Rattle.scrub_kept.proofs.Listed.{listed_here, listed_more}

-- a label that a pack can map
pub record SayableLabel (l : List ℕ) : Type 0 where
  pub long : length l ≡ 16
  pub bytes : Bytes l
  pub free : listed l utility_labels ≡ false

-- a name that a payload of a pack with the labels ls can have
abbrev pub SayableName : List (List ℕ) → SaidName → Type 0
SayableName ls (label l) = listed l ls ≡ true
SayableName ls (number t) = (3 < t) × (t < 128 ^ 4)

pub record SayablePayload (ls : List (List ℕ)) (x : SaidPayload) : Type 0 where
  pub named : SayableName ls x.name
  pub bytes : Bytes x.value

pub record SayableSync (ls : List (List ℕ)) (o d : ℕ) (xs : List SaidPayload) : Type 0 where
  pub offset : o < 65536
  pub duration : d < 65536
  pub some : 0 < length xs
  pub all : Each (SayablePayload ls) xs

abbrev pub SayableItem : List (List ℕ) → SaidItem → Type 0
SayableItem ls (single x) = SayablePayload ls x
SayableItem ls (sync o d xs) = SayableSync ls o d xs

-- what a pack with the labels ls can say
pub record Sayable (ls : List (List ℕ)) (k : Said) : Type 0 where
  pub few : length ls ≤ mapping_cap
  pub labels : Each SayableLabel ls
  pub offset : k.offset < 65536
  pub items : Each (SayableItem ls) k.items
  pub count : total k.items ≤ item_cap

-- the mappings of a description
entries_labels : (ms : List Entry) → WellEntries ms → Each SayableLabel (entry_labels ms)
unfolding WellEntries
entries_labels [] w = search
entries_labels (m ∷ ms) w = (record { long = w.0.long; bytes = w.0.bytes; free = w.0.free }, entries_labels ms w.3)

config_sayable : (c : ConfigLaid) → WellConfig c
    → (length (entry_labels (entries_laid c)) ≤ mapping_cap) × Each SayableLabel (entry_labels (entries_laid c)) × (offset_laid c < 65536)
unfolding WellConfig
config_sayable no_config w = (omega arith, search, omega arith)
config_sayable (config form o ms) w = (omega (arith, w.2, length-map ms (λ (m : Entry). m.stands)), entries_labels ms w.3, w.1)

-- a tag means a name that the pack can have
name_more : (x : List ℕ) (ls : List (List ℕ)) (n : SaidName) → SayableName ls n → SayableName (x ∷ ls) n
name_more x ls (label l) h = listed_more l x ls h
name_more x ls (number t) h = h

tag_means : (ms : List Entry) (t : ℕ) → 3 < t → t < 128 ^ 4 → SayableName (entry_labels ms) (entry_for ms t)
unfolding entry_for
tag_means [] t a b = (a, b)
tag_means (m ∷ ms) t a b =
    split (eqb m.tag t)
    (λ e. rw e (listed_here m.stands (entry_labels ms)))
    (λ e. rw e (name_more m.stands (entry_labels ms) (entry_for ms t) (tag_means ms t a b)))

module _ (ms : List Entry) where
  element_says : (x : Element) → WellElement x → SayablePayload (entry_labels ms) (said_element ms x)
  element_says x w = record { named = tag_means ms x.tag w.above w.below; bytes = w.bytes }

  elements_say : (xs : List Element) → WellElements xs → Each (SayablePayload (entry_labels ms)) (map (said_element ms) xs)
  elements_say [] w = search
  elements_say (x ∷ xs) w = (element_says x w.0, elements_say xs w.1)

  chunks_say : (cs : List Chunk) → WellChunks cs → Each (SayableItem (entry_labels ms)) (map (said_chunk ms) cs)
  chunks_say [] w = search
  chunks_say (plain x ∷ cs) w = (element_says x w.0, chunks_say cs w.1)
  chunks_say (group form o d xs ∷ cs) w =
      let n = length-map xs (said_element ms) in
      let s = w.0.some in
      (record { offset = w.0.offset; duration = w.0.duration; some = omega arith; all = elements_say xs w.0.all }, chunks_say cs w.1)

  chunks_total : (cs : List Chunk) → total (map (said_chunk ms) cs) ≡ chunks_count cs
  unfolding total chunks_count
  chunks_total [] = refl
  chunks_total (plain x ∷ cs) = ap (λ (n : ℕ). 1 + n) (chunks_total cs)
  chunks_total (group form o d xs ∷ cs) = ap₂ (λ (m n : ℕ). 1 + m + n) (length-map xs (said_element ms)) (chunks_total cs)

pub says_sayable : (d : Description) → WellFormed d → Sayable (entry_labels (entries_laid d.first)) (says d)
unfolding says
says_sayable d w =
    let ms = entries_laid d.first in
    let c = config_sayable d.first w.opening in
    record {
      few = c.0;
      labels = c.1;
      offset = c.2;
      items = chunks_say ms d.chunks w.items;
      count = omega (arith, chunks_total ms d.chunks, w.count);
    }

-- so what an accepted pack says is sayable
pub pack_sayable : (s : List ℕ) (r : Read) → Bytes s → reading s ≡ fine r → (ls : List (List ℕ)) × Sayable ls (meant s r)
pack_sayable s r b h =
    let d = reading_sound s b r h in
    let ls = entry_labels (entries_laid d.description.first) in
    (ls, subst (Sayable ls) d.means (says_sayable d.description d.well))
