-- Inner. The index of the tags of one byte, and the labels that stand at the places of mappings.
use Rattle.std.specs.Prelude.{◌≡◌, List, map, ℕ, zero, suc, ◌+◌, ◌<◌, ◌≤◌, length, take, drop, get_or}
use Rattle.runs.specs.Those.{Each}
use Rattle.pack.specs.Payloads.{name_of}
use Rattle.pack.specs.declared.Name.{Name}
use Rattle.pack.specs.declared.Name.TheVariants.{Label, Number}

-- an entry of the index tells the name of the tag t: 0 where t is not mapped, else its mapping's index plus 1
unfoldable pub indexed : ℕ → ℕ → Name
indexed zero t = Number t
indexed (suc i) t = Label i

-- the index is that of these tags
abbrev pub Knows : List ℕ → List ℕ → Type 0
Knows tags known = (t : ℕ) → t < 128 → name_of tags t ≡ indexed (get_or known t 0) t

-- the labels of the part c that stand at these places, and that they lie in it
abbrev pub standing : List ℕ → List ℕ → List (List ℕ)
standing c places = map (λ (p : ℕ). take 16 (drop p c)) places

abbrev pub LabelsLie : List ℕ → List ℕ → Type 0
LabelsLie c places = Each (λ (p : ℕ). p + 16 ≤ length c) places
