-- Inner. What is asked of mappings, and what becomes of them.
use Rattle.std.specs.Prelude.{◌≡◌, List, false, ℕ, ◌+◌, ◌<◌, ◌≤◌, length, take, drop, set, replicate}
use Rattle.runs.specs.Same.{listed}
use Rattle.pack.specs.Fixed.{mapping_cap}
use Rattle.pack_config.specs.Index.{standing, LabelsLie}
use Rattle.pack_config.specs.declared.table.Mappings.{Mappings}

-- there are none yet
pub record None (m : Mappings) : Type 0 where
  pub counted : m.count ≡ 0
  pub tagged : m.tags ≡ replicate mapping_cap 0
  pub placed : m.places ≡ replicate mapping_cap 0
  pub index : m.known ≡ replicate 128 0

-- what is asked before a mapping with a label at `at` is judged: the labels lie in the part, and where the label's mark is 0, it is none of those
pub record Judging (c : List ℕ) (m : Mappings) (at mark : ℕ) : Type 0 where
  pub lie : LabelsLie c (take m.count m.places)
  pub label : at + 16 ≤ length c
  pub unmarked : mark ≡ 0 → listed (take 16 (drop at c)) (standing c (take m.count m.places)) ≡ false

-- one more, of the tag t with its label at p; the index tells tags of one byte
pub record Added (m : Mappings) (t p : ℕ) (n : Mappings) : Type 0 where
  pub counted : n.count ≡ m.count + 1
  pub tagged : n.tags ≡ set m.tags m.count t
  pub placed : n.places ≡ set m.places m.count p
  pub short : t < 128 → n.known ≡ set m.known t (m.count + 1)
  pub long : 128 ≤ t → n.known ≡ m.known
