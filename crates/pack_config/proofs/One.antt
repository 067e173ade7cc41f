-- Reading the mappings of a Config admits one outcome: the answer, and each number of the three tables.
use Prim.Native.Nat.{ℕ, zero, suc}
use mathlib.Core.Path.{◌≡◌, refl, sym, ap, ◌∙◌}
use mathlib.Core.List.{List}
use native.Mathlib.Omega.{arith}
use lib.ListN.{length}
use lib.Seq.{ext_get_or}
use Rattle.runs.proofs.Cases.{one, absurd_eq}
use Rattle.refusals.specs.Outcomes.{Answer}
use Rattle.refusals.specs.Outcomes.{Outcome}
use Rattle.pack.specs.Config.{Mapping}
use Rattle.pack_config.specs.declared.table.Mappings.{Mappings}
use Rattle.pack_config.specs.Index.{indexed, Knows}
use Rattle.pack_config.specs.Tables.{MapsRead}

-- two entries of the index that tell the same name are the same
indexed_apart : (i j t : ℕ) → indexed i t ≡ indexed j t → i ≡ j
unfolding indexed
indexed_apart zero zero t e = refl
indexed_apart zero (suc j) t e = absurd_eq (cc)
indexed_apart (suc i) zero t e = absurd_eq (cc)
indexed_apart (suc i) (suc j) t e = ap suc (cc)

-- so there is one index of some tags
pub index_one : (tags : List ℕ) {a b : List ℕ} → Knows tags a → Knows tags b → length a ≡ 128 → length b ≡ 128 → a ≡ b
index_one tags {a} {b} g h l m = ext_get_or 0 a b (one l m) (λ i d. indexed_apart _ _ i (sym (g i (omega arith)) ∙ h i (omega arith)))

pub maps_one : (o : Outcome (List Mapping)) (a b : Answer) (m n : Mappings) → MapsRead o a m → MapsRead o b n
    → (a ≡ b) × (m.count ≡ n.count) × (m.tags ≡ n.tags) × (m.places ≡ n.places) × (m.known ≡ n.known)
maps_one o a b m n g h =
    let x = g.tables in
    let y = h.tables in
    (one g.count h.count, one x.counted y.counted, one x.tagged y.tagged, one x.placed y.placed, index_one _ x.index y.index x.indexes y.indexes)
