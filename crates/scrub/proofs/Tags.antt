-- The tags that the code gives are the smallest free ones, in Config and in the table by index.
use mathlib.Core.Path.{◌≡◌, refl, sym, ap, ap₂, ◌∙◌}
use mathlib.Core.List.{List, [], ◌∷◌, map}
use mathlib.Core.Bool.{Bool, true, false}
use Prim.Native.Nat.{ℕ, zero, suc, ◌+◌, ◌-◌, ◌<◌, ◌≤◌}
use native.Mathlib.Omega.{arith}
use lib.Dec.{eqb, ltb}
use lib.ListN.{length, take, drop, get_or, set, length-set, length-replicate, get_or-replicate}
use lib.Seq.{get_or-set_same, get_or-set_other}
use borrow.Author.Tests.{ne_eqb, eqb-true, eqb-false, ltb-true, ltb-false}
use Rattle.runs.specs.Same.{among}
use Rattle.runs.proofs.Cases.{split}
use Rattle.pack.specs.Said.{label}
use Rattle.pack.specs.Fixed.{mapping_cap}
use Rattle.pack_layout.specs.Layout.{Entry}
use Rattle.runs.specs.Those.{Each}
use Rattle.scrub_kept.specs.Written.{free, assigned, tag_for}
use Rattle.scrub_kept.proofs.Listed.{never, among_here, among_more}
use Rattle.scrub_kept.proofs.Labels.{LabelsApart}
use Rattle.scrub_kept.proofs.Free.{free_new, free_range, free_smallest}
use Rattle.scrub_names.specs.Given.{clear_from, clear_at, given, mapped, by_index}
use Rattle.scrub_config.specs.declared.Mapping.{Mapping}
use Rattle.scrub_config.specs.Entries.{entries_at}
use Rattle.scrub.proofs.Names.{at, same_at}

-- the smallest free numbers, one after the other
unfoldable pub free_tags : List ℕ → ℕ → List ℕ
free_tags taken zero = []
free_tags taken (suc n) = free taken ∷ free_tags (free taken ∷ taken) n

-- the marks from n on say which numbers are taken
abbrev pub Marks : List Bool → ℕ → List ℕ → Type 0
Marks marks n taken = (k : ℕ) → n ≤ k → k < 64 → get_or marks k false ≡ among (64 + k) taken

below : (u t : ℕ) → u ≤ t → (u ≡ t → ⊥) → u < t
below u t h d = split (ltb u t) (λ e. ltb-true u t e) (λ e. let g = ltb-false u t e in absurd (d (omega arith)))

skip : (k t : ℕ) (taken : List ℕ) → (t ≡ 64 + k → ⊥) → among (64 + k) (t ∷ taken) ≡ among (64 + k) taken
unfolding among
skip k t taken d = rw (ne_eqb t (64 + k) d)

-- a number that is not free is taken below the free one, and the free one is not taken
free_not : (taken : List ℕ) (n : ℕ) → among n taken ≡ true → n ≡ free taken → ⊥
free_not taken n h e = never (sym h ∙ ap (λ (m : ℕ). among m taken) e ∙ free_new taken)

free_first : (taken : List ℕ) (n : ℕ) → 64 ≤ n → n ≤ free taken → among n taken ≡ false → n ≡ free taken
free_first taken n low h e =
    split (ltb n (free taken))
    (λ l. never (sym (free_smallest taken n low (ltb-true n (free taken) l)) ∙ e))
    (λ l. let g = ltb-false n (free taken) l in omega arith)

-- the next free number is higher
free_next : (taken : List ℕ) → free taken < free (free taken ∷ taken)
free_next taken =
    let t = free taken in
    let u = free (t ∷ taken) in
    let low = (free_range (t ∷ taken)).0 in
    split (ltb t u)
    (λ l. ltb-true t u l)
    (λ l. let g = ltb-false t u l in
    split (eqb u t)
    (λ e. absurd (free_not (t ∷ taken) t (among_here t taken) (sym (eqb-true u t e))))
    (λ e. let d = eqb-false u t e in
    let lt : u < t = below u t g d in
    absurd (free_not (t ∷ taken) u (among_more u t taken (free_smallest taken u low lt)) refl)))

clear_free : (k n : ℕ) (marks : List Bool) (taken : List ℕ) → n + k ≡ 64 → 64 + n ≤ free taken → free taken < 128 → Marks marks n taken
    → 64 + clear_from k marks n ≡ free taken
unfolding clear_from
clear_free zero n marks taken e low high m = absurd (omega arith)
clear_free (suc k) n marks taken e low high m =
    split (get_or marks n false)
    (λ a. let not-here = free_not taken (64 + n) (sym (m n (omega arith) (omega arith)) ∙ a) in
    let next = below (64 + n) (free taken) low not-here in
    let up : 64 + suc n ≤ free taken = omega arith in
    rw a (clear_free k (suc n) marks taken (omega arith) up high (λ j h g. m j (omega arith) g)))
    (λ a. rw a (free_first taken (64 + n) (omega arith) low (sym (m n (omega arith) (omega arith)) ∙ a)))

-- the tags that the marks give
pub given_free : (count n : ℕ) (marks : List Bool) (taken : List ℕ) → 64 + n ≤ free taken → length taken + count ≤ 64 → Marks marks n taken
    → given marks n count ≡ free_tags taken count
unfolding given free_tags
given_free zero n marks taken low few m = refl
given_free (suc count) n marks taken low few m =
    let r = (free_range taken).1 in
    let t = free taken in
    let c = clear_at marks n in
    let e : 64 + c ≡ t = clear_free (64 - n) n marks taken (omega arith) low (omega arith) m in
    let up = free_next taken in
    let later : Marks marks (suc c) (t ∷ taken) = λ k h g. m k (omega arith) g ∙ sym (skip k t taken (λ q. omega arith)) in
    ap₂ (λ (a : ℕ) (l : List ℕ). a ∷ l) e (given_free count (suc c) marks (t ∷ taken) (omega arith) (omega arith) later)

-- Config's mappings are those that are assigned
pub entries_assigned : (s places : List ℕ) (labels : List (List ℕ)) (apart : LabelsApart labels) (order taken : List ℕ)
    → Each (λ (i : ℕ). take 16 (drop (get_or places i 0) s) ≡ get_or labels i []) order
    → entries_at s (mapped places order (free_tags taken (length order))) ≡ assigned taken (map (at labels apart) order)
unfolding mapped free_tags assigned
entries_assigned s places labels apart [] taken h = refl
entries_assigned s places labels apart (i ∷ order) taken h =
    ap₂ (λ (l : List ℕ) (r : List Entry). record { tag = free taken; stands = l } ∷ r) h.0 (entries_assigned s places labels apart order (free taken ∷ taken) h.1)

-- as many as there are labels
pub given_length : (marks : List Bool) (n count : ℕ) → length (given marks n count) ≡ count
unfolding given
given_length marks n zero = refl
given_length marks n (suc count) = ap suc (given_length marks (suc (clear_at marks n)) count)

pub mapped_length : (places order tags : List ℕ) → length tags ≡ length order → length (mapped places order tags) ≡ length order
unfolding mapped
mapped_length places [] tags h = refl
mapped_length places (i ∷ order) [] h = absurd (let z : 0 ≡ suc (length order) = h in omega arith)
mapped_length places (i ∷ order) (t ∷ tags) h = ap suc (mapped_length places order tags (let z : suc (length tags) ≡ suc (length order) = h in omega arith))

-- a rule of labels is one of their mappings
pub mapped_each : (P : ℕ → Type 0) (places order tags : List ℕ) → Each P order → Each (λ (m : Mapping). P m.index) (mapped places order tags)
unfolding mapped
mapped_each P places [] tags h = tt
mapped_each P places (i ∷ order) [] h = tt
mapped_each P places (i ∷ order) (t ∷ tags) h = (h.0, mapped_each P places order tags h.1)

index_length : (ms : List Mapping) → length (by_index ms) ≡ 32
unfolding by_index
index_length [] = length-replicate {A = ℕ} mapping_cap 0
index_length (m ∷ ms) = length-set (by_index ms) m.index m.tag ∙ index_length ms

-- and so is the table by index
pub index_assigned : (labels : List (List ℕ)) (apart : LabelsApart labels) (places order taken : List ℕ) → length labels ≤ 32
    → Each (λ (i : ℕ). i < length labels) order → (i : ℕ) → i < length labels
    → get_or (by_index (mapped places order (free_tags taken (length order)))) i 0 ≡ tag_for (assigned taken (map (at labels apart) order)) (label (get_or labels i []))
unfolding by_index mapped free_tags assigned tag_for
index_assigned labels apart places [] taken few h i low = get_or-replicate mapping_cap i 0 0 (omega arith)
index_assigned labels apart places (o ∷ order) taken few h i low =
    let ms = mapped places order (free_tags (free taken ∷ taken) (length order)) in
    let n = index_length ms in
    let b = h.0 in
    let r = index_assigned labels apart places order (free taken ∷ taken) few h.1 i low in
    split (eqb o i)
    (λ e. rw (same_at labels apart o i h.0 low, e)
    (ap (λ (k : ℕ). get_or (set (by_index ms) o (free taken)) k 0) (sym (eqb-true o i e)) ∙ get_or-set_same (by_index ms) o (free taken) 0 (omega arith)))
    (λ e. rw (same_at labels apart o i h.0 low, e) (get_or-set_other (by_index ms) o i (free taken) 0 (λ q. eqb-false o i e (sym q)) ∙ r))
