-- The definitions that go through a pack by steps are given as many as there are bytes to go. Each step gets further by a byte at least, so more steps
-- give the same: none of them ends for want of a step.
use Prim.Native.Nat.{ℕ, zero, suc, ◌+◌, ◌-◌, ◌<◌, ◌≤◌}
use mathlib.Core.Path.{◌≡◌, refl, sym, ap, ◌∙◌}
use mathlib.Core.List.{List, [], ◌∷◌, ◌++◌}
use mathlib.Core.Bool.{false}
use native.Mathlib.Omega.{arith}
use lib.Dec.{ltb, leb}
use lib.ListN.{length, take, drop, length-take}
use borrow.Author.Tests.{ltb-true, ltb-false}
use Rattle.runs.proofs.Cases.{split, absurd_eq}
use Rattle.refusals.specs.declared.Refusal.TheVariants as R
use Rattle.refusals.specs.Outcomes.{Outcome, fine, refused, and_then}
use Rattle.refusals.proofs.Outcomes.{then_same}
use Rattle.numbers.specs.Reads.{Reads, read, malformed, cut}
use Rattle.numbers.specs.Tags.{tag_at}
use Rattle.numbers.proofs.Tags.{tag_next}
use Rattle.pack.specs.Config.{Mapping, tags_of, labels_of, clashes, mapping_at, mappings_from}
use Rattle.pack.specs.Payloads.{inner_at, Ground, payload, inners_from}
use Rattle.pack.specs.Items.{one, many, Body, item_at, inside_of, sync_head, with, items_from}
use Rattle.std.specs.Prelude.{Ok, Err}
use Rattle.pack.specs.Payloads.{Found}
use Rattle.pack.specs.declared.Payload.{Payload}
use Rattle.pack.specs.Items.{Steps}
use Rattle.pack.specs.declared.Step.TheVariants as S
use Rattle.pack.proofs.Payloads.{inner_within, plain_fits, open_fits}
use Rattle.pack.proofs.Turns.{mappings_end, mappings_turn, inners_on, inners_end, inners_turn, items_on, items_end, items_turn}

-- THE PAYLOADS OF A PART

module _ (q : List ℕ) (grounds : Ground) (base : ℕ) where
  -- j steps do as well as k from wherever k are enough
  abbrev InnersSame : ℕ → ℕ → Type 0
  InnersSame j k = (at used : ℕ) → length q ≤ at + k → inners_from j q grounds base at used ≡ inners_from k q grounds base at used

  inners_on_lem : (j k : ℕ) → InnersSame j k → (at used : ℕ) → length q ≤ at + suc k → (r : Found) → inner_at q at used ≡ r
      → inners_on q grounds base at used j r ≡ inners_on q grounds base at used k r
  inners_on_lem j k same at used h (Ok x) e =
      let t = x.tag in
      let v = x.value.start in
      let l = x.value.len in
      ap (λ (o : Outcome (List Payload)). and_then o (λ xs. fine (payload grounds (base + at) t (base + v) l ∷ xs)))
      (same (v + l) (used + 1) (omega (arith, h, (inner_within q at used t v l e).later)))
  inners_on_lem j k same at used h (Err why) e = refl

  inners_enough : (more k : ℕ) → k ≤ more → (at used : ℕ) → length q ≤ at + k → inners_from more q grounds base at used ≡ inners_from k q grounds base at used
  inners_enough more zero le at used h = inners_end q grounds base at used more (omega arith) ∙ sym (inners_end q grounds base at used zero (omega arith))
  inners_enough zero (suc k) le at used h = absurd (omega arith)
  inners_enough (suc j) (suc k) le at used h =
      split (ltb at (length q))
      (λ l.
      let there = ltb-true at (length q) l in
      inners_turn q grounds base at used j refl there refl
      ∙ inners_on_lem j k (inners_enough j k (omega arith)) at used h (inner_at q at used) refl
      ∙ sym (inners_turn q grounds base at used k refl there refl))
      (λ l.
      let gone = ltb-false at (length q) l in
      inners_end q grounds base at used (suc j) gone ∙ sym (inners_end q grounds base at used (suc k) gone))

-- THE ITEMS

module _ (s : List ℕ) (grounds : Ground) where
  abbrev ItemsSame : ℕ → ℕ → Type 0
  ItemsSame j k = (at used : ℕ) → length s ≤ at + k → items_from j s grounds at used ≡ items_from k s grounds at used

  items_on_lem : (j k : ℕ) → ItemsSame j k → (at used : ℕ) → length s ≤ at + suc k → (r : Steps) → item_at s at used ≡ r
      → items_on s grounds at used j r ≡ items_on s grounds at used k r
  items_on_lem j k same at used h (Ok (S.Plain x)) e =
      let t = x.tag in
      let v = x.value.start in
      let l = x.value.len in
      ap (λ (o : Outcome Body). and_then o (with (one (payload grounds at t v l))))
      (same (v + l) (used + 1) (omega (arith, h, (plain_fits s at used t v l e).later)))
  items_on_lem j k same at used h (Ok (S.Open x)) e =
      let v = x.start in
      let l = x.len in
      let further : length s ≤ v + l + k = omega (arith, h, (open_fits s at used v l e).0.later) in
      then_same
      (λ xs. and_then (items_from j s grounds (v + l) (used + 1 + length xs)) (with (many (sync_head s at v l (length xs)) xs)))
      (λ xs. and_then (items_from k s grounds (v + l) (used + 1 + length xs)) (with (many (sync_head s at v l (length xs)) xs)))
      (λ xs. ap (λ (o : Outcome Body). and_then o (with (many (sync_head s at v l (length xs)) xs))) (same (v + l) (used + 1 + length xs) further))
      (inside_of s grounds at v l used)
  items_on_lem j k same at used h (Ok (S.Close v)) e = refl
  items_on_lem j k same at used h (Err why) e = refl

  items_enough : (more k : ℕ) → k ≤ more → (at used : ℕ) → length s ≤ at + k → items_from more s grounds at used ≡ items_from k s grounds at used
  items_enough more zero le at used h = items_end s grounds at used more (omega arith) ∙ sym (items_end s grounds at used zero (omega arith))
  items_enough zero (suc k) le at used h = absurd (omega arith)
  items_enough (suc j) (suc k) le at used h =
      split (ltb at (length s))
      (λ l.
      let there = ltb-true at (length s) l in
      items_turn s grounds at used j refl there refl
      ∙ items_on_lem j k (items_enough j k (omega arith)) at used h (item_at s at used) refl
      ∙ sym (items_turn s grounds at used k refl there refl))
      (λ l. let gone = ltb-false at (length s) l in items_end s grounds at used (suc j) gone ∙ sym (items_end s grounds at used (suc k) gone))

-- THE MAPPINGS

module _ (c : List ℕ) (place : ℕ) where
  -- a mapping's label stands after its start
  mapping_later : (seen : List Mapping) (at : ℕ) (m : Mapping) → mapping_at c place seen at ≡ fine m → at < m.place
  unfolding mapping_at
  mapping_later seen at m e =
      split (leb 32 (length seen))
      (λ f. let z : refused R.Count place ≡ fine m = simp f at e in absurd_eq (cc))
      (λ f. tagged (tag_at c at) refl f)
    where
      tagged : (r : Reads) → tag_at c at ≡ r → leb 32 (length seen) ≡ false → at < m.place
      tagged (read t n) d f =
          split (ltb (length c - n) 16)
          (λ g. let z : refused R.Config place ≡ fine m = simp (f, d, g) at e in absurd_eq (cc))
          (λ g. split (clashes (tags_of seen) (labels_of seen) t (take 16 (drop n c)))
          (λ x. let z : refused R.Map place ≡ fine m = simp (f, d, g, x) at e in absurd_eq (cc))
          (λ x.
          let found : Mapping = record { tag = t; stands = take 16 (drop n c); place = n } in
          let z : fine found ≡ fine m = simp (f, d, g, x) at e in
          let same : found ≡ m = cc in
          omega (arith, (tag_next c at t n d).0, ap (λ (y : Mapping). y.place) same)))
      tagged malformed d f = let z : refused R.Tag place ≡ fine m = simp (f, d) at e in absurd_eq (cc)
      tagged cut d f = let z : refused R.Config place ≡ fine m = simp (f, d) at e in absurd_eq (cc)

  abbrev MappingsSame : ℕ → ℕ → Type 0
  MappingsSame j k = (seen : List Mapping) (at : ℕ) → length c ≤ at + k → mappings_from j c place seen at ≡ mappings_from k c place seen at

  mappings_on : (j k : ℕ) → MappingsSame j k → (seen : List Mapping) (at : ℕ) → length c ≤ at + suc k → (o : Outcome Mapping) → mapping_at c place seen at ≡ o
      → and_then o (λ m. mappings_from j c place (seen ++ (m ∷ [])) (m.place + 16)) ≡ and_then o (λ m. mappings_from k c place (seen ++ (m ∷ [])) (m.place + 16))
  unfolding and_then
  mappings_on j k same seen at h (fine m) e = same (seen ++ (m ∷ [])) (m.place + 16) (omega (arith, h, mapping_later seen at m e))
  mappings_on j k same seen at h (refused why p) e = refl

  mappings_enough : (more k : ℕ) → k ≤ more → (seen : List Mapping) (at : ℕ) → length c ≤ at + k
      → mappings_from more c place seen at ≡ mappings_from k c place seen at
  mappings_enough more zero le seen at h = mappings_end c place seen at more (omega arith) ∙ sym (mappings_end c place seen at zero (omega arith))
  mappings_enough zero (suc k) le seen at h = absurd (omega arith)
  mappings_enough (suc j) (suc k) le seen at h =
      split (ltb at (length c))
      (λ l.
      let there = ltb-true at (length c) l in
      mappings_turn c place seen at j refl there refl
      ∙ mappings_on j k (mappings_enough j k (omega arith)) seen at h (mapping_at c place seen at) refl
      ∙ sym (mappings_turn c place seen at k refl there refl))
      (λ l. let gone = ltb-false at (length c) l in mappings_end c place seen at (suc j) gone ∙ sym (mappings_end c place seen at (suc k) gone))

-- AS READING USES THEM

few : (n : ℕ) (xs : List ℕ) → length (take n xs) ≤ n
few n xs = simp length-take (omega arith)

pub fuel_enough : (s : List ℕ) (grounds : Ground) (more at v l used : ℕ)
    → (length s ≤ more → items_from more s grounds at used ≡ items_from (length s) s grounds at used)
    × (l ≤ more → inners_from more (take (l - 4) (drop (v + 4) s)) grounds (v + 4) 0 used ≡ inners_from l (take (l - 4) (drop (v + 4) s)) grounds (v + 4) 0 used)
    × (l ≤ more → mappings_from more (take (v + l) s) at [] (v + 2) ≡ mappings_from l (take (v + l) s) at [] (v + 2))
fuel_enough s grounds more at v l used = (
  λ h. items_enough s grounds more (length s) h at used (omega arith),
  λ h. inners_enough (take (l - 4) (drop (v + 4) s)) grounds (v + 4) more l h 0 used (omega (arith, few (l - 4) (drop (v + 4) s))),
  λ h. mappings_enough (take (v + l) s) at more l h [] (v + 2) (omega (arith, few (v + l) s)),
)
