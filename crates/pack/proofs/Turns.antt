-- One turn of each definition that goes through a pack: the mappings of a Config, the payloads inside a Sync, the items; and its start.
use Prim.Native.Nat.{ℕ, zero, suc, ◌+◌, ◌-◌, ◌<◌, ◌≤◌}
use mathlib.Core.Path.{◌≡◌, refl, sym, ap, ◌∙◌}
use mathlib.Core.List.{List, [], ◌∷◌, ◌++◌}
use mathlib.Core.Bool.{true, false, cond}
use native.Mathlib.Omega.{arith}
use lib.Dec.{ltb}
use lib.ListN.{length, take, drop}
use borrow.Author.Tests.{le-ltb, lt-ltb, le-leb, lt-leb, ltb-false}
use Rattle.runs.proofs.Cases.{split, absurd_eq}
use Rattle.refusals.specs.declared.Refusal.TheVariants as R
use Rattle.refusals.specs.Outcomes.{Outcome, fine, refused, and_then}
use Rattle.refusals.proofs.Outcomes.{then_then}
use Rattle.numbers.specs.Reads.{read, malformed, cut}
use Rattle.numbers.specs.Tags.{tag_at}
use Rattle.pack.specs.Config.{Mapping, tags_of, labels_of, clashes, mapping_at, mappings_from}
use Rattle.pack.specs.Payloads.{inner_at, case_found, Ground, payload, inners_from}
use Rattle.pack.specs.Items.{one, many, Body, item_at, case_step, some_inside, inside_of, sync_head, crc_good, with, items_from}
use Rattle.pack.specs.Reading.{value_start, Opening, opening_at, read_from, reading}
use Rattle.pack.specs.Payloads.{Found}
use Rattle.pack.specs.declared.Payload.{Payload}
use Rattle.pack.specs.Items.{Steps}

-- the mappings after those of `seen`
module _ (c : List ℕ) (place : ℕ) (seen : List Mapping) (at : ℕ) where
  pub mappings_end : (k : ℕ) → length c ≤ at → mappings_from k c place seen at ≡ fine seen
  unfolding mappings_from
  mappings_end zero h = refl
  mappings_end (suc k) h = simp (le-ltb _ _ h)

  pub mappings_turn : {k : ℕ} (j : ℕ) → k ≡ suc j → at < length c → {o : Outcome Mapping} → mapping_at c place seen at ≡ o
      → mappings_from k c place seen at ≡ and_then o (λ m. mappings_from j c place (seen ++ (m ∷ [])) (m.place + 16))
  unfolding mappings_from
  mappings_turn j d h e = ap (λ (n : ℕ). mappings_from n c place seen at) d ∙ simp (lt-ltb _ _ h, e)

  -- one mapping, test by test
  pub mapping_count : 32 ≤ length seen → mapping_at c place seen at ≡ refused R.Count place
  unfolding mapping_at
  mapping_count h = simp (le-leb _ _ h)

  module _ (h : length seen < 32) where
    pub mapping_bad : tag_at c at ≡ malformed → mapping_at c place seen at ≡ refused R.Tag place
    unfolding mapping_at
    mapping_bad e = simp (lt-leb _ _ h, e)

    pub mapping_cut : tag_at c at ≡ cut → mapping_at c place seen at ≡ refused R.Config place
    unfolding mapping_at
    mapping_cut e = simp (lt-leb _ _ h, e)

    module _ (t n : ℕ) (e : tag_at c at ≡ read t n) where
      pub mapping_short : length c - n < 16 → mapping_at c place seen at ≡ refused R.Config place
      unfolding mapping_at
      mapping_short g = simp (lt-leb _ _ h, e, lt-ltb _ _ g)

      pub mapping_clash : 16 ≤ length c - n → clashes (tags_of seen) (labels_of seen) t (take 16 (drop n c)) ≡ true → mapping_at c place seen at ≡ refused R.Map place
      unfolding mapping_at
      mapping_clash g d = simp (lt-leb _ _ h, e, le-ltb _ _ g, d)

      pub mapping_fine : 16 ≤ length c - n → clashes (tags_of seen) (labels_of seen) t (take 16 (drop n c)) ≡ false
          → mapping_at c place seen at ≡ fine (record { tag = t; stands = take 16 (drop n c); place = n })
      unfolding mapping_at
      mapping_fine g d = simp (lt-leb _ _ h, e, le-ltb _ _ g, d)

-- the payloads of a part
module _ (q : List ℕ) (grounds : Ground) (base at used : ℕ) where
  -- what is read by what stands there
  abbrev pub inners_on : ℕ → Found → Outcome (List Payload)
  inners_on j r =
      case_found r (λ t v l. and_then (inners_from j q grounds base (v + l) (used + 1)) (λ xs. fine (payload grounds (base + at) t (base + v) l ∷ xs)))
      (λ why. refused why (base + at))

  pub inners_end : (k : ℕ) → length q ≤ at → inners_from k q grounds base at used ≡ fine []
  unfolding inners_from
  inners_end zero h = refl
  inners_end (suc k) h = simp (le-ltb _ _ h)

  pub inners_turn : {k : ℕ} (j : ℕ) → k ≡ suc j → at < length q → {r : Found} → inner_at q at used ≡ r → inners_from k q grounds base at used ≡ inners_on j r
  unfolding inners_from
  inners_turn j d h e = ap (λ (n : ℕ). inners_from n q grounds base at used) d ∙ simp (lt-ltb _ _ h, e)

-- the items
module _ (s : List ℕ) (grounds : Ground) (at used : ℕ) where
  abbrev pub items_on : ℕ → Steps → Outcome Body
  items_on j r =
      case_step r (λ t v l. and_then (items_from j s grounds (v + l) (used + 1)) (with (one (payload grounds at t v l))))
      (λ v l. and_then (inside_of s grounds at v l used)
      (λ xs. and_then (items_from j s grounds (v + l) (used + 1 + length xs)) (with (many (sync_head s at v l (length xs)) xs))))
      (λ v. cond (crc_good s v) (fine (record { parts = []; crc = true })) (refused R.Crc at))
      (λ why. refused why at)

  pub items_end : (k : ℕ) → length s ≤ at → items_from k s grounds at used ≡ fine (record { parts = []; crc = false })
  unfolding items_from
  items_end zero h = refl
  items_end (suc k) h = simp (le-ltb _ _ h)

  pub items_turn : {k : ℕ} (j : ℕ) → k ≡ suc j → at < length s → {r : Steps} → item_at s at used ≡ r → items_from k s grounds at used ≡ items_on j r
  unfolding items_from
  items_turn j d h e = ap (λ (n : ℕ). items_from n s grounds at used) d ∙ simp (lt-ltb _ _ h, e)

-- a Sync holds at least one payload
pub inside_none : (at : ℕ) (xs : List Payload) → length xs ≡ 0 → some_inside at xs ≡ refused R.Sync at
unfolding some_inside
inside_none at [] z = refl
inside_none at (x ∷ xs) z = absurd (omega arith)

pub inside_some : (at : ℕ) (xs : List Payload) → (length xs ≡ 0 → ⊥) → some_inside at xs ≡ fine xs
unfolding some_inside
inside_some at [] z = absurd (z refl)
inside_some at (x ∷ xs) z = refl

-- a pack whose value's start was found is not above the cap
pub start_small : (s : List ℕ) (n : ℕ) → value_start s ≡ fine n → length s ≤ 32768
unfolding value_start
start_small s n h =
    split (ltb 32768 (length s)) (λ e. let i : ◌≡◌ {A = Outcome ℕ} (refused R.Big 0) (fine n) = simp e at h in absurd_eq (cc)) (λ e. ltb-false _ _ e)

-- how a pack opens, and the reading by it
abbrev pub opening : List ℕ → Outcome Opening
opening s = and_then (value_start s) (opening_at s)

pub reading_opens : (s : List ℕ) → reading s ≡ and_then (opening s) (read_from s)
unfolding reading
reading_opens s = sym (then_then (value_start s) (opening_at s) (read_from s))
