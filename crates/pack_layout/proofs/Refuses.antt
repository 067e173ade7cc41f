-- What is wrong is refused: where well-formed payloads of a Sync, or well-formed chunks, stand before what is none, the reader goes past them and stops
-- there.
use mathlib.Core.Path.{◌≡◌, refl, sym, ap, subst, ◌∙◌}
use mathlib.Core.List.{List, [], ◌∷◌, ◌++◌, append_assoc}
use Prim.Native.Nat.{ℕ, zero, suc, ◌+◌, ◌-◌, ◌<◌, ◌≤◌}
use native.Mathlib.Omega.{arith}
use lib.Dec.{ltb}
use lib.ListN.{length, take, drop, length-append, length-take, length-drop}
use lib.Seq.{take_at}
use borrow.Author.Tests.{ltb-false, lt-ltb, lt-leb, le-leb, eq-eqb, ne_eqb}
use Rattle.runs.specs.Digits.{digits, Bytes}
use Rattle.runs.proofs.Cases.{split}
use Rattle.refusals.specs.declared.Refusal.{Refusal}
use Rattle.refusals.specs.declared.Refusal.TheVariants as R
use Rattle.refusals.specs.Outcomes.{fine, refused, and_then}
use Rattle.refusals.proofs.Outcomes.{then_fine, then_refused}
use Rattle.numbers.specs.Tags.{tag_bytes}
use Rattle.numbers.specs.Lengths.{form_bytes}
use Rattle.numbers.specs.Big.{big_at}
use Rattle.numbers.proofs.Big.{big_canonical}
use Rattle.crc.specs.Crc.{crc_of}
use Rattle.pack.specs.Fixed.{item_cap}
use Rattle.pack.specs.Payloads.{payload_at, inner_at, name_of, Ground, payload, inners_from, whole, wrong}
use Rattle.pack.specs.Items.{one, many, judged, item_at, some_inside, sync_ground, sync_head, with, items_from}
use Rattle.pack.specs.Meaning.{meant_name}
use Rattle.pack.proofs.Turns.{inners_end, inside_none}
use Rattle.pack_layout.specs.Layout.{Element, Chunk, plain, group, Entry, element, elements_bytes, group_bytes, chunks_bytes, entry_for}
use Rattle.pack_layout.specs.Well.{WellElements, WellChunks, chunks_count}
use Rattle.pack_layout.specs.Refused.{Has, NoInner, inner_broken, inner_fixed, inner_too_many, NoItem, item_broken, late_config, early_crc, item_too_many, long_crc, wrong_crc, empty_sync}
use Rattle.pack_layout.proofs.Parts.{part_bytes, inside_back, regrouped}
use Rattle.pack_layout.proofs.Elements.{begins_within, element_back, has_back}
use Rattle.pack_layout.proofs.Accepts.{inner_turn, inside_run, turn_plain, turn_sync}
use Rattle.pack_layout.proofs.Items.{group_laid}
use Rattle.pack_layout.proofs.Broken.{broken_element}
use Rattle.pack_layout.proofs.Wrong.{before_crc_lem}

-- where something is left there is a step left
pub spend : (P : ℕ → Type 0) {n at : ℕ} (k : ℕ) → at < n → n ≤ at + k → ((j : ℕ) → n ≤ at + suc j → P (suc j)) → P k
spend P zero i g next = absurd (omega arith)
spend P (suc k) i g next = next k g

module _ (q : List ℕ) (grounds : Ground) (base : ℕ) (b : Bytes q) where
  -- no payload of a Sync begins at `at`
  inner_refused : (k at used : ℕ) {why : Refusal} → NoInner (drop at q) used why → (at < length q) × (inners_from (suc k) q grounds base at used ≡ refused why (base + at))
  unfolding inners_from inner_at
  inner_refused k at used {why} (inner_broken n) = let r = broken_element q at why b n in (r.0, simp (lt-ltb _ _ r.0, r.1))
  inner_refused k at used (inner_fixed t v rest h low) =
      let r = has_back q at t v rest h in
      let i = begins_within r in
      (i, simp (lt-ltb _ _ i, r.found, le-leb _ _ low))
  inner_refused k at used (inner_too_many t v rest h above full) =
      let r = has_back q at t v rest h in
      let i = begins_within r in
      (i, simp (lt-ltb _ _ i, r.found, lt-leb _ _ above, le-leb _ _ full))

  -- the reader goes past well-formed payloads of a Sync to what is none
  inners_refused : (xs : List Element) (z : List ℕ) (k at used : ℕ) {why : Refusal} → drop at q ≡ elements_bytes xs ++ z → used + length xs ≤ item_cap
      → WellElements xs → length q ≤ at + k → NoInner z (used + length xs) why → inners_from k q grounds base at used ≡ refused why (base + (length q - length z))
  unfolding elements_bytes
  inners_refused [] z k at used {why} e u w g n =
      let same : used + 0 ≡ used = omega arith in
      let here : NoInner (drop at q) used why = subst (λ (l : List ℕ). NoInner l used why) (sym e) (subst (λ (m : ℕ). NoInner z m why) same n) in
      let i = (inner_refused zero at used here).0 in
      let place : base + at ≡ base + (length q - length z) = omega (arith, length-drop at q, ap length e) in
      spend (λ m. inners_from m q grounds base at used ≡ refused why (base + (length q - length z))) k i g
      (λ j f. (inner_refused j at used here).1 ∙ ap (refused why) place)
  inners_refused (x ∷ xs) z k at used {why} e u w g n =
      let r = element_back q at x.tag x.form x.value (elements_bytes xs ++ z) (e ∙ append_assoc (element x.tag x.form x.value) (elements_bytes xs) z)
      (omega (arith, w.0.above)) w.0.below w.0.fits in
      let v = r.from in
      let l = length x.value in
      let same : used + suc (length xs) ≡ used + 1 + length xs = omega arith in
      let i = begins_within r in
      spend (λ m. inners_from m q grounds base at used ≡ refused why (base + (length q - length z))) k i g
      (λ j f. inner_turn q grounds base j at used x.tag v l i r.found w.0.above (omega arith)
      ∙ then_refused (λ ys. fine (payload grounds (base + at) x.tag (base + v) l ∷ ys))
      (inners_refused xs z j (v + l) (used + 1) r.next (omega arith) w.1 (omega (arith, r.later)) (subst (λ (m : ℕ). NoInner z m why) same n)))

module _ (s : List ℕ) (grounds : Ground) (b : Bytes s) where
  -- a Sync of fewer than five bytes
  sync_refused : (k at used v l : ℕ) → at < length s → payload_at s at ≡ whole 2 v l → used < item_cap → l ≤ 4 → items_from (suc k) s grounds at used ≡ refused R.Sync at
  unfolding items_from item_at judged
  sync_refused k at used v l i e u few =
      split (ltb l 4)
      (λ z. simp (lt-ltb _ _ i, e, lt-leb _ _ u, z))
      (λ z. let q = take (l - 4) (drop (v + 4) s) in
      let none : inners_from l q (sync_ground s grounds v) (v + 4) 0 (used + 1) ≡ fine [] = inners_end q (sync_ground s grounds v) (v + 4) 0 (used + 1) l (simp length-take (omega arith)) in
      turn_sync s grounds k at used i v l e (ltb-false _ _ z) u
      ∙ then_refused (λ xs. and_then (items_from k s grounds (v + l) (used + 1 + length xs)) (with (many (sync_head s at v l (length xs)) xs)))
      (then_fine (some_inside at) none ∙ inside_none at [] refl))

  -- a CRC that ends the pack and is not that of the bytes before it
  crc_refused : (k at used : ℕ) (start content v : List ℕ) (h : Has (drop at s) 3 v []) → s ≡ start ++ (content ++ drop at s) → length v ≡ 4
      → (v ≡ digits 256 4 (crc_of (start ++ (content ++ (tag_bytes 3 ++ form_bytes h.form 4)))) → ⊥)
      → (at < length s) × (items_from (suc k) s grounds at used ≡ refused R.Crc at)
  unfolding items_from item_at judged
  crc_refused k at used start content v h is four wrong =
      let r = has_back s at 3 v [] h in
      let from = r.from in
      let t = tag_bytes 3 in
      let f = form_bytes h.form 4 in
      let after = ap length r.next in
      let ends : from + 4 ≡ length s = omega (arith, after, length-drop (from + length v) s, r.ends) in
      let parts : s ≡ start ++ (content ++ (t ++ (f ++ v) ++ [])) =
      is ∙ ap (λ (w : List ℕ). start ++ (content ++ w)) (h.is ∙ ap (λ (n : ℕ). t ++ (form_bytes h.form n ++ v) ++ []) four) in
      let front = before_crc_lem s start content t f v from parts (omega arith) in
      let value : take 4 (drop from s) ≡ v = ap (take 4) r.stands ∙ take_at v [] 4 four in
      let other = ne_eqb (big_at s from 4) (crc_of (take from s))
      (λ good. wrong (sym value ∙ sym (big_canonical s from 4 b (omega arith)) ∙ ap (digits 256 4) (good ∙ ap crc_of front))) in
      let i = begins_within r in
      (i, simp (lt-ltb _ _ i, r.found ∙ ap (whole 3 from) four, eq-eqb _ _ ends, other))

  -- no item begins at `at`
  item_refused : (k at used : ℕ) (start content : List ℕ) {why : Refusal} → NoItem start content (drop at s) used why → s ≡ start ++ (content ++ drop at s)
      → (at < length s) × (items_from (suc k) s grounds at used ≡ refused why at)
  unfolding items_from item_at judged
  item_refused k at used start content {why} (item_broken n) is = let r = broken_element s at why b n in (r.0, simp (lt-ltb _ _ r.0, r.1))
  item_refused k at used start content (late_config v rest h some) is =
      let r = has_back s at 1 v rest h in
      let i = begins_within r in
      (i, simp (lt-ltb _ _ i, r.found))
  item_refused k at used start content (early_crc v rest h some) is =
      let r = has_back s at 3 v rest h in
      let i = begins_within r in
      let after = ap length r.next in
      (i, simp (lt-ltb _ _ i, r.found, ne_eqb (r.from + length v) (length s) (λ z. omega (arith, after, length-drop (r.from + length v) s))))
  item_refused k at used start content (item_too_many t v rest h n1 n3 full) is =
      let r = has_back s at t v rest h in
      let i = begins_within r in
      (i, simp (lt-ltb _ _ i, r.found, ne_eqb t 1 n1, ne_eqb t 3 n3, le-leb _ _ full))
  item_refused k at used start content (long_crc v h other) is =
      let r = has_back s at 3 v [] h in
      let i = begins_within r in
      let after = ap length r.next in
      let ends : r.from + length v ≡ length s = omega (arith, after, length-drop (r.from + length v) s, r.ends) in
      (i, simp (lt-ltb _ _ i, r.found, eq-eqb _ _ ends, ne_eqb (length v) 4 other))
  item_refused k at used start content (wrong_crc v h four wrong) is = crc_refused k at used start content v h is four wrong
  item_refused k at used start content (empty_sync v rest h u few) is =
      let r = has_back s at 2 v rest h in
      let i = begins_within r in
      (i, sync_refused k at used r.from (length v) i r.found u few)

  -- wherever what is left begins
  pub no_item_refused : (k at used : ℕ) (start content w : List ℕ) {why : Refusal} → NoItem start content w used why → s ≡ start ++ (content ++ w) → drop at s ≡ w
      → length s ≤ at + k → items_from k s grounds at used ≡ refused why (length (start ++ content))
  no_item_refused k at used start content w {why} n is e g =
      let here : NoItem start content (drop at s) used why = subst (λ (l : List ℕ). NoItem start content l used why) (sym e) n in
      let whole : s ≡ start ++ (content ++ drop at s) = is ∙ ap (λ (l : List ℕ). start ++ (content ++ l)) (sym e) in
      let i = (item_refused zero at used start content here whole).0 in
      let size = ap length whole ∙ length-append start (content ++ drop at s) in
      let place : at ≡ length (start ++ content) = omega (arith, length-drop at s, size, length-append content (drop at s), length-append start content) in
      spend (λ m. items_from m s grounds at used ≡ refused why (length (start ++ content))) k i g
      (λ j f. (item_refused j at used start content here whole).1 ∙ ap (refused why) place)

  -- a Sync whose payloads go wrong
  pub in_sync_refused : (k at used o d : ℕ) (xs : List Element) (w z rest : List ℕ) {why : Refusal} → WellElements xs → used + 1 + length xs ≤ item_cap
      → Has w 2 (group_bytes o d xs ++ z) rest → NoInner z (used + 1 + length xs) why → drop at s ≡ w → length s ≤ at + k
      → items_from k s grounds at used ≡ refused why (length s - length (z ++ rest))
  in_sync_refused k at used o d xs w z rest {why} well few h n e g =
      let inside = elements_bytes xs ++ z in
      let value = digits 256 2 o ++ (digits 256 2 d ++ inside) in
      let has : Has (drop at s) 2 value rest =
      subst (λ (l : List ℕ). Has l 2 value rest) (sym e) (subst (λ (l : List ℕ). Has w 2 l rest) (regrouped (digits 256 2 o) (digits 256 2 d) (elements_bytes xs) z) h) in
      let r = has_back s at 2 value rest has in
      let v = r.from in
      let l = length value in
      let part = inside_back s v o d inside rest r.stands in
      let q = take (l - 4) (drop (v + 4) s) in
      let stops : inners_from l q (sync_ground s grounds v) (v + 4) 0 (used + 1) ≡ refused why (v + 4 + (length q - length z)) =
      inners_refused q (sync_ground s grounds v) (v + 4) (part_bytes s (v + 4) (l - 4) b) xs z l 0 (used + 1) part.part few well (simp length-take (omega arith)) n in
      let after = ap length r.next in
      let place : v + 4 + (length q - length z) ≡ length s - length (z ++ rest) =
      omega (arith, part.size, ap length part.part, length-append (elements_bytes xs) z, after, length-drop (v + l) s, r.ends, length-append z rest) in
      let i = begins_within r in
      spend (λ m. items_from m s grounds at used ≡ refused why (length s - length (z ++ rest))) k i g
      (λ j f. turn_sync s grounds j at used i v l r.found (omega (arith, part.size)) (omega arith)
      ∙ then_refused (λ ys. and_then (items_from j s grounds (v + l) (used + 1 + length ys)) (with (many (sync_head s at v l (length ys)) ys)))
      (then_refused (some_inside at) stops ∙ ap (refused why) place))

-- under mappings by which each tag means what the entries say
module _ (s : List ℕ) (grounds : Ground) (labels : List (List ℕ)) (ms : List Entry) (names : (t : ℕ) → meant_name labels (name_of grounds.tags t) ≡ entry_for ms t) where
  -- the reader goes past well-formed chunks to what is refused
  module _ (w : List ℕ) (n : ℕ) (few : n ≤ item_cap) {why : Refusal} {place : ℕ}
      (stop : (k at : ℕ) → drop at s ≡ w → length s ≤ at + k → items_from k s grounds at n ≡ refused why place) where
    pub items_refused : (cs : List Chunk) (k at used : ℕ) → drop at s ≡ chunks_bytes cs ++ w → used + chunks_count cs ≡ n → WellChunks cs → length s ≤ at + k
        → items_from k s grounds at used ≡ refused why place
    unfolding chunks_bytes chunks_count
    items_refused [] k at used e count well g = let same : used ≡ n = omega arith in ap (items_from k s grounds at) same ∙ stop k at e g
    items_refused (plain x ∷ cs) k at used e count well g =
        let rest = chunks_bytes cs ++ w in
        let r = element_back s at x.tag x.form x.value rest (e ∙ append_assoc (element x.tag x.form x.value) (chunks_bytes cs) w)
        (omega (arith, well.0.above)) well.0.below well.0.fits in
        let v = r.from in
        let l = length x.value in
        let i = begins_within r in
        spend (λ m. items_from m s grounds at used ≡ refused why place) k i g
        (λ j f. turn_plain s grounds j at used i x.tag v l r.found well.0.above (omega arith)
        ∙ then_refused (with (one (payload grounds at x.tag v l))) (items_refused cs j (v + l) (used + 1) r.next (omega arith) well.1 (omega (arith, r.later))))
    items_refused (group form o d xs ∷ cs) k at used e count well g =
        let value = group_bytes o d xs in
        let rest = chunks_bytes cs ++ w in
        let r = element_back s at 2 form value rest (e ∙ append_assoc (element 2 form value) (chunks_bytes cs) w) (omega arith) (omega arith) well.0.fits in
        let v = r.from in
        let l = length value in
        let i = begins_within r in
        let p = group_laid s grounds labels ms names at v used o d xs rest r.stands (omega arith) well.0 in
        spend (λ m. items_from m s grounds at used ≡ refused why place) k i g
        (λ j f. turn_sync s grounds j at used i v l r.found p.long (omega arith)
        ∙ then_fine (λ ys. and_then (items_from j s grounds (v + l) (used + 1 + length ys)) (with (many (sync_head s at v l (length ys)) ys)))
        (inside_run s grounds at v l used (omega (arith, p.count, well.0.some)) p.reads)
        ∙ then_refused (with (many (sync_head s at v l (length p.found)) p.found))
        (items_refused cs j (v + l) (used + 1 + length p.found) r.next (omega (arith, p.count)) well.1 (omega (arith, r.later))))
