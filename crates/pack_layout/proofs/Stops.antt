-- A refusal among the items says what is wrong: where the reader stops, well-formed chunks stand before, and what stands there is wrong.
use mathlib.Core.Path.{◌≡◌, refl, sym, ap, ap₂, subst, ◌∙◌}
use mathlib.Core.List.{List, [], ◌∷◌, ◌++◌, append_assoc}
use mathlib.Core.Bool.{true, false}
use Prim.Native.Nat.{ℕ, zero, suc, ◌+◌, ◌-◌, ◌<◌, ◌≤◌}
use native.Mathlib.Omega.{arith}
use lib.Dec.{ltb, eqb}
use lib.ListN.{length, take, drop, length-take, length-drop}
use lib.Seq.{length-take-le}
use borrow.Author.Tests.{ltb-true, eqb-false, eq-eqb, lt-ltb}
use Rattle.runs.specs.Digits.{Bytes}
use Rattle.runs.proofs.Cases.{split, absurd_eq}
use Rattle.refusals.specs.declared.Refusal.{Refusal}
use Rattle.refusals.specs.declared.Refusal.TheVariants as R
use Rattle.refusals.specs.Outcomes.{Outcome, fine, refused, and_then}
use Rattle.refusals.proofs.Outcomes.{then_was, then_stops, then_kept}
use Rattle.numbers.specs.Big.{big_at}
use Rattle.crc.specs.Crc.{crc_of}
use Rattle.pack.specs.Fixed.{item_cap}
use Rattle.pack.specs.Payloads.{payload_at, Ground, payload, inners_from, Found, whole}
use Rattle.std.specs.Prelude.{Ok, Err}
use Rattle.pack.specs.declared.Payload.{Payload}
use Rattle.pack.specs.Items.{Body, Steps, one, many, judged, item_at, some_inside, sync_ground, inside_of, sync_head, with, items_from}
use Rattle.pack.proofs.Payloads.{payload_within}
use Rattle.pack_layout.specs.Layout.{Chunk, plain, group, element, group_bytes, chunks_bytes}
use Rattle.pack_layout.specs.Well.{WellChunk, WellChunks, chunks_count}
use Rattle.pack_layout.specs.Refused.{item_broken, empty_sync}
use Rattle.pack_layout.proofs.Parts.{part_bytes, left_place}
use Rattle.pack_layout.proofs.Elements.{payload_laid, has_laid}
use Rattle.pack_layout.proofs.Accepts.{InnersRead, none_inside, inners_of, some_of, Judged, as_plain, as_sync, as_crc, as_bad, judged_of, turn_plain, turn_sync}
use Rattle.pack_layout.proofs.Counts.{inners_count}
use Rattle.pack_layout.proofs.Described.{element_described, sync_described}
use Rattle.pack_layout.proofs.Broken.{element_broken}
use Rattle.pack_layout.proofs.StopsInside.{inners_stop}
use Rattle.pack_layout.proofs.Wrong.{NoItemAfter, WrongAt, no_item, in_group, value_length, bad_item, crc_wrong, sync_wrong}

-- the chunks that stand from `at` of s on, before what is wrong
pub record ItemsStop (s : List ℕ) (at used : ℕ) (why : Refusal) (place : ℕ) : Type 0 where
  pub chunks : List Chunk
  pub left : List ℕ
  pub well : WellChunks chunks
  pub stands : drop at s ≡ chunks_bytes chunks ++ left
  pub few : used + chunks_count chunks ≤ item_cap
  pub wrong : WrongAt s left (used + chunks_count chunks) why place

-- a Sync in which nothing was read has no bytes there
none_read : {q : List ℕ} {grounds : Ground} {base at used : ℕ} → InnersRead q grounds base at used [] → length q ≤ at
none_read (none_inside h) = h

-- a refusal after what was read inside a Sync says that it was nothing
none_inside_lem : (at : ℕ) (xs : List Payload) {why : Refusal} {place : ℕ} → some_inside at xs ≡ refused why place → (xs ≡ []) × (R.Sync ≡ why) × (at ≡ place)
unfolding some_inside
none_inside_lem at [] h = (refl, cc, cc)
none_inside_lem at (x ∷ xs) h = absurd_eq (cc)

module _ (s : List ℕ) (grounds : Ground) (b : Bytes s) where
  -- nothing is right from `at` on
  stop_here : {why : Refusal} {place : ℕ} (at used : ℕ) → used ≤ item_cap → WrongAt s (drop at s) used why place → ItemsStop s at used why place
  unfolding chunks_bytes chunks_count
  stop_here {why} {place} at used u w =
      let same : used ≡ used + 0 = omega arith in
      record { chunks = []; left = drop at s; well = tt; stands = refl; few = omega arith; wrong = subst (λ (m : ℕ). WrongAt s (drop at s) m why place) same w }

  -- no item stands there
  stop_item : {why w : Refusal} {place : ℕ} (at used : ℕ) → at < length s → used ≤ item_cap → w ≡ why → at ≡ place → NoItemAfter s (drop at s) used w
      → ItemsStop s at used why place
  stop_item {why} {w} at used i u same there n =
      stop_here at used u (no_item (sym there ∙ left_place s at i) (subst (NoItemAfter s (drop at s) used) same n))

  -- one chunk more before what is wrong
  more_items : {why : Refusal} {place : ℕ} (at used next n : ℕ) (c : Chunk) (bytes : List ℕ) → WellChunk c → drop at s ≡ bytes ++ drop next s
      → ((cs : List Chunk) → chunks_bytes (c ∷ cs) ≡ bytes ++ chunks_bytes cs) → ((cs : List Chunk) → chunks_count (c ∷ cs) ≡ n + chunks_count cs)
      → ItemsStop s next (used + n) why place → ItemsStop s at used why place
  more_items {why} {place} at used next n c bytes w e whole count r =
      let cs = r.chunks in
      let total : used + n + chunks_count cs ≡ used + chunks_count (c ∷ cs) = omega (arith, count cs) in
      record {
        chunks = c ∷ cs;
        left = r.left;
        well = (w, r.well);
        stands =
            e ∙ ap (λ (y : List ℕ). bytes ++ y) r.stands ∙ sym (append_assoc bytes (chunks_bytes cs) r.left)
            ∙ ap (λ (y : List ℕ). y ++ r.left) (sym (whole cs));
        few = omega (arith, r.few, total);
        wrong = subst (λ (m : ℕ). WrongAt s r.left m why place) total r.wrong;
      }

  -- an item where the reader stops, or after which it does
  module _ (k at used : ℕ) {why : Refusal} {place : ℕ} (i : at < length s) (u : used ≤ item_cap) (h : items_from (suc k) s grounds at used ≡ refused why place)
      (rest : (m n : ℕ) → at < m → n ≤ item_cap → items_from k s grounds m n ≡ refused why place → ItemsStop s m n why place) where
    -- after a payload
    stop_plain : (t v l : ℕ) → payload_at s at ≡ whole t v l → 3 < t → used < item_cap → ItemsStop s at used why place
    unfolding chunks_bytes chunks_count
    stop_plain t v l e above room =
        let x = payload_within s at t v l e in
        let d = element_described s at t v l b e above in
        let y = d.one in
        let r = then_kept (items_from k s grounds (v + l) (used + 1)) (λ c. record { parts = one (payload grounds at t v l) ∷ c.parts; crc = c.crc })
        (sym (turn_plain s grounds k at used i t v l e above room) ∙ h) in
        more_items at used (v + l) 1 (plain y) (element y.tag y.form y.value) d.well d.stands (λ cs. refl) (λ cs. refl)
        (rest (v + l) (used + 1) (omega arith) (omega arith) r)

    -- after a Sync
    stop_after : (v l : ℕ) (ps : List Payload) → payload_at s at ≡ whole 2 v l → 4 ≤ l → used < item_cap → 0 < length ps
        → InnersRead (take (l - 4) (drop (v + 4) s)) (sync_ground s grounds v) (v + 4) 0 (used + 1) ps
        → items_from k s grounds (v + l) (used + 1 + length ps) ≡ refused why place → ItemsStop s at used why place
    unfolding chunks_bytes chunks_count
    stop_after v l ps e long room some inner r =
        let x = payload_within s at 2 v l e in
        let d = sync_described s b at v l e long some inner in
        let count = inners_count inner (omega arith) in
        let y : used + 1 + length ps ≡ used + (1 + length d.elements) = omega (arith, d.count) in
        more_items at used (v + l) (1 + length d.elements) (group d.form d.offset d.duration d.elements)
        (element 2 d.form (group_bytes d.offset d.duration d.elements)) d.well d.stands (λ cs. refl) (λ cs. refl)
        (subst (λ (n : ℕ). ItemsStop s (v + l) n why place) y (rest (v + l) (used + 1 + length ps) (omega arith) count r))

    -- a Sync in which nothing was read
    stop_empty : (v l : ℕ) (ps : List Payload) → payload_at s at ≡ whole 2 v l → used < item_cap
        → inners_from l (take (l - 4) (drop (v + 4) s)) (sync_ground s grounds v) (v + 4) 0 (used + 1) ≡ fine ps → some_inside at ps ≡ refused why place → ItemsStop s at used why place
    stop_empty v l ps e room inner none =
        let q = take (l - 4) (drop (v + 4) s) in
        let x = payload_within s at 2 v l e in
        let n = none_inside_lem at ps none in
        let size : length q ≡ l - 4 = length-take-le (l - 4) (drop (v + 4) s) (simp length-drop (omega arith)) in
        let empty = none_read (inners_of q (sync_ground s grounds v) (v + 4) l 0 (used + 1) [] (simp length-take (omega arith)) (inner ∙ ap fine n.0)) in
        let few : length (take l (drop v s)) ≤ 4 = omega (arith, value_length s b at 2 v l e, size, empty) in
        stop_item at used i u n.1 n.2 (λ start content is first. empty_sync _ _ (has_laid s at 2 v l b e) room few)

    -- among the payloads of a Sync
    stop_inside : (v l : ℕ) → payload_at s at ≡ whole 2 v l → 4 ≤ l → used < item_cap → inside_of s grounds at v l used ≡ refused why place → ItemsStop s at used why place
    stop_inside v l e long room r =
        let q = take (l - 4) (drop (v + 4) s) in
        then_stops (inners_from l q (sync_ground s grounds v) (v + 4) 0 (used + 1)) (some_inside at) r
        (λ z. let w = inners_stop q (sync_ground s grounds v) (v + 4) (part_bytes s (v + 4) (l - 4) b) l 0 (used + 1) (simp length-take (omega arith)) (omega arith) z in
        stop_here at used u (in_group (sync_wrong s b at used v l e long w)))
        (λ ps inner none. stop_empty v l ps e room inner none)

    -- inside a Sync, or after it
    stop_sync : (v l : ℕ) → payload_at s at ≡ whole 2 v l → 4 ≤ l → used < item_cap → ItemsStop s at used why place
    stop_sync v l e long room =
        let q = take (l - 4) (drop (v + 4) s) in
        then_stops (inside_of s grounds at v l used)
        (λ xs. and_then (items_from k s grounds (v + l) (used + 1 + length xs)) (with (many (sync_head s at v l (length xs)) xs)))
        (sym (turn_sync s grounds k at used i v l e long room) ∙ h)
        (λ z. stop_inside v l e long room z)
        (λ ps inside z. let j = then_was (inners_from l q (sync_ground s grounds v) (v + 4) 0 (used + 1)) (some_inside at) inside in
        let n = some_of at j.0 ps j.2 in
        let inner = inners_of q (sync_ground s grounds v) (v + 4) l 0 (used + 1) ps (simp length-take (omega arith)) (j.1 ∙ ap fine n.1) in
        let c = many (sync_head s at v l (length ps)) ps in
        stop_after v l ps e long room n.0 inner
        (then_kept (items_from k s grounds (v + l) (used + 1 + length ps)) (λ body. record { parts = c ∷ body.parts; crc = body.crc }) z))

    -- at a CRC of four bytes that ends the pack
    stop_crc : (v : ℕ) → payload_at s at ≡ whole 3 v 4 → v + 4 ≡ length s → ItemsStop s at used why place
    unfolding items_from item_at judged
    stop_crc v e ends =
        let a = lt-ltb _ _ i in
        let y = eq-eqb _ _ ends in
        split (eqb (big_at s v 4) (crc_of (take v s)))
        (λ c. let j : ◌≡◌ {A = Outcome Body} (fine (record { parts = []; crc = true })) (refused why place) = simp (a, e, y, c) at h in absurd_eq (cc))
        (λ c. let j : ◌≡◌ {A = Outcome Body} (refused R.Crc at) (refused why place) = simp (a, e, y, c) at h in
        stop_item at used i u (cc) (cc) (crc_wrong s b at used v e ends (eqb-false _ _ c)))

    -- by what the payload there is judged to be
    stop_judged : (t v l : ℕ) (step : Steps) → payload_at s at ≡ whole t v l → judged s used t v l ≡ step → Judged s used t v l step → ItemsStop s at used why place
    unfolding items_from item_at
    stop_judged t v l step e g (as_plain n1 n2 n3 room) = stop_plain t v l e (let x = payload_laid s at t v l b e in omega (arith, x.low, n1, n2, n3)) room
    stop_judged t v l step e g (as_sync is2 room long) = stop_sync v l (e ∙ ap (λ (n : ℕ). whole n v l) is2) long room
    stop_judged t v l step e g (as_crc is3 four ends) = stop_crc v (e ∙ ap₂ (λ (m n : ℕ). whole m v n) is3 four) (ap (λ (n : ℕ). v + n) (sym four) ∙ ends)
    stop_judged t v l step e g (as_bad {why = w} bad) =
        let j : ◌≡◌ {A = Outcome Body} (refused w at) (refused why place) = simp (lt-ltb _ _ i, e, g) at h in
        stop_item at used i u (cc) (cc) (bad_item s b at used t v l e bad)

    stop_found : (f : Found) → payload_at s at ≡ f → ItemsStop s at used why place
    unfolding items_from item_at
    stop_found (Err w) e =
        let j : ◌≡◌ {A = Outcome Body} (refused w at) (refused why place) = simp (lt-ltb _ _ i, e) at h in
        stop_item at used i u (cc) (cc) (λ start content is first. item_broken (element_broken s at w b i e))
    stop_found (Ok x) e =
        let t = x.tag in
        let v = x.value.start in
        let l = x.value.len in
        stop_judged t v l (judged s used t v l) e refl (judged_of s used t v l)

  -- the items from `at` on, with enough steps left
  pub items_stop : (k at used : ℕ) {why : Refusal} {place : ℕ} → length s ≤ at + k → used ≤ item_cap → items_from k s grounds at used ≡ refused why place
      → ItemsStop s at used why place
  unfolding items_from
  items_stop zero at used g u h = absurd_eq (cc)
  items_stop (suc k) at used {why} {place} g u h =
      split (ltb at (length s))
      (λ a. stop_found k at used (ltb-true _ _ a) u h (λ m n i c e. items_stop k m n (omega arith) c e) (payload_at s at) refl)
      (λ a. let j : ◌≡◌ {A = Outcome Body} (fine (record { parts = []; crc = false })) (refused why place) = simp a at h in absurd_eq (cc))
