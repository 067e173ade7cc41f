-- What the reader accepts, said without fuel and without refusals: a derivation for each run of payloads and of items. The reader comes to a result
-- exactly where there is a derivation of it, so that laws about accepted packs go by cases on derivations and see no test.
use mathlib.Core.Path.{◌≡◌, refl, sym, ap, ap₂, subst, ◌∙◌}
use mathlib.Core.List.{List, [], ◌∷◌}
use mathlib.Core.Bool.{Bool, true, false}
use Prim.Native.Nat.{ℕ, zero, suc, ◌+◌, ◌-◌, ◌<◌, ◌≤◌}
use native.Mathlib.Omega.{arith}
use lib.Dec.{ltb, leb, eqb}
use lib.ListN.{length, take, drop, length-take}
use borrow.Author.Tests.{ltb-true, ltb-false, leb-true, leb-false, eqb-true, eqb-false, lt-ltb, le-ltb, lt-leb, eq-eqb}
use Rattle.runs.specs.Digits.{Bytes}
use Rattle.runs.proofs.Cases.{split, absurd_eq}
use Rattle.refusals.specs.declared.Refusal.{Refusal}
use Rattle.refusals.specs.declared.Refusal.TheVariants as R
use Rattle.refusals.specs.Outcomes.{fine, refused, and_then}
use Rattle.numbers.specs.Big.{big_at}
use Rattle.crc.specs.Crc.{crc_of}
use Rattle.pack.specs.Fixed.{item_cap}
use Rattle.pack.specs.Payloads.{payload_at, inner_at, Ground, payload, inners_from, Found, whole}
use Rattle.std.specs.Prelude.{Ok, Err}
use Rattle.pack.specs.declared.Payload.{Payload}
use Rattle.pack.specs.Items.{Part, one, many, Body, Steps, plain, opens, closes, bad, judged, item_at, some_inside, sync_ground, inside_of, sync_head, with, items_from}
use Rattle.pack.proofs.Payloads.{payload_within, seen_inner, seen_item}
use Rattle.pack.proofs.Turns.{inners_end, inners_turn, items_end, items_turn, inside_some}
use Rattle.refusals.proofs.Outcomes.{then_fine, then_was}
use Rattle.pack_layout.proofs.Elements.{payload_laid}

-- the payloads of a part q that stands at `base` of the pack, from `at` on, where `used` items and payloads came before
pub data InnersRead (q : List ℕ) (grounds : Ground) (base : ℕ) : ℕ → ℕ → List Payload → Type 0 where
  none_inside : {at used : ℕ} → length q ≤ at → InnersRead q grounds base at used []
  next_inside : {at used : ℕ} {xs : List Payload} (t v l : ℕ) → payload_at q at ≡ whole t v l → 3 < t → used < item_cap
      → InnersRead q grounds base (v + l) (used + 1) xs → InnersRead q grounds base at used (payload grounds (base + at) t (base + v) l ∷ xs)

module _ (q : List ℕ) (grounds : Ground) (base : ℕ) where
  pub inner_turn : (k at used t v l : ℕ) → at < length q → payload_at q at ≡ whole t v l → 3 < t → used < item_cap
      → inners_from (suc k) q grounds base at used
      ≡ and_then (inners_from k q grounds base (v + l) (used + 1)) (λ xs. fine (payload grounds (base + at) t (base + v) l ∷ xs))
  inner_turn k at used t v l i e h u = inners_turn q grounds base at used k refl i (sym (seen_inner q at used t v l (record { audio = h; there = e }) u))

  pub inners_run : (k : ℕ) {at used : ℕ} {xs : List Payload} → InnersRead q grounds base at used xs → length q ≤ at + k
      → inners_from k q grounds base at used ≡ fine xs
  inners_run k (none_inside {at = at} {used = used} h) g = inners_end q grounds base at used k h
  inners_run zero (next_inside {at = at} t v l e h u r) g = let x = payload_within q at t v l e in absurd (omega arith)
  inners_run (suc k) (next_inside {at = at} {used = used} t v l e h u r) g =
      let x = payload_within q at t v l e in
      inner_turn k at used t v l (omega arith) e h u
      ∙ then_fine (λ xs. fine (payload grounds (base + at) t (base + v) l ∷ xs)) (inners_run k r (omega arith))

  pub inners_of : (k at used : ℕ) (xs : List Payload) → length q ≤ at + k → inners_from k q grounds base at used ≡ fine xs → InnersRead q grounds base at used xs
  unfolding inners_from inner_at
  inners_of zero at used xs g h = let z : [] ≡ xs = cc in subst (InnersRead q grounds base at used) z (none_inside (omega arith))
  inners_of (suc k) at used xs g h =
      split (ltb at (length q))
      (λ a. found (λ m n ys i e. inners_of k m n ys i e) (payload_at q at) refl a)
      (λ a. let i : fine [] ≡ fine xs = simp a at h in
      let z : [] ≡ xs = cc in
      subst (InnersRead q grounds base at used) z (none_inside (ltb-false _ _ a)))
    where
      found : ((m n : ℕ) (ys : List Payload) → length q ≤ m + k → inners_from k q grounds base m n ≡ fine ys → InnersRead q grounds base m n ys)
          → (f : Found) → payload_at q at ≡ f → ltb at (length q) ≡ true → InnersRead q grounds base at used xs
      found ih (Err why) e a = let i : refused why (base + at) ≡ fine xs = simp (a, e) at h in absurd_eq (cc)
      found ih (Ok x) e a =
          let t = x.tag in
          let v = x.value.start in
          let l = x.value.len in
          split (leb t 3)
          (λ b. let i : refused R.Place (base + at) ≡ fine xs = simp (a, e, b) at h in absurd_eq (cc))
          (λ b. split (leb item_cap used)
          (λ c. let i : refused R.Count (base + at) ≡ fine xs = simp (a, e, b, c) at h in absurd_eq (cc))
          (λ c. let x = payload grounds (base + at) t (base + v) l in
          let above : 3 < t = leb-false _ _ b in
          let room : used < item_cap = leb-false _ _ c in
          let next = payload_within q at t v l e in
          let i = then_was (inners_from k q grounds base (v + l) (used + 1)) (λ ys. fine (x ∷ ys)) (sym (inner_turn k at used t v l (ltb-true _ _ a) e above room) ∙ h) in
          let z : x ∷ i.0 ≡ xs = (let y = i.2 in cc) in
          subst (InnersRead q grounds base at used) z (next_inside t v l e above room (ih (v + l) (used + 1) i.0 (omega arith) i.1))))

-- the items of the pack s from `at` on, where `used` items and payloads came before, and whether a CRC stands there
pub data ItemsRead (s : List ℕ) (grounds : Ground) : ℕ → ℕ → List Part → Bool → Type 0 where
  ended : {at used : ℕ} → length s ≤ at → ItemsRead s grounds at used [] false
  closed : {at used : ℕ} (v : ℕ) → payload_at s at ≡ whole 3 v 4 → v + 4 ≡ length s → big_at s v 4 ≡ crc_of (take v s) → ItemsRead s grounds at used [] true
  next_plain : {at used : ℕ} {parts : List Part} {mark : Bool} (t v l : ℕ) → payload_at s at ≡ whole t v l → 3 < t → used < item_cap
      → ItemsRead s grounds (v + l) (used + 1) parts mark → ItemsRead s grounds at used (one (payload grounds at t v l) ∷ parts) mark
  next_sync : {at used : ℕ} {parts : List Part} {mark : Bool} (v l : ℕ) (xs : List Payload) → payload_at s at ≡ whole 2 v l → 4 ≤ l → used < item_cap → 0 < length xs
      → InnersRead (take (l - 4) (drop (v + 4) s)) (sync_ground s grounds v) (v + 4) 0 (used + 1) xs
      → ItemsRead s grounds (v + l) (used + 1 + length xs) parts mark → ItemsRead s grounds at used (many (sync_head s at v l (length xs)) xs ∷ parts) mark

pub some_of : (at : ℕ) (xs ys : List Payload) → some_inside at xs ≡ fine ys → (0 < length ys) × (xs ≡ ys)
unfolding some_inside
some_of at [] ys h = absurd_eq (cc)
some_of at (x ∷ xs) ys h = let z : x ∷ xs ≡ ys = cc in (subst (λ (l : List Payload). 0 < length l) z (omega arith), z)

-- why a payload with the tag t is no item
pub data BadItem (s : List ℕ) (used t v l : ℕ) : Refusal → Type 0 where
  late : t ≡ 1 → BadItem s used t v l R.Place
  early : t ≡ 3 → (v + l ≡ length s → ⊥) → BadItem s used t v l R.Place
  unsized : t ≡ 3 → v + l ≡ length s → (l ≡ 4 → ⊥) → BadItem s used t v l R.Crc
  one_more : (t ≡ 1 → ⊥) → (t ≡ 3 → ⊥) → item_cap ≤ used → BadItem s used t v l R.Count
  small : t ≡ 2 → used < item_cap → l < 4 → BadItem s used t v l R.Sync

-- what a payload with the tag t is judged to be
pub data Judged (s : List ℕ) (used t v l : ℕ) : Steps → Type 0 where
  as_plain : (t ≡ 1 → ⊥) → (t ≡ 2 → ⊥) → (t ≡ 3 → ⊥) → used < item_cap → Judged s used t v l (plain t v l)
  as_sync : t ≡ 2 → used < item_cap → 4 ≤ l → Judged s used t v l (opens v l)
  as_crc : t ≡ 3 → l ≡ 4 → v + l ≡ length s → Judged s used t v l (closes v)
  as_bad : {why : Refusal} → BadItem s used t v l why → Judged s used t v l (bad why)

pub judged_of : (s : List ℕ) (used t v l : ℕ) → Judged s used t v l (judged s used t v l)
unfolding judged
judged_of s used t v l =
    split (eqb t 1)
    (λ n1. rw n1 (as_bad (late (eqb-true _ _ n1))))
    (λ n1. split (eqb t 3)
    (λ n3. split (eqb (v + l) (length s))
    (λ z. split (eqb l 4)
    (λ y. rw (n1, n3, z, y) (as_crc (eqb-true _ _ n3) (eqb-true _ _ y) (eqb-true _ _ z)))
    (λ y. rw (n1, n3, z, y) (as_bad (unsized (eqb-true _ _ n3) (eqb-true _ _ z) (eqb-false _ _ y)))))
    (λ z. rw (n1, n3, z) (as_bad (early (eqb-true _ _ n3) (eqb-false _ _ z)))))
    (λ n3. split (leb item_cap used)
    (λ c. rw (n1, n3, c) (as_bad (one_more (eqb-false _ _ n1) (eqb-false _ _ n3) (leb-true _ _ c))))
    (λ c. split (eqb t 2)
    (λ n2. split (ltb l 4)
    (λ y. rw (n1, n3, c, n2, y) (as_bad (small (eqb-true _ _ n2) (leb-false _ _ c) (ltb-true _ _ y))))
    (λ y. rw (n1, n3, c, n2, y) (as_sync (eqb-true _ _ n2) (leb-false _ _ c) (ltb-false _ _ y))))
    (λ n2. rw (n1, n3, c, n2) (as_plain (eqb-false _ _ n1) (eqb-false _ _ n2) (eqb-false _ _ n3) (leb-false _ _ c))))))

abbrev body_of : List Part → Bool → Body
body_of parts mark = record { parts = parts; crc = mark }

module _ (s : List ℕ) (grounds : Ground) where
  -- what the reader goes on with, item by item
  module _ (k at used : ℕ) (i : at < length s) where
    turn_crc : (v : ℕ) → payload_at s at ≡ whole 3 v 4 → v + 4 ≡ length s → big_at s v 4 ≡ crc_of (take v s)
        → items_from (suc k) s grounds at used ≡ fine (body_of [] true)
    unfolding items_from item_at judged
    turn_crc v e z c = simp (lt-ltb _ _ i, e, eq-eqb _ _ z, eq-eqb _ _ c)

    pub turn_plain : (t v l : ℕ) → payload_at s at ≡ whole t v l → 3 < t → used < item_cap
        → items_from (suc k) s grounds at used ≡ and_then (items_from k s grounds (v + l) (used + 1)) (with (one (payload grounds at t v l)))
    turn_plain t v l e h u = items_turn s grounds at used k refl i (sym (seen_item s at used t v l (record { audio = h; there = e }) u))

    pub turn_sync : (v l : ℕ) → payload_at s at ≡ whole 2 v l → 4 ≤ l → used < item_cap
        → items_from (suc k) s grounds at used
        ≡ and_then (inside_of s grounds at v l used)
        (λ xs. and_then (items_from k s grounds (v + l) (used + 1 + length xs)) (with (many (sync_head s at v l (length xs)) xs)))
    unfolding items_from item_at judged
    turn_sync v l e h u = simp (lt-ltb _ _ i, e, le-ltb _ _ h, lt-leb _ _ u)

  -- what is read inside a Sync
  pub inside_run : (at v l used : ℕ) {xs : List Payload} → 0 < length xs → InnersRead (take (l - 4) (drop (v + 4) s)) (sync_ground s grounds v) (v + 4) 0 (used + 1) xs
      → inside_of s grounds at v l used ≡ fine xs
  inside_run at v l used {xs} n ir =
      then_fine (some_inside at) (inners_run (take (l - 4) (drop (v + 4) s)) (sync_ground s grounds v) (v + 4) l ir (simp length-take (omega arith))) ∙ inside_some at xs (λ z. omega arith)

  pub items_run : (k : ℕ) {at used : ℕ} {parts : List Part} {mark : Bool} → ItemsRead s grounds at used parts mark → length s ≤ at + k
      → items_from k s grounds at used ≡ fine (record { parts = parts; crc = mark })
  items_run k (ended {at = at} {used = used} h) g = items_end s grounds at used k h
  items_run zero (closed {at = at} v e z c) g = let x = payload_within s at 3 v 4 e in absurd (omega arith)
  items_run (suc k) (closed {at = at} {used = used} v e z c) g = let x = payload_within s at 3 v 4 e in turn_crc k at used (omega arith) v e z c
  items_run zero (next_plain {at = at} t v l e h u r) g = let x = payload_within s at t v l e in absurd (omega arith)
  items_run (suc k) (next_plain {at = at} {used = used} t v l e h u r) g =
      let x = payload_within s at t v l e in
      turn_plain k at used (omega arith) t v l e h u ∙ then_fine (with (one (payload grounds at t v l))) (items_run k r (omega arith))
  items_run zero (next_sync {at = at} v l xs e h u some ir r) g = let x = payload_within s at 2 v l e in absurd (omega arith)
  items_run (suc k) (next_sync {at = at} {used = used} v l xs e h u n ir r) g =
      let x = payload_within s at 2 v l e in
      turn_sync k at used (omega arith) v l e h u
      ∙ then_fine (λ ys. and_then (items_from k s grounds (v + l) (used + 1 + length ys)) (with (many (sync_head s at v l (length ys)) ys))) (inside_run at v l used n ir)
      ∙ then_fine (with (many (sync_head s at v l (length xs)) xs)) (items_run k r (omega arith))

  -- an item of an accepted pack, where what follows it is known
  module _ (k at used : ℕ) (b : Body) (bytes : Bytes s) (inside : at < length s) (h : items_from (suc k) s grounds at used ≡ fine b)
      (rest : (m n : ℕ) (c : Body) → at < m → items_from k s grounds m n ≡ fine c → ItemsRead s grounds m n c.parts c.crc) where
    is : {parts : List Part} {mark : Bool} → body_of parts mark ≡ b → ItemsRead s grounds at used parts mark → ItemsRead s grounds at used b.parts b.crc
    is z r = subst (λ (c : Body). ItemsRead s grounds at used c.parts c.crc) z r

    of_plain : (t v l : ℕ) → payload_at s at ≡ whole t v l → 3 < t → used < item_cap → ItemsRead s grounds at used b.parts b.crc
    of_plain t v l e above room =
        let x = payload_within s at t v l e in
        let r = then_was (items_from k s grounds (v + l) (used + 1)) (with (one (payload grounds at t v l))) (sym (turn_plain k at used inside t v l e above room) ∙ h) in
        let w = r.2 in
        is (cc) (next_plain t v l e above room (rest (v + l) (used + 1) r.0 (omega arith) r.1))

    of_sync : (v l : ℕ) → payload_at s at ≡ whole 2 v l → 4 ≤ l → used < item_cap → ItemsRead s grounds at used b.parts b.crc
    of_sync v l e long room =
        let x = payload_within s at 2 v l e in
        let q = take (l - 4) (drop (v + 4) s) in
        let i = then_was (inside_of s grounds at v l used)
        (λ ys. and_then (items_from k s grounds (v + l) (used + 1 + length ys)) (with (many (sync_head s at v l (length ys)) ys)))
        (sym (turn_sync k at used inside v l e long room) ∙ h) in
        let ys = i.0 in
        let j = then_was (inners_from l q (sync_ground s grounds v) (v + 4) 0 (used + 1)) (some_inside at) i.1 in
        let n = some_of at j.0 ys j.2 in
        let inner = inners_of q (sync_ground s grounds v) (v + 4) l 0 (used + 1) ys (simp length-take (omega arith)) (j.1 ∙ ap fine n.1) in
        let r = then_was (items_from k s grounds (v + l) (used + 1 + length ys)) (with (many (sync_head s at v l (length ys)) ys)) i.2 in
        let w = r.2 in
        let z : body_of (many (sync_head s at v l (length ys)) ys ∷ r.0.parts) r.0.crc ≡ b = cc in
        is z
        (next_sync {parts = r.0.parts} {mark = r.0.crc} v l ys e long room n.0 inner (rest (v + l) (used + 1 + length ys) r.0 (omega arith) r.1))

    of_crc : (v : ℕ) → payload_at s at ≡ whole 3 v 4 → v + 4 ≡ length s → ItemsRead s grounds at used b.parts b.crc
    unfolding items_from item_at judged
    of_crc v e z =
        let a = lt-ltb _ _ inside in
        let y = eq-eqb _ _ z in
        split (eqb (big_at s v 4) (crc_of (take v s)))
        (λ c. let i : fine (body_of [] true) ≡ fine b = simp (a, e, y, c) at h in is (cc) (closed v e z (eqb-true _ _ c)))
        (λ c. let i : refused R.Crc at ≡ fine b = simp (a, e, y, c) at h in absurd_eq (cc))

    of_judged : (t v l : ℕ) (step : Steps) → payload_at s at ≡ whole t v l → judged s used t v l ≡ step → Judged s used t v l step
        → ItemsRead s grounds at used b.parts b.crc
    unfolding items_from item_at
    of_judged t v l step e g (as_plain n1 n2 n3 room) = of_plain t v l e (let x = payload_laid s at t v l bytes e in omega (arith, x.low, n1, n2, n3)) room
    of_judged t v l step e g (as_sync is2 room long) = of_sync v l (e ∙ ap (λ (n : ℕ). whole n v l) is2) long room
    of_judged t v l step e g (as_crc is3 four ends) = of_crc v (e ∙ ap₂ (λ (m n : ℕ). whole m v n) is3 four) (ap (λ (n : ℕ). v + n) (sym four) ∙ ends)
    of_judged t v l step e g (as_bad {why} wrong) = let i : refused why at ≡ fine b = simp (lt-ltb _ _ inside, e, g) at h in absurd_eq (cc)

    of_found : (f : Found) → payload_at s at ≡ f → ItemsRead s grounds at used b.parts b.crc
    unfolding items_from item_at
    of_found (Err why) e = let i : refused why at ≡ fine b = simp (lt-ltb _ _ inside, e) at h in absurd_eq (cc)
    of_found (Ok x) e =
        let t = x.tag in
        let v = x.value.start in
        let l = x.value.len in
        of_judged t v l (judged s used t v l) e refl (judged_of s used t v l)

  pub items_of : (k at used : ℕ) (b : Body) → Bytes s → length s ≤ at + k → items_from k s grounds at used ≡ fine b → ItemsRead s grounds at used b.parts b.crc
  unfolding items_from
  items_of zero at used b bytes g h =
      let z : body_of [] false ≡ b = cc in subst (λ (c : Body). ItemsRead s grounds at used c.parts c.crc) z (ended (omega arith))
  items_of (suc k) at used b bytes g h =
      split (ltb at (length s))
      (λ a. of_found k at used b bytes (ltb-true _ _ a) h (λ m n c i e. items_of k m n c bytes (omega arith) e) (payload_at s at) refl)
      (λ a. let i : fine (body_of [] false) ≡ fine b = simp a at h in
      let z : body_of [] false ≡ b = cc in
      subst (λ (c : Body). ItemsRead s grounds at used c.parts c.crc) z (ended (ltb-false _ _ a)))
