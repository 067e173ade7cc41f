-- What the two loops of a reading keep: what is left, and that the slots hold the items so far.
use Prim.Native.Nat.{ℕ, ◌+◌, ◌-◌, ◌<◌, ◌≤◌}
use mathlib.Core.Path.{◌≡◌, refl, sym, ap, ap₂, ◌∙◌, subst}
use mathlib.Core.Bool.{Bool}
use mathlib.Core.List.{List, [], ◌∷◌, ◌++◌, map, append-nil, map-append}
use native.Mathlib.Numerals.{add-one}
use native.Mathlib.Omega.{arith}
use lib.ListN.{length, take, drop, set, replicate, length-append, length-map}
use Rattle.std.specs.Prelude.{Result, Ok, Err}
use Rattle.std.proofs.lemmas.List.Edits.{sets}
use Rattle.runs.proofs.Cases.{absurd_eq}
use Rattle.refusals.specs.declared.Refusal.{Refusal}
use Rattle.refusals.specs.declared.Refused.{Refused}
use Rattle.refusals.specs.Refusals.{refused_at}
use Rattle.refusals.specs.Outcomes.{Outcome, fine, refused, Answer}
use Rattle.refusals.proofs.Lent.{answers, counts}
use Rattle.pack.specs.Payloads.{Ground, ground_of, payload, inner_at, whole, wrong}
use Rattle.pack.specs.Items.{Part, one, many, Body, item_at, items_from, plain, opens, sync_total, sync_ground, sync_head}
use Rattle.pack.specs.Slots.{slots, blank, padded}
use Rattle.pack.specs.declared.Payload.{Payload}
use Rattle.pack.specs.declared.Head.{Head}
use Rattle.pack.specs.declared.Item.{Item}
use Rattle.pack.specs.declared.Item.TheVariants as I
use Rattle.pack.proofs.Slots.{slots_count}
use Rattle.pack.proofs.Inside.{WithinSync, SomeWithin, inside_begins, inside_on, inside_ends, inside_stops, inside_done, inside_refused}
use Rattle.pack.proofs.Coming.{Coming, coming_begins, coming_plain, sync_on, inside_part, inside_enough}
use Rattle.pack_read.specs.Steps.{InsideRead, outline, BodyTold}
use Rattle.pack_read.specs.declared.Outline.{Outline}
use Rattle.pack_read.proofs.Slots.{inner_slot, slots_more, sets_padded, sets_snoc, sets_before}

-- the payloads of a Sync so far stand in the array from slot `used` on
pub record Filling (q : List ℕ) (grounds : Ground) (base fuel used : ℕ) (before held : List Item) (n at : ℕ) : Type 0 where
  pub xs : List Payload
  pub inside : WithinSync q grounds base fuel used xs n at
  pub full : held ≡ sets before used (map inner_slot xs)

pub filling_begins : (q : List ℕ) (grounds : Ground) (base fuel used : ℕ) (before : List Item) → used ≤ 64 → length q ≤ fuel → Filling q grounds base fuel used before before used 0
filling_begins q grounds base fuel used before h g = record { xs = []; inside = inside_begins q grounds base fuel used h g; full = refl }

pub filling_on : {q : List ℕ} {grounds : Ground} {base fuel used : ℕ} {before held : List Item} {n at t v l : ℕ} {x : Payload} → Filling q grounds base fuel used before held n at
    → at < length q → inner_at q at n ≡ whole t v l → x ≡ payload grounds (base + at) t (base + v) l → Filling q grounds base fuel used before (set held n (I.Inner x)) (n + 1) (v + l)
filling_on {q} {grounds} {base} {fuel} {used} {before} {held} {n} {at} {t} {v} {l} {x} g h e i = record {
  xs = g.xs ++ (payload grounds (base + at) t (base + v) l ∷ []);
  inside = inside_on g.inside h e;
  full =
      let m : used + length (map inner_slot g.xs) ≡ n = omega (arith, length-map g.xs inner_slot, g.inside.long) in
      ap₂ (λ (a : List Item) (y : Payload). set a n (inner_slot y)) g.full i
      ∙ sets_snoc before used (map inner_slot g.xs) n (inner_slot (payload grounds (base + at) t (base + v) l)) m
      ∙ ap (sets before used) (sym (map-append inner_slot g.xs (payload grounds (base + at) t (base + v) l ∷ [])));
}

-- what is told when the loop over an inside is through, and where it stops
module _ {q : List ℕ} {grounds : Ground} {base used : ℕ} {before held : List Item} {n at : ℕ} (g : (fuel : ℕ) → length q ≤ fuel → Filling q grounds base fuel used before held n at) where
  some : (fuel : ℕ) → length q ≤ fuel → SomeWithin q grounds base fuel used n at
  some fuel h = record { xs = (g fuel h).xs; inside = (g fuel h).inside }

  pub filling_ends : length q ≤ at → InsideRead q grounds base used (Ok n) before held
  filling_ends z = record {
    inside = inside_done some z;
    full = λ fuel xs h e.
        let w = g fuel h in
        let i = inside_ends w.inside z in
        let same : w.xs ≡ xs = cc in
        w.full ∙ ap (λ (ys : List Payload). sets before used (map inner_slot ys)) same;
  }

  pub filling_stops : at < length q → {why : Refusal} → inner_at q at n ≡ wrong why → {r : Answer} → r ≡ Err (refused_at why (base + at)) → InsideRead q grounds base used r before held
  filling_stops h e i = record {
    inside = inside_refused some h e i;
    full = λ fuel xs l d. let o = inside_stops (g fuel l).inside h e in absurd_eq (cc);
  }

-- an inside that is read by the sum of the total outside and the Sync's own offset is read on the ground of the Sync
pub on_ground : (s : List ℕ) (v : ℕ) (tags : List ℕ) {q : List ℕ} {base used inner outer total : ℕ} {r : Answer} {before after : List Item} → inner ≡ sync_total s outer v → outer ≡ total
    → InsideRead q (ground_of tags inner) base used r before after → InsideRead q (sync_ground s (ground_of tags total) v) base used r before after
on_ground s v tags {q} {base} {used} {r = r} {before} {after} sum same =
    subst (λ (n : ℕ). InsideRead q (ground_of tags n) base used r before after) (sum ∙ ap (λ (n : ℕ). sync_total s n v) same)

-- the items so far stand in the array
pub record Listing (s : List ℕ) (grounds : Ground) (from : ℕ) (held : List Item) (n at : ℕ) : Type 0 where
  pub parts : List Part
  pub coming : Coming s grounds from parts n at
  pub full : held ≡ padded 64 blank (slots parts)

pub listing_begins : (s : List ℕ) (grounds : Ground) (from : ℕ) {held : List Item} → held ≡ replicate 64 blank → Listing s grounds from held 0 from
unfolding slots
listing_begins s grounds from e = record { parts = []; coming = coming_begins s grounds from; full = e }

module _ {s : List ℕ} {grounds : Ground} {from : ℕ} {held : List Item} {n at : ℕ} (g : Listing s grounds from held n at) where
  -- how many slots are used
  used : length (slots g.parts) ≡ n
  used = slots_count g.parts ∙ g.coming.long

  -- one part more, stored in its slots
  listing_on : (x : Part) {m next : ℕ} {after : List Item} → Coming s grounds from (g.parts ++ (x ∷ [])) m next → after ≡ sets held n (slots (x ∷ [])) → Listing s grounds from after m next
  listing_on x coming put = record {
    parts = g.parts ++ (x ∷ []);
    coming = coming;
    full =
        let long = sym (slots_count (g.parts ++ (x ∷ []))) ∙ ap length (slots_more g.parts x) ∙ length-append (slots g.parts) (slots (x ∷ [])) in
        put
        ∙ ap (λ (a : List Item). sets a n (slots (x ∷ []))) g.full
        ∙ sets_padded 64 blank (slots g.parts) n (slots (x ∷ [])) used (omega (arith, long, used, coming.long, coming.room))
        ∙ ap (padded 64 blank) (sym (slots_more g.parts x));
  }

  module _ (h : at < length s) where
    pub listing_plain : {t v l : ℕ} {x : Payload} → item_at s at n ≡ plain t v l → x ≡ payload grounds at t v l → Listing s grounds from (set held n (I.Single x)) (n + 1) (v + l)
    unfolding slots
    listing_plain {t} {v} {l} e i =
        listing_on (one (payload grounds at t v l)) (coming_plain g.coming h e) (ap (λ (y : Payload). set held n (I.Single y)) i)

    -- a Sync, by what is told of its inside, as the code cuts it
    pub listing_sync : {v l k : ℕ} (e : item_at s at n ≡ opens v l) {r : Answer} {inner : List Item}
        (cut : InsideRead (take (v + l - (v + 4)) (drop (v + 4) s)) (sync_ground s grounds v) (v + 4) (n + 1) r held inner) → r ≡ Ok k → (k ≡ n + 1 → ⊥) → {x : Head}
        → x ≡ sync_head s at v l (k - (n + 1)) → Listing s grounds from (set inner n (I.Sync x)) k (v + l)
    unfolding slots
    listing_sync {v} {l} {k} e {r} {inner} cut d u y =
        let o = sync_on g.coming h e cut.inside d u in
        let xs = o.0 in
        let some : k - (n + 1) ≡ length xs = omega (arith, o.2) in
        let head = sync_head s at v l (length xs) in
        let reads = subst (λ (q : List ℕ). InsideRead q (sync_ground s grounds v) (v + 4) (n + 1) r held inner) (inside_part s v l) cut in
        listing_on (many head xs) o.3
        (ap₂ (λ (a : List Item) (z : Head). set a n (I.Sync z)) (reads.full l xs (inside_enough s at n v l e) o.1) (y ∙ ap (sync_head s at v l) some)
        ∙ sets_before held (n + 1) n (map inner_slot xs) (I.Sync head) (omega arith)
        ∙ ap₂ (λ (z : ℕ) (ws : List Item). sets (set held n (I.Sync head)) z ws) (add-one n) (sym (append-nil (map inner_slot xs))))

-- the items are refused
pub tells_refused : {o : Outcome Body} {why : Refusal} {p : ℕ} {r : Result Outline Refused} (offset : ℕ) (items : List Item) → o ≡ refused why p → r ≡ Err (refused_at why p) → BodyTold offset o r items
tells_refused offset items e q = record { told = answers (outline offset) e q; full = λ b h. absurd_eq (cc) }

-- the items are read
pub tells_done : {s : List ℕ} {grounds : Ground} {from n at : ℕ} (items : List Item) (g : Listing s grounds from items n at) (offset : ℕ) {c : Bool}
    → items_from (length s) s grounds from 0 ≡ fine (record { parts = g.parts; crc = c })
    → BodyTold offset (items_from (length s) s grounds from 0) (Ok (record { count = n; offset = offset; crc = c })) items
tells_done items g offset {c} e = record {
  told = counts (outline offset) e (ap (λ (m : ℕ). Ok (record { count = m; offset = offset; crc = c })) (sym g.coming.long));
  full = λ b h.
      let read : Body = record { parts = g.parts; crc = c } in
      let same : read ≡ b = cc in
      g.full ∙ ap (λ (x : Body). padded 64 blank (slots x.parts)) same;
}
