-- What is kept: what the sheet names, all of it, in its order and in its Syncs; and it stays sayable.
use mathlib.Core.Path.{◌≡◌, refl, sym, ap, ap₂, ◌∙◌}
use mathlib.Core.List.{List, [], ◌∷◌, ◌++◌, map, flatten}
use mathlib.Core.Bool.{Bool}
use Prim.Native.Nat.{ℕ, ◌+◌, ◌<◌, ◌≤◌}
use native.Mathlib.Omega.{arith}
use lib.ListN.{length}
use Rattle.runs.proofs.Cases.{split, absurd_eq}
use Rattle.pack.specs.Said.{SaidPayload, SaidItem, single, sync, Said}
use Rattle.pack.proofs.Said.{total}
use Rattle.runs.specs.Those.{those, Each}
use Rattle.scrub_kept.specs.Sheet.{Sheet}
use Rattle.scrub_kept.specs.Kept.{keeps, kept_payloads, kept_sync, kept_items, kept}
use Rattle.scrub_kept.specs.Placed.{Within, outside, inside, Placed, placed_in, grouped, placed, on_sheet, HasPayload, holds_one, named_by}
use Rattle.runs.proofs.Those.{those_pass, those_each, those_few, those_same, those_append, those_map}
use Rattle.scrub_kept.proofs.Sayable.{SayablePayload, SayableItem, Sayable}

-- a group more: it stays if it has a payload
sync_grouped : (o d : ℕ) (xs : List SaidPayload) (r : List SaidItem) (gs : List (List Placed)) → grouped r ≡ those holds_one gs
    → grouped (kept_sync o d xs r) ≡ those holds_one (placed_in (sync o d xs) ∷ gs)
unfolding kept_sync those
sync_grouped o d [] r gs h = h
sync_grouped o d (x ∷ xs) r gs h = ap (λ (t : List (List Placed)). placed_in (sync o d (x ∷ xs)) ∷ t) h

flatten_filled : (gs : List (List Placed)) → flatten (those holds_one gs) ≡ flatten gs
unfolding those flatten
flatten_filled [] = refl
flatten_filled ([] ∷ gs) = flatten_filled gs
flatten_filled ((p ∷ g) ∷ gs) = ap (λ (t : List Placed). p ∷ (g ++ t)) (flatten_filled gs)

flatten_those : (test : Placed → Bool) (gs : List (List Placed)) → flatten (map (those test) gs) ≡ those test (flatten gs)
unfolding flatten those
flatten_those test [] = refl
flatten_those test (g ∷ gs) = ap (λ (t : List Placed). those test g ++ t) (flatten_those test gs) ∙ sym (those_append test g (flatten gs))

module _ (sheet : Sheet) where
  pub kept_grouped : (xs : List SaidItem) → grouped (kept_items sheet xs) ≡ named_by sheet xs
  unfolding kept_items those
  kept_grouped [] = refl
  kept_grouped (single x ∷ r) =
      let i = kept_grouped r in
      split (keeps sheet x.name) (λ e. rw e (ap (λ (t : List (List Placed)). placed_in (single x) ∷ t) i)) (λ e. rw e i)
  kept_grouped (sync o d xs ∷ r) =
      let gs = map (those (on_sheet sheet)) (grouped r) in
      sync_grouped o d (kept_payloads sheet xs) (kept_items sheet r) gs (kept_grouped r)
      ∙ ap (λ (g : List Placed). those holds_one (g ∷ gs))
      (sym (those_map (λ (x : SaidPayload). record { within = inside o d; payload = x }) (on_sheet sheet) xs))

  pub kept_placed : (xs : List SaidItem) → placed (kept_items sheet xs) ≡ those (on_sheet sheet) (placed xs)
  kept_placed xs =
      let gs = map (those (on_sheet sheet)) (grouped xs) in
      ap flatten (kept_grouped xs) ∙ flatten_filled gs ∙ flatten_those (on_sheet sheet) (grouped xs)

  -- no Sync is kept without a payload
  sync_holds : (o d : ℕ) (xs : List SaidPayload) (r : List SaidItem) → Each HasPayload r → Each HasPayload (kept_sync o d xs r)
  unfolding kept_sync
  sync_holds o d [] r h = h
  sync_holds o d (x ∷ xs) r h = (omega arith, h)

  pub kept_hold : (xs : List SaidItem) → Each HasPayload (kept_items sheet xs)
  unfolding kept_items
  kept_hold [] = search
  kept_hold (single x ∷ r) = let i = kept_hold r in split (keeps sheet x.name) (λ e. rw e (tt, i)) (λ e. rw e i)
  kept_hold (sync o d xs ∷ r) = sync_holds o d (kept_payloads sheet xs) (kept_items sheet r) (kept_hold r)

  -- what is kept is kept again
  sync_again : (o d : ℕ) (xs : List SaidPayload) (r : List SaidItem) → kept_payloads sheet xs ≡ xs → kept_items sheet r ≡ r
      → kept_items sheet (kept_sync o d xs r) ≡ kept_sync o d xs r
  unfolding kept_items kept_sync
  sync_again o d [] r g h = h
  sync_again o d (x ∷ xs) r g h = ap₂ (kept_sync o d) g h

  pub kept_again : (xs : List SaidItem) → kept_items sheet (kept_items sheet xs) ≡ kept_items sheet xs
  unfolding kept_items
  kept_again [] = refl
  kept_again (single x ∷ r) =
      let i = kept_again r in
      split (keeps sheet x.name) (λ e. rw (e, e) (ap (λ (t : List SaidItem). single x ∷ t) i)) (λ e. rw e i)
  kept_again (sync o d xs ∷ r) =
      let test : SaidPayload → Bool = λ x. keeps sheet x.name in
      sync_again o d (kept_payloads sheet xs) (kept_items sheet r) (those_same test (kept_payloads sheet xs) (those_pass test xs)) (kept_again r)

  -- no more is kept than there is
  sync_total_lem : (o d : ℕ) (xs : List SaidPayload) (r : List SaidItem) → total (kept_sync o d xs r) ≤ 1 + length xs + total r
  unfolding kept_sync total
  sync_total_lem o d [] r = omega arith
  sync_total_lem o d (x ∷ xs) r = omega arith

  kept_total : (xs : List SaidItem) → total (kept_items sheet xs) ≤ total xs
  unfolding kept_items total
  kept_total [] = omega arith
  kept_total (single x ∷ r) = let i = kept_total r in split (keeps sheet x.name) (λ e. rw e (omega arith)) (λ e. rw e (omega arith))
  kept_total (sync o d xs ∷ r) =
      omega (arith, kept_total r, those_few (λ (x : SaidPayload). keeps sheet x.name) xs, sync_total_lem o d (kept_payloads sheet xs) (kept_items sheet r))

  -- what is kept can be said in a pack with the same labels
  module _ (ls : List (List ℕ)) where
    sync_sayable : (o d : ℕ) (xs : List SaidPayload) (r : List SaidItem) → o < 65536 → d < 65536 → Each (SayablePayload ls) xs → Each (SayableItem ls) r
        → Each (SayableItem ls) (kept_sync o d xs r)
    unfolding kept_sync
    sync_sayable o d [] r a b g h = h
    sync_sayable o d (x ∷ xs) r a b g h = (record { offset = a; duration = b; some = omega arith; all = g }, h)

    items_sayable : (xs : List SaidItem) → Each (SayableItem ls) xs → Each (SayableItem ls) (kept_items sheet xs)
    unfolding kept_items
    items_sayable [] h = h
    items_sayable (single x ∷ r) h =
        let i = items_sayable r h.1 in split (keeps sheet x.name) (λ e. rw e (h.0, i)) (λ e. rw e i)
    items_sayable (sync o d xs ∷ r) h =
        sync_sayable o d (kept_payloads sheet xs) (kept_items sheet r) h.0.offset h.0.duration
        (those_each (λ (x : SaidPayload). keeps sheet x.name) (SayablePayload ls) xs h.0.all) (items_sayable r h.1)

    pub kept_sayable : (k : Said) → Sayable ls k → Sayable ls (kept sheet k)
    unfolding kept
    kept_sayable k s = record {
      few = s.few;
      labels = s.labels;
      offset = s.offset;
      items = items_sayable k.items s.items;
      count = omega (arith, kept_total k.items, s.count);
    }

-- items that hold payloads are told by their groups
withins : List Placed → List Within
withins ps = map (λ (p : Placed). p.within) ps

payloads : List Placed → List SaidPayload
payloads ps = map (λ (p : Placed). p.payload) ps

payloads_of_lem : (o d : ℕ) (xs : List SaidPayload) → payloads (placed_in (sync o d xs)) ≡ xs
unfolding payloads
payloads_of_lem o d [] = refl
payloads_of_lem o d (x ∷ xs) = ap (λ (t : List SaidPayload). x ∷ t) (payloads_of_lem o d xs)

item_of : (x y : SaidItem) → HasPayload x → HasPayload y → placed_in x ≡ placed_in y → x ≡ y
unfolding withins payloads
item_of (single x) (single y) h g e = let l : x ∷ [] ≡ y ∷ [] = ap payloads e in cc
item_of (single x) (sync o d []) h g e = absurd (omega arith)
item_of (single x) (sync o d (y ∷ ys)) h g e =
    let l : outside ∷ [] ≡ inside o d ∷ withins (placed_in (sync o d ys)) = ap withins e in absurd_eq (cc)
item_of (sync o d []) y h g e = absurd (omega arith)
item_of (sync o d (x ∷ xs)) (single y) h g e =
    let l : inside o d ∷ withins (placed_in (sync o d xs)) ≡ outside ∷ [] = ap withins e in absurd_eq (cc)
item_of (sync o d (x ∷ xs)) (sync p c []) h g e = absurd (omega arith)
item_of (sync o d (x ∷ xs)) (sync p c (y ∷ ys)) h g e =
    let l : inside o d ∷ withins (placed_in (sync o d xs)) ≡ inside p c ∷ withins (placed_in (sync p c ys)) = ap withins e in
    let m : x ∷ xs ≡ y ∷ ys = sym (payloads_of_lem o d (x ∷ xs)) ∙ ap payloads e ∙ payloads_of_lem p c (y ∷ ys) in
    cc

groups_tell : (xs ys : List SaidItem) → Each HasPayload xs → Each HasPayload ys → grouped xs ≡ grouped ys → xs ≡ ys
groups_tell [] [] h g e = refl
groups_tell [] (y ∷ ys) h g e = absurd_eq (cc)
groups_tell (x ∷ xs) [] h g e = absurd_eq (cc)
groups_tell (x ∷ xs) (y ∷ ys) h g e =
    ap₂ (λ (a : SaidItem) (t : List SaidItem). a ∷ t) (item_of x y h.0 g.0 (cc)) (groups_tell xs ys h.1 g.1 (cc))

-- so the payloads that the sheet names tell what is kept
pub named_tell : (sheet : Sheet) (xs ys : List SaidItem) → named_by sheet xs ≡ named_by sheet ys → kept_items sheet xs ≡ kept_items sheet ys
named_tell sheet xs ys e =
    groups_tell (kept_items sheet xs) (kept_items sheet ys) (kept_hold sheet xs) (kept_hold sheet ys) (kept_grouped sheet xs ∙ e ∙ sym (kept_grouped sheet ys))
