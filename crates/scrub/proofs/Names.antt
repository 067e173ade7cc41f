-- Marked slots and the names of kept payloads: what the marks say, and the tags that the plan goes by.
use mathlib.Core.Path.{◌≡◌, refl, sym, ap, ◌∙◌}
use mathlib.Core.List.{List, [], ◌∷◌, ◌++◌, map}
use mathlib.Core.Bool.{Bool, true, false, cond}
use Prim.Native.Nat.{ℕ, zero, suc, ◌<◌}
use native.Mathlib.Omega.{arith}
use lib.Dec.{eqb}
use lib.ListN.{length, get_or}
use borrow.Author.Tests.{eqb-true, eqb-false}
use Rattle.runs.specs.Same.{same, among, listed}
use Rattle.runs.proofs.Cases.{split}
use Rattle.runs.proofs.Same.{same_refl, same_true}
use Rattle.pack.specs.declared.Name.{Name}
use Rattle.pack.specs.declared.Name.TheVariants as N
use Rattle.pack.specs.declared.Payload.{Payload}
use Rattle.pack.specs.declared.Item.{Item}
use Rattle.pack.specs.declared.Item.TheVariants as I
use Rattle.pack.specs.Said.{SaidName, label, number, SaidPayload, SaidItem, names}
use Rattle.pack.specs.Items.{Part, one, many}
use Rattle.pack.specs.Slots.{slots}
use Rattle.pack.specs.Meaning.{meant_name, meant_payload, meant_part}
use Rattle.pack.proofs.Slots.{PartItems}
use Rattle.pack_layout.specs.Layout.{Entry}
use Rattle.runs.specs.Those.{those, Each}
use Rattle.scrub_kept.specs.Sheet.{Sheet}
use Rattle.scrub_kept.specs.Kept.{keeps, kept_payloads, kept_sync, kept_items}
use Rattle.scrub_kept.specs.Written.{numbers_in, labels_in, tag_for}
use Rattle.scrub_kept.proofs.Listed.{never, listed_here, listed_more}
use Rattle.scrub_kept.proofs.Labels.{LabelsApart}
use Rattle.std.specs.Prelude.{Option, Some, None}
use Rattle.scrub_names.specs.Marks.{mark_name, mark_item, marks_of, kept_numbers, kept_labels}
use Rattle.scrub_plan.specs.Planned.{written, tag_of, item_plan, Planned, joined, planned}
use Rattle.scrub.proofs.Flat.{tag_item, plan_by, new_tag}

-- a label is one of so many mappings
abbrev pub Below : ℕ → Name → Type 0
Below n (N.Label i) = i < n
Below n (N.Number t) = Unit

abbrev pub MarkBelow : ℕ → Option Name → Type 0
MarkBelow n None = Unit
MarkBelow n (Some x) = Below n x

abbrev pub ItemBelow : ℕ → Item → Type 0
ItemBelow n (I.Single x) = Below n x.name
ItemBelow n (I.Inner x) = Below n x.name
ItemBelow n (I.Sync h) = Unit

-- LABELS APART

listed_at : (ls : List (List ℕ)) (j : ℕ) → j < length ls → listed (get_or ls j []) ls ≡ true
listed_at [] j h = absurd (omega arith)
listed_at (l ∷ ls) zero h = listed_here l ls
listed_at (l ∷ ls) (suc j) h = listed_more (get_or ls j []) l ls (listed_at ls j (omega arith))

labels_one : (ls : List (List ℕ)) (i j : ℕ) → LabelsApart ls → i < length ls → j < length ls → get_or ls i [] ≡ get_or ls j [] → i ≡ j
labels_one [] i j a h g e = absurd (omega arith)
labels_one (l ∷ ls) zero zero a h g e = refl
labels_one (l ∷ ls) zero (suc j) a h g e = never (sym (listed_at ls j (omega arith)) ∙ ap (λ (x : List ℕ). listed x ls) (sym e) ∙ a.0)
labels_one (l ∷ ls) (suc i) zero a h g e = never (sym (listed_at ls i (omega arith)) ∙ ap (λ (x : List ℕ). listed x ls) e ∙ a.0)
labels_one (l ∷ ls) (suc i) (suc j) a h g e = ap suc (labels_one ls i j a.1 (omega arith) (omega arith) e)

module _ (labels : List (List ℕ)) (apart : LabelsApart labels) where
  abbrev pub at : ℕ → List ℕ
  at i = get_or labels i []

  pub same_at : (i j : ℕ) → i < length labels → j < length labels → same (at i) (at j) ≡ eqb i j
  same_at i j h g =
      split (eqb i j)
      (λ e. rw e (ap (λ (k : ℕ). same (at i) (at k)) (sym (eqb-true i j e)) ∙ same_refl (at i)))
      (λ e. rw e (split (same (at i) (at j)) (λ f. absurd (eqb-false i j e (labels_one labels i j apart h g (same_true (at i) (at j) f)))) (λ f. f)))

  listed_among : (i : ℕ) (seen : List ℕ) → i < length labels → Each (λ (j : ℕ). j < length labels) seen → listed (at i) (map at seen) ≡ among i seen
  unfolding listed among
  listed_among i [] h g = refl
  listed_among i (j ∷ seen) h g = split (eqb j i) (λ e. rw (same_at j i g.0 h, e)) (λ e. rw (same_at j i g.0 h, e) (listed_among i seen h g.1))

-- WHAT MARKS SAY

unfoldable pub saying : List (List ℕ) → List (Option Name) → List SaidName
saying labels [] = []
saying labels (None ∷ r) = saying labels r
saying labels (Some (N.Number t) ∷ r) = number t ∷ saying labels r
saying labels (Some (N.Label i) ∷ r) = label (get_or labels i []) ∷ saying labels r

pub saying_numbers : (labels : List (List ℕ)) (ms : List (Option Name)) → numbers_in (saying labels ms) ≡ kept_numbers ms
unfolding saying numbers_in kept_numbers
saying_numbers labels [] = refl
saying_numbers labels (None ∷ r) = saying_numbers labels r
saying_numbers labels (Some (N.Number t) ∷ r) = ap (λ (l : List ℕ). t ∷ l) (saying_numbers labels r)
saying_numbers labels (Some (N.Label i) ∷ r) = saying_numbers labels r

pub saying_labels : (labels : List (List ℕ)) (apart : LabelsApart labels) (seen : List ℕ) (ms : List (Option Name)) → Each (λ (j : ℕ). j < length labels) seen
    → Each (MarkBelow (length labels)) ms → labels_in (map (at labels apart) seen) (saying labels ms) ≡ map (at labels apart) (kept_labels seen ms)
unfolding saying labels_in kept_labels
saying_labels labels apart seen [] h g = refl
saying_labels labels apart seen (None ∷ r) h g = saying_labels labels apart seen r h g.1
saying_labels labels apart seen (Some (N.Number t) ∷ r) h g = saying_labels labels apart seen r h g.1
saying_labels labels apart seen (Some (N.Label i) ∷ r) h g =
    split (among i seen)
    (λ e. rw (listed_among labels apart i seen g.0 h, e) (saying_labels labels apart seen r h g.1))
    (λ e. rw (listed_among labels apart i seen g.0 h, e) (ap (λ (l : List (List ℕ)). get_or labels i [] ∷ l) (saying_labels labels apart (i ∷ seen) r (g.0, h) g.1)))

-- labels in order are labels of marks
pub order_below : (n : ℕ) (seen : List ℕ) (ms : List (Option Name)) → Each (MarkBelow n) ms → Each (λ (j : ℕ). j < n) (kept_labels seen ms)
unfolding kept_labels
order_below n seen [] h = tt
order_below n seen (None ∷ r) h = order_below n seen r h.1
order_below n seen (Some (N.Number t) ∷ r) h = order_below n seen r h.1
order_below n seen (Some (N.Label i) ∷ r) h =
    split (among i seen) (λ e. rw e (order_below n seen r h.1)) (λ e. rw e (h.0, order_below n (i ∷ seen) r h.1))

pub sync_names : (o d : ℕ) (ys : List SaidPayload) (r : List SaidItem) → names (kept_sync o d ys r) ≡ map (λ (x : SaidPayload). x.name) ys ++ names r
unfolding kept_sync names
sync_names o d [] r = refl
sync_names o d (y ∷ ys) r = refl

-- MARKS OF A READING

module _ (s : List ℕ) (labels : List (List ℕ)) (sh : Sheet) (flags : List Bool)
    (right : (i : ℕ) → i < length labels → get_or flags i false ≡ keeps sh (label (get_or labels i []))) where
  mark_says : (n : Name) (r : List (Option Name)) → Below (length labels) n
      → saying labels (mark_name flags sh n ∷ r) ≡ cond (keeps sh (meant_name labels n)) (meant_name labels n ∷ saying labels r) (saying labels r)
  unfolding saying mark_name
  mark_says (N.Label i) r h =
      rw (right i h) (split (keeps sh (label (get_or labels i []))) (λ e. rw e) (λ e. rw e))
  mark_says (N.Number t) r h = split (keeps sh (number t)) (λ e. rw e) (λ e. rw e)

  mark_below : (n : Name) → Below (length labels) n → MarkBelow (length labels) (mark_name flags sh n)
  unfolding mark_name
  mark_below (N.Label i) h = split (get_or flags i false) (λ e. rw e h) (λ e. rw e tt)
  mark_below (N.Number t) h = split (keeps sh (number t)) (λ e. rw e tt) (λ e. rw e tt)

  abbrev inners : List Payload → List Item
  inners xs = map (λ (x : Payload). I.Inner x) xs

  inners_say : (xs : List Payload) (rest : List Item) → Each (λ (x : Payload). Below (length labels) x.name) xs
      → saying labels (marks_of flags sh (inners xs ++ rest))
      ≡ map (λ (x : SaidPayload). x.name) (kept_payloads sh (map (meant_payload s labels) xs)) ++ saying labels (marks_of flags sh rest)
  unfolding mark_item those
  inners_say [] rest h = refl
  inners_say (x ∷ xs) rest h =
      let i = inners_say xs rest h.1 in
      mark_says x.name (marks_of flags sh (inners xs ++ rest)) h.0
      ∙ split (keeps sh (meant_name labels x.name))
      (λ e. rw e (ap (λ (l : List SaidName). meant_name labels x.name ∷ l) i))
      (λ e. rw e i)

  -- the marks say the names of what is kept
  pub marks_say : (ps : List Part) → Each (PartItems (ItemBelow (length labels))) ps
      → saying labels (marks_of flags sh (slots ps)) ≡ names (kept_items sh (map (meant_part s labels) ps))
  unfolding slots mark_item kept_items names saying
  marks_say [] h = refl
  marks_say (one x ∷ ps) h =
      let i = marks_say ps h.1 in
      mark_says x.name (marks_of flags sh (slots ps)) h.0
      ∙ split (keeps sh (meant_name labels x.name))
      (λ e. rw e (ap (λ (l : List SaidName). meant_name labels x.name ∷ l) i))
      (λ e. rw e i)
  marks_say (many hd xs ∷ ps) h =
      let ys = kept_payloads sh (map (meant_payload s labels) xs) in
      inners_say xs (slots ps) h.0.1
      ∙ ap (λ (l : List SaidName). map (λ (x : SaidPayload). x.name) ys ++ l) (marks_say ps h.1)
      ∙ sym (sync_names hd.offset hd.duration ys (kept_items sh (map (meant_part s labels) ps)))

  item_below : (it : Item) → ItemBelow (length labels) it → MarkBelow (length labels) (mark_item flags sh it)
  unfolding mark_item
  item_below (I.Single x) h = mark_below x.name h
  item_below (I.Inner x) h = mark_below x.name h
  item_below (I.Sync hd) h = tt

  pub marks_below : (xs : List Item) → Each (ItemBelow (length labels)) xs → Each (MarkBelow (length labels)) (marks_of flags sh xs)
  marks_below [] h = h
  marks_below (x ∷ xs) h = (item_below x h.0, marks_below xs h.1)

  -- TAGS OF MARKS

  module _ (ms : List Entry) (index : List ℕ) (given : (i : ℕ) → i < length labels → get_or index i 0 ≡ tag_for ms (label (get_or labels i []))) where
    mark_tag : (n : Name) → Below (length labels) n → tag_of index (mark_name flags sh n) ≡ new_tag s labels sh ms n
    unfolding mark_name tag_for
    mark_tag (N.Label i) h =
        rw (right i h) (split (keeps sh (label (get_or labels i []))) (λ e. rw e (ap written (given i h))) (λ e. rw e))
    mark_tag (N.Number t) h = split (keeps sh (number t)) (λ e. rw e) (λ e. rw e)

    item_tag : (it : Item) → ItemBelow (length labels) it → tag_of index (mark_item flags sh it) ≡ tag_item (new_tag s labels sh ms) it
    unfolding mark_item
    item_tag (I.Single x) h = mark_tag x.name h
    item_tag (I.Inner x) h = mark_tag x.name h
    item_tag (I.Sync hd) h = refl

    -- the plan goes by the new tags of names
    pub slots_planned : (xs : List Item) (rest : List (Option Name)) → Each (ItemBelow (length labels)) xs
        → planned index xs (marks_of flags sh xs ++ rest) ≡ plan_by (new_tag s labels sh ms) xs
    unfolding planned plan_by
    slots_planned [] rest h = refl
    slots_planned (x ∷ xs) rest h =
        let p = plan_by (new_tag s labels sh ms) xs in
        ap (λ (q : Planned). joined (item_plan x (tag_of index (mark_item flags sh x)) q.inner) q) (slots_planned xs rest h.1)
        ∙ ap (λ (t : Option ℕ). joined (item_plan x t p.inner) p) (item_tag x h.0)
