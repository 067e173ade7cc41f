-- Mappings: what a tag means by the reader's index is what the description says, and no tag and no label is mapped twice, in whichever order it is looked at.
use mathlib.Core.Path.{◌≡◌, refl, sym, ap, ap₂, ◌∙◌}
use mathlib.Core.List.{List, [], ◌∷◌, ◌++◌, map, append_assoc}
use mathlib.Core.Bool.{Bool, true, false, cond}
use Prim.Native.Nat.{ℕ, suc, ◌<◌}
use native.Mathlib.Omega.{arith}
use lib.Dec.{leb, eqb}
use lib.ListN.{length, length-append}
use lib.Seq.{get_or_at}
use borrow.Author.Tests.{eqb-false, ne_eqb, lt-leb, leb-false}
use Rattle.runs.specs.Same.{same, among, listed}
use Rattle.runs.proofs.Bools.{neither}
use Rattle.runs.proofs.Cases.{split, absurd_eq}
use Rattle.runs.proofs.Same.{same_true, same_false}
use Rattle.pack.specs.Fixed.{utility_labels}
use Rattle.pack.specs.Said.{label}
use Rattle.pack.specs.Config.{Mapping, tags_of, labels_of, clashes}
use Rattle.pack.specs.Payloads.{name_from, name_of}
use Rattle.pack.specs.Meaning.{meant_name}
use Rattle.pack_layout.specs.Layout.{Entry, entry_for}
use Rattle.pack_layout.specs.Well.{WellEntry, WellEntries}

abbrev pub entry_tags : List Entry → List ℕ
entry_tags ms = map (λ (m : Entry). m.tag) ms

abbrev pub entry_labels : List Entry → List (List ℕ)
entry_labels ms = map (λ (m : Entry). m.stands) ms

-- a mapping without its place
abbrev pub entry_of : Mapping → Entry
entry_of m = record { tag = m.tag; stands = m.stands }

-- what a tag means, from some mapping on
name_from_lem : (before : List (List ℕ)) (ms : List Entry) (t : ℕ) → meant_name (before ++ entry_labels ms) (name_from (length before) (entry_tags ms) t) ≡ entry_for ms t
unfolding name_from entry_for
name_from_lem before [] t = refl
name_from_lem before (m ∷ ms) t =
    split (eqb m.tag t)
    (λ a. simp a (ap label (get_or_at before m.stands (entry_labels ms) [] (length before) refl)))
    (λ a. let n : length (before ++ (m.stands ∷ [])) ≡ suc (length before) = omega (arith, length-append before (m.stands ∷ [])) in
    simp a
    (ap₂ (λ (ls : List (List ℕ)) (i : ℕ). meant_name ls (name_from i (entry_tags ms) t)) (sym (append_assoc before (m.stands ∷ []) (entry_labels ms))) (sym n)
    ∙ name_from_lem (before ++ (m.stands ∷ [])) ms t))

pub name_means : (ms : List Entry) (t : ℕ) → meant_name (entry_labels ms) (name_of (entry_tags ms) t) ≡ entry_for ms t
name_means ms t = name_from_lem [] ms t

-- whether a list has an element among the images of its elements, for tags and for labels
module _ {A : Type 0} (image : Entry → A) (eq : A → A → Bool) (has : A → List A → Bool) (none : (x : A) → has x [] ≡ false)
    (more : (x y : A) (ys : List A) → has x (y ∷ ys) ≡ cond (eq y x) true (has x ys)) where
  -- it has neither the first nor one of the others
  has_not : (x y : A) (ys : List A) → has x (y ∷ ys) ≡ false → (eq y x ≡ false) × (has x ys ≡ false)
  has_not x y ys h =
      split (eq y x)
      (λ a. let z : true ≡ false = sym (more x y ys ∙ ap (λ (b : Bool). cond b true (has x ys)) a) ∙ h in absurd_eq (cc))
      (λ a. (a, sym (more x y ys ∙ ap (λ (b : Bool). cond b true (has x ys)) a) ∙ h))

  has_neither : (x y : A) (ys : List A) → eq y x ≡ false → has x ys ≡ false → has x (y ∷ ys) ≡ false
  has_neither x y ys a h = more x y ys ∙ ap (λ (b : Bool). cond b true (has x ys)) a ∙ h

  has_middle : (x : A) (before : List Entry) (m : Entry) (r : List Entry) → has x (map image (before ++ (m ∷ r))) ≡ false → eq (image m) x ≡ false
  has_middle x [] m r h = (has_not x (image m) (map image r) h).0
  has_middle x (p ∷ before) m r h = has_middle x before m r (has_not x (image p) (map image (before ++ (m ∷ r))) h).1

  has_last : (x : A) (before : List Entry) (m : Entry) → has x (map image before) ≡ false → eq (image m) x ≡ false → has x (map image (before ++ (m ∷ []))) ≡ false
  has_last x [] m h a = has_neither x (image m) [] a (none x)
  has_last x (p ∷ before) m h a =
      let i = has_not x (image p) (map image before) h in has_neither x (image p) (map image (before ++ (m ∷ []))) i.0 (has_last x before m i.1 a)

  -- of a mapping among others: one that comes earlier, and one that comes last
  earlier : (flip : (x y : A) → eq x y ≡ false → eq y x ≡ false) (p : Entry) (before : List Entry) (m : Entry) (r : List Entry)
      → has (image p) (map image (before ++ (m ∷ r))) ≡ false → has (image m) (map image before) ≡ false → has (image m) (image p ∷ map image before) ≡ false
  earlier flip p before m r h g =
      has_neither (image m) (image p) (map image before) (flip (image m) (image p) (has_middle (image p) before m r h)) g

  later : (flip : (x y : A) → eq x y ≡ false → eq y x ≡ false) (p : Entry) (before : List Entry) (m : Entry)
      → has (image p) (map image before) ≡ false → has (image m) (image p ∷ map image before) ≡ false
      → (has (image p) (map image (before ++ (m ∷ []))) ≡ false) × (has (image m) (map image before) ≡ false)
  later flip p before m h g =
      let i = has_not (image m) (image p) (map image before) g in
      (has_last (image p) before m h (flip (image p) (image m) i.0), i.1)

pub flip_number : (x y : ℕ) → eqb x y ≡ false → eqb y x ≡ false
flip_number x y h = ne_eqb y x (λ e. eqb-false x y h (sym e))

flip_list : (x y : List ℕ) → same x y ≡ false → same y x ≡ false
flip_list x y h = split (same y x) (λ a. absurd (same_false x y h (sym (same_true y x a)))) (λ a. a)

-- a mapping among well-formed ones is none of those before it
pub entries_before : (before : List Entry) (m : Entry) (r : List Entry) → WellEntries (before ++ (m ∷ r))
    → WellEntry m × (among m.tag (entry_tags before) ≡ false) × (listed m.stands (entry_labels before) ≡ false) × WellEntries r
unfolding WellEntries among listed
entries_before [] m r w = (w.0, refl, refl, w.3)
entries_before (p ∷ before) m r w =
    let i = entries_before before m r w.3 in (
      i.0,
      earlier (λ (x : Entry). x.tag) eqb among (λ x. refl) (λ x y ys. refl) flip_number p before m r w.1 i.1,
      earlier (λ (x : Entry). x.stands) same listed (λ x. refl) (λ x y ys. refl) flip_list p before m r w.2 i.2,
      i.3,
    )

-- well-formed mappings and one more that is none of them
pub entries_more : (before : List Entry) (m : Entry) → WellEntries before → WellEntry m → among m.tag (entry_tags before) ≡ false
    → listed m.stands (entry_labels before) ≡ false → WellEntries (before ++ (m ∷ []))
unfolding WellEntries among listed
entries_more [] m w h a b = (h, refl, refl, tt)
entries_more (p ∷ before) m w h a b =
    let i = later (λ (x : Entry). x.tag) eqb among (λ x. refl) (λ x y ys. refl) flip_number p before m w.1 a in
    let j = later (λ (x : Entry). x.stands) same listed (λ x. refl) (λ x y ys. refl) flip_list p before m w.2 b in
    (w.0, i.0, j.0, entries_more before m w.3 h i.1 j.1)

-- a mapping that may come after those of `seen`
pub record Apart (seen : List Mapping) (t : ℕ) (stands : List ℕ) : Type 0 where
  pub above : 3 < t
  pub free : listed stands utility_labels ≡ false
  pub new_tag : among t (tags_of seen) ≡ false
  pub new_label : listed stands (labels_of seen) ≡ false

pub apart_of : (seen : List Mapping) (t : ℕ) (stands : List ℕ) → clashes (tags_of seen) (labels_of seen) t stands ≡ false → Apart seen t stands
unfolding clashes
apart_of seen t stands h =
    let i = neither (leb t 3) _ h in
    let j = neither (listed stands utility_labels) _ i.1 in
    let k = neither (among t (tags_of seen)) _ j.1 in
    record { above = leb-false _ _ i.0; free = j.0; new_tag = k.0; new_label = k.1 }

pub apart_run : (seen : List Mapping) (t : ℕ) (stands : List ℕ) → Apart seen t stands → clashes (tags_of seen) (labels_of seen) t stands ≡ false
unfolding clashes
apart_run seen t stands a = let h = a.above in simp (lt-leb _ _ h, a.free, a.new_tag, a.new_label)
