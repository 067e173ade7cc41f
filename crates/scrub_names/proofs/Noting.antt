-- What each mark more adds to what is noted.
use mathlib.Core.Path.{◌≡◌, refl, sym, ap, subst, ◌∙◌}
use mathlib.Core.List.{List, [], ◌∷◌, ◌++◌, map}
use mathlib.Core.Bool.{Bool, true, false, ◌||◌}
use mathlib.Core.Logic.{◌⊎◌, inl, inr}
use Rattle.std.specs.Prelude.{Option, Some, None, IfSome}
use Prim.Native.Nat.{ℕ, ◌+◌, ◌-◌, ◌<◌, ◌≤◌}
use native.Mathlib.Omega.{arith}
use lib.ListN.{length, take, get_or, set, replicate, length-append, length-map, length-set, get_or-replicate}
use lib.Seq.{get_or-set_same, get_or-set_other, length-take-le, take_all}
use lib.Dec.{eqb}
use borrow.Author.Tests.{ne_eqb, eqb-true, eqb-false}
use Rattle.runs.specs.Same.{among}
use Rattle.runs.proofs.Bools.{or_false, or_true}
use Rattle.runs.proofs.Cases.{split}
use Rattle.pack.specs.declared.Name.{Name}
use Rattle.pack.specs.declared.Name.TheVariants as N
use Rattle.pack.specs.declared.Item.{Item}
use Rattle.pack.specs.declared.Item.TheVariants as I
use Rattle.pack.specs.Fixed.{item_cap}
use Rattle.pack.specs.Slots.{padded}
use Rattle.pack.specs.Fits.{NameFits, ItemFits}
use Rattle.pack.proofs.Padded.{set_padded}
use Rattle.scrub_kept.specs.Sheet.{Sheet}
use Rattle.scrub_names.specs.declared.Names.{Names}
use Rattle.scrub_names.specs.Marks.{stays, mark_name, mark_item, kept_numbers, kept_labels, Noted}
use Rattle.scrub_names.proofs.Padded.{map_next}
use Rattle.scrub_names.proofs.Growing.{among_last, numbers_append, numbers_same, labels_same, labels_seen, labels_new, marks_few}

-- a label that stays is one of the mappings
name_fits : (flags : List Bool) (sheet : Sheet) (n : Name) → NameFits n → IfSome (mark_name flags sheet n) NameFits
unfolding mark_name
name_fits flags sheet n h = split (stays flags sheet n) (λ e. rw e h) (λ e. rw e tt)

pub mark_fits : (flags : List Bool) (sheet : Sheet) (x : Item) → ItemFits x → IfSome (mark_item flags sheet x) NameFits
unfolding mark_item
mark_fits flags sheet (I.Single x) h = name_fits flags sheet x.name h
mark_fits flags sheet (I.Inner x) h = name_fits flags sheet x.name h
mark_fits flags sheet (I.Sync x) h = tt

pub label_low : (m : Option Name) (k : ℕ) → m ≡ Some (N.Label k) → IfSome m NameFits → k < 32
label_low m k e h = subst (λ (x : Option Name). IfSome x NameFits) e h

-- nothing is noted yet
pub none_noted : Noted [] (record { marks = replicate 64 None; order = replicate 64 0; labels = 0; listed = replicate 32 false; taken = replicate 64 false })
unfolding kept_numbers kept_labels among
none_noted = record {
  marks = refl;
  order = refl;
  labels = refl;
  listed = λ n h. get_or-replicate 32 n false false h;
  long = refl;
  taken = λ n h. get_or-replicate 64 n false false h;
  wide = refl;
}

outside : (t k : ℕ) → (t < 64) ⊎ (128 ≤ t) → k < 64 → t ≡ 64 + k → ⊥
outside t k (inl h) g e = omega arith
outside t k (inr h) g e = omega arith

module _ {ms : List (Option Name)} {r : Names} (n : Noted ms r) {at : ℕ} (here : length ms ≡ at) (room : at < 64) (m : Option Name) where
  marks_more : set r.marks at m ≡ padded item_cap None (ms ++ (m ∷ []))
  marks_more = ap (λ (x : List (Option Name)). set x at m) n.marks ∙ set_padded item_cap None ms at here m room

  -- what is noted then, if the labels are the same
  abbrev with_taken : List Bool → Names
  with_taken tk = record { marks = set r.marks at m; order = r.order; labels = r.labels; listed = r.listed; taken = tk }

  same_labels : (tk : List Bool) → kept_labels [] (ms ++ (m ∷ [])) ≡ kept_labels [] ms → length tk ≡ 64
      → ((k : ℕ) → k < 64 → get_or tk k false ≡ among (64 + k) (kept_numbers (ms ++ (m ∷ [])))) → Noted (ms ++ (m ∷ [])) (with_taken tk)
  same_labels tk e l t = record {
    marks = marks_more;
    order = n.order ∙ ap (padded item_cap 0) (sym e);
    labels = n.labels ∙ ap length (sym e);
    listed = λ k h. n.listed k h ∙ ap (among k) (sym e);
    long = n.long;
    taken = t;
    wide = l;
  }

  -- a mark that adds no number either
  same_both : kept_labels [] (ms ++ (m ∷ [])) ≡ kept_labels [] ms → kept_numbers (m ∷ []) ≡ [] → Noted (ms ++ (m ∷ [])) (with_taken r.taken)
  same_both e f = same_labels r.taken e n.wide (λ k h. n.taken k h ∙ ap (among (64 + k)) (sym (numbers_same ms m f)))

  pub note_gone : m ≡ None → Noted (ms ++ (m ∷ [])) (with_taken r.taken)
  unfolding kept_labels kept_numbers
  note_gone e = same_both (labels_same ms m (λ s q. rw e)) (rw e)

  module _ (t : ℕ) (e : m ≡ Some (N.Number t)) where
    number_adds : (k : ℕ) → among k (kept_numbers (ms ++ (m ∷ []))) ≡ among k (kept_numbers ms) || eqb t k
    unfolding kept_numbers
    number_adds k =
        ap (among k) (numbers_append ms (m ∷ []) ∙ ap (λ (x : Option Name). kept_numbers ms ++ kept_numbers (x ∷ [])) e) ∙ among_last k t (kept_numbers ms)

    number_labels : kept_labels [] (ms ++ (m ∷ [])) ≡ kept_labels [] ms
    unfolding kept_labels
    number_labels = labels_same ms m (λ s q. rw e)

    -- a number that no label can get
    pub note_outside : (t < 64) ⊎ (128 ≤ t) → Noted (ms ++ (m ∷ [])) (with_taken r.taken)
    note_outside o =
        let apart : (k : ℕ) → k < 64 → eqb t (64 + k) ≡ false = λ k h. ne_eqb t (64 + k) (outside t k o h) in
        same_labels r.taken number_labels n.wide
        (λ k h. n.taken k h ∙ sym (or_false (among (64 + k) (kept_numbers ms)) (eqb t (64 + k)) (apart k h)) ∙ sym (number_adds (64 + k)))

    -- a number from 64 to 127
    pub note_inside : 64 ≤ t → t < 128 → Noted (ms ++ (m ∷ [])) (with_taken (set r.taken (t - 64) true))
    note_inside low high =
        let z = n.wide in
        same_labels (set r.taken (t - 64) true) number_labels (length-set r.taken (t - 64) true ∙ n.wide)
        (λ k h. split (eqb t (64 + k))
        (λ q. let p : t ≡ 64 + k = eqb-true t (64 + k) q in
        let j : k ≡ t - 64 = omega arith in
        ap (λ (i : ℕ). get_or (set r.taken (t - 64) true) i false) j ∙ get_or-set_same r.taken (t - 64) true false (omega arith)
        ∙ sym (number_adds (64 + k) ∙ or_true (among (64 + k) (kept_numbers ms)) (eqb t (64 + k)) q))
        (λ q. let p = eqb-false t (64 + k) q in
        get_or-set_other r.taken (t - 64) k true false (λ j. p (omega arith)) ∙ n.taken k h
        ∙ sym (or_false (among (64 + k) (kept_numbers ms)) (eqb t (64 + k)) q) ∙ sym (number_adds (64 + k))))

  module _ (k : ℕ) (e : m ≡ Some (N.Label k)) (low : k < 32) where
    -- a label that was seen
    pub note_seen : get_or r.listed k false ≡ true → Noted (ms ++ (m ∷ [])) (with_taken r.taken)
    unfolding kept_numbers
    note_seen h = same_both (ap (λ (x : Option Name). kept_labels [] (ms ++ (x ∷ []))) e ∙ labels_seen ms k (sym (n.listed k low) ∙ h)) (rw e)

    -- a label that is new
    pub note_new : get_or r.listed k false ≡ false
        → Noted (ms ++ (m ∷ [])) (record { marks = set r.marks at m; order = set r.order r.labels k; labels = r.labels + 1; listed = set r.listed k true; taken = r.taken })
    unfolding kept_numbers
    note_new h =
        let old = kept_labels [] ms in
        let few = marks_few [] ms in
        let z = n.long in
        let nl = n.labels in
        let a : kept_labels [] (ms ++ (m ∷ [])) ≡ old ++ (k ∷ []) =
        ap (λ (x : Option Name). kept_labels [] (ms ++ (x ∷ []))) e ∙ labels_new ms k (sym (n.listed k low) ∙ h) in
        let b : kept_numbers (ms ++ (m ∷ [])) ≡ kept_numbers ms = numbers_same ms m (rw e) in
        record {
          marks = marks_more;
          order =
              ap (λ (x : List ℕ). set x r.labels k) n.order ∙ set_padded item_cap 0 old r.labels (sym nl) k (omega arith) ∙ ap (padded item_cap 0) (sym a);
          labels = omega (arith, ap length a, length-append old (k ∷ []));
          listed = λ j g. split (eqb k j)
              (λ q. let p : k ≡ j = eqb-true k j q in
              ap (λ (i : ℕ). get_or (set r.listed k true) i false) (sym p) ∙ get_or-set_same r.listed k true false (omega arith)
              ∙ sym (ap (among j) a ∙ among_last j k old ∙ or_true (among j old) (eqb k j) q))
              (λ q. get_or-set_other r.listed k j true false (λ p. eqb-false k j q (sym p)) ∙ n.listed j g ∙ sym (or_false (among j old) (eqb k j) q)
              ∙ sym (ap (among j) a ∙ among_last j k old));
          long = length-set r.listed k true ∙ n.long;
          taken = λ j g. n.taken j g ∙ ap (among (64 + j)) (sym b);
          wide = n.wide;
        }

-- the loop after i of the items xs
module _ (f : Item → Option Name) (xs : List Item) (i : ℕ) {r : Names} (n : Noted (map f (take i xs)) r) where
  pub noting_here : i ≤ length xs → length (map f (take i xs)) ≡ i
  noting_here h = length-map (take i xs) f ∙ length-take-le i xs h

  pub noting_few : i ≤ length xs → r.labels ≤ i
  noting_few h = let m = marks_few [] (map f (take i xs)) in let e = noting_here h in let l = n.labels in omega arith

  pub noting_ends : length xs ≤ i → Noted (map f xs) r
  noting_ends h = subst (λ (l : List Item). Noted (map f l) r) (take_all i xs h) n

pub noting_on : (f : Item → Option Name) (xs : List Item) (i : ℕ) (d : Item) {r : Names} (m : Option Name) → i < length xs → m ≡ f (get_or xs i d)
    → Noted (map f (take i xs) ++ (m ∷ [])) r → Noted (map f (take (i + 1) xs)) r
noting_on f xs i d {r} m h e n = subst (λ (l : List (Option Name)). Noted l r) (ap (λ (x : Option Name). map f (take i xs) ++ (x ∷ [])) e ∙ sym (map_next f xs i d h)) n
