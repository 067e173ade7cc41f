-- The labels and the numbers among names: each name is there, no label is there twice, labels stand in order of first appearance, and there are
-- no more of them than a pack that has them all maps.
use mathlib.Core.Path.{◌≡◌, refl, sym, ap, subst, ◌∙◌}
use mathlib.Core.List.{List, [], ◌∷◌, ◌++◌, Memᴰ}
use mathlib.Core.Bool.{true, false, cond, not}
use mathlib.Core.Logic.{◌⊎◌, inl, inr}
use Prim.Native.Nat.{ℕ, ◌+◌, ◌<◌, ◌≤◌}
use native.Mathlib.Omega.{arith}
use lib.ListN.{length}
use Rattle.runs.specs.Same.{same, among, listed}
use Rattle.runs.proofs.Cases.{split}
use Rattle.runs.proofs.Same.{same_true}
use Rattle.pack.specs.Said.{SaidName, label, number}
use Rattle.runs.specs.Those.{those, Each}
use Rattle.scrub_kept.specs.Written.{numbers_in, labels_in}
use Rattle.runs.proofs.Those.{each_map, those_few}
use Rattle.scrub_kept.proofs.Listed.{never, among_here, among_more, listed_here, listed_more, listed_mem, those_fewer}
use Rattle.scrub_kept.proofs.Firsts.{Silent, Firsts, silent_last, named_last}

-- in order of first appearance
labels_first : Firsts same listed label labels_in
unfolding labels_in listed
labels_first = record { has_none = λ x. refl; has_more = λ x y ys. refl; ends = λ seen. refl; first = λ seen x r. refl; each = told }
  where
    told : (n : SaidName) → ((l : List ℕ) × (n ≡ label l)) ⊎ Silent labels_in n
    told (label l) = inl (l, refl)
    told (number t) = inr (λ seen r. refl)

pub label_last : (ns : List SaidName) (l : List ℕ)
    → labels_in [] (ns ++ (label l ∷ [])) ≡ cond (listed l (labels_in [] ns)) (labels_in [] ns) (labels_in [] ns ++ (l ∷ []))
label_last ns l = named_last labels_first l ns

pub number_last : (ns : List SaidName) (t : ℕ) → labels_in [] (ns ++ (number t ∷ [])) ≡ labels_in [] ns
unfolding labels_in
number_last ns t = silent_last labels_first (number t) (λ seen r. refl) ns

-- a name is among the numbers, or among the labels unless it was seen before
abbrev Shown : List ℕ → List (List ℕ) → List (List ℕ) → SaidName → Type 0
Shown ts seen ls (number t) = among t ts ≡ true
Shown ts seen ls (label l) = listed l seen ≡ false → listed l ls ≡ true

shown_number : (t : ℕ) (ts : List ℕ) (seen ls : List (List ℕ)) (n : SaidName) → Shown ts seen ls n → Shown (t ∷ ts) seen ls n
shown_number t ts seen ls (number u) h = among_more u t ts h
shown_number t ts seen ls (label l) h = h

shown_label : (l : List ℕ) (ts : List ℕ) (seen ls : List (List ℕ)) (n : SaidName) → Shown ts (l ∷ seen) ls n → Shown ts seen (l ∷ ls) n
unfolding listed
shown_label l ts seen ls (number u) h = h
shown_label l ts seen ls (label m) h = λ g. split (same l m) (λ e. rw e) (λ e. rw e (h (rw e g)))

names_shown : (seen : List (List ℕ)) (ns : List SaidName) → Each (Shown (numbers_in ns) seen (labels_in seen ns)) ns
unfolding numbers_in labels_in
names_shown seen [] = search
names_shown seen (number t ∷ r) =
    (among_here t (numbers_in r), each_map (shown_number t (numbers_in r) seen (labels_in seen r)) r (names_shown seen r))
names_shown seen (label l ∷ r) =
    split (listed l seen)
    (λ e. subst (λ (ls : List (List ℕ)). Each (Shown (numbers_in r) seen ls) (label l ∷ r)) (let q : labels_in seen r ≡ labels_in seen (label l ∷ r) = rw e refl in q) (
      (λ f. never (sym e ∙ f)),
      names_shown seen r,
    ))
    (λ e. subst (λ (ls : List (List ℕ)). Each (Shown (numbers_in r) seen ls) (label l ∷ r)) (let q : l ∷ labels_in (l ∷ seen) r ≡ labels_in seen (label l ∷ r) = rw e refl in q) (
      (λ f. listed_here l (labels_in (l ∷ seen) r)),
      each_map (shown_label l (numbers_in r) seen (labels_in (l ∷ seen) r)) r (names_shown (l ∷ seen) r),
    ))

-- a name is among the numbers or among the labels
abbrev pub Named : List ℕ → List (List ℕ) → SaidName → Type 0
Named ts ls (number t) = among t ts ≡ true
Named ts ls (label l) = listed l ls ≡ true

named : (ts : List ℕ) (ls : List (List ℕ)) (n : SaidName) → Shown ts [] ls n → Named ts ls n
unfolding listed
named ts ls (number t) h = h
named ts ls (label l) h = h refl

pub names_named : (ns : List SaidName) → Each (Named (numbers_in ns) (labels_in [] ns)) ns
names_named ns = each_map (named (numbers_in ns) (labels_in [] ns)) ns (names_shown [] ns)

-- at most as many numbers and labels as names
pub names_few : (seen : List (List ℕ)) (ns : List SaidName) → length (numbers_in ns) + length (labels_in seen ns) ≤ length ns
unfolding numbers_in labels_in
names_few seen [] = omega arith
names_few seen (number t ∷ r) = let i = names_few seen r in omega arith
names_few seen (label l ∷ r) =
    split (listed l seen) (λ e. let i = names_few seen r in rw e (omega arith)) (λ e. let i = names_few (l ∷ seen) r in rw e (omega arith))

-- a label that was seen is not there again
pub labels_new : (l : List ℕ) (seen : List (List ℕ)) (ns : List SaidName) → listed l seen ≡ true → listed l (labels_in seen ns) ≡ false
unfolding labels_in listed
labels_new l seen [] h = refl
labels_new l seen (number t ∷ r) h = labels_new l seen r h
labels_new l seen (label m ∷ r) h =
    split (listed m seen)
    (λ e. rw e (labels_new l seen r h))
    (λ e. split (same m l)
    (λ f. never (sym h ∙ ap (λ (x : List ℕ). listed x seen) (sym (same_true m l f)) ∙ e))
    (λ f. rw (e, f) (labels_new l (m ∷ seen) r (listed_more l m seen h))))

-- no label is among those after it
abbrev pub LabelsApart : List (List ℕ) → Type 0
LabelsApart [] = Unit
LabelsApart (l ∷ ls) = (listed l ls ≡ false) × LabelsApart ls

pub labels_apart : (seen : List (List ℕ)) (ns : List SaidName) → LabelsApart (labels_in seen ns)
unfolding labels_in
labels_apart seen [] = search
labels_apart seen (number t ∷ r) = labels_apart seen r
labels_apart seen (label l ∷ r) =
    split (listed l seen)
    (λ e. rw e (labels_apart seen r))
    (λ e. rw e (labels_new l (l ∷ seen) r (listed_here l seen), labels_apart (l ∷ seen) r))

-- each label is that of a name
pub labels_only : (seen : List (List ℕ)) (ns : List SaidName) → Each (λ (l : List ℕ). Memᴰ (label l) ns) (labels_in seen ns)
unfolding labels_in
labels_only seen [] = search
labels_only seen (number t ∷ r) =
    let more : (l : List ℕ) → Memᴰ (label l) r → Memᴰ (label l) (number t ∷ r) = λ l h. Memᴰ.tail h in
    each_map more (labels_in seen r) (labels_only seen r)
labels_only seen (label m ∷ r) =
    let more : (l : List ℕ) → Memᴰ (label l) r → Memᴰ (label l) (label m ∷ r) = λ l h. Memᴰ.tail h in
    split (listed m seen)
    (λ e. rw e (each_map more (labels_in seen r) (labels_only seen r)))
    (λ e. rw e (Memᴰ.head refl, each_map more (labels_in (m ∷ seen) r) (labels_only (m ∷ seen) r)))

-- how many of some labels were not seen
abbrev unseen : List (List ℕ) → List (List ℕ) → ℕ
unseen seen ls = length (those (λ (x : List ℕ). not (listed x seen)) ls)

unseen_one : (l : List ℕ) (seen ls : List (List ℕ)) → listed l seen ≡ false → listed l ls ≡ true → unseen (l ∷ seen) ls < unseen seen ls
unseen_one l seen ls n h =
    let less : (x : List ℕ) → not (listed x (l ∷ seen)) ≡ true → not (listed x seen) ≡ true =
    λ x e. split (listed x seen) (λ f. never (sym e ∙ ap not (listed_more x l seen f))) (λ f. ap not f) in
    those_fewer (λ (x : List ℕ). not (listed x seen)) (λ (x : List ℕ). not (listed x (l ∷ seen))) less ls (listed_mem l ls h) (ap not n) (ap not (listed_here l seen))

-- a name that is a number, or one of these labels
abbrev pub Known : List (List ℕ) → SaidName → Type 0
Known ls (number t) = Unit
Known ls (label l) = listed l ls ≡ true

labels_unseen : (ls seen : List (List ℕ)) (ns : List SaidName) → Each (Known ls) ns → length (labels_in seen ns) ≤ unseen seen ls
unfolding labels_in
labels_unseen ls seen [] h = omega arith
labels_unseen ls seen (number t ∷ r) h = labels_unseen ls seen r h.1
labels_unseen ls seen (label l ∷ r) h =
    split (listed l seen)
    (λ e. rw e (labels_unseen ls seen r h.1))
    (λ e. let i = labels_unseen ls (l ∷ seen) r h.1 in
    let j = unseen_one l seen ls e h.0 in
    rw e (omega arith))

-- no more labels than there are to choose from
pub labels_few : (ls : List (List ℕ)) (ns : List SaidName) → Each (Known ls) ns → length (labels_in [] ns) ≤ length ls
labels_few ls ns h = omega (arith, labels_unseen ls [] ns h, those_few (λ (x : List ℕ). not (listed x [])) ls)
