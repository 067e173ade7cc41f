-- The mappings that are written: each label gets a tag of its own that is no number name, and under these mappings the tag that a name is
-- written with means that name.
use mathlib.Core.Path.{◌≡◌, refl, sym, ap, subst, ◌∙◌}
use mathlib.Core.List.Memᴰ
use mathlib.Core.List.Pairwise
use mathlib.Core.List.{List, [], ◌∷◌, ◌++◌, Memᴰ, Nodup, Nodup-cons}
use mathlib.Core.Logic.{∥∥₁_elim}
use mathlib.Core.HLevel.{⊥_prop}
use mathlib.Core.Bool.{true, false, ◌||◌}
use Prim.Native.Nat.{ℕ, suc, ◌+◌, ◌<◌, ◌≤◌}
use native.Mathlib.Omega.{arith}
use lib.ListN.{length}
use lib.Dec.{eqb}
use borrow.Author.Tests.{eq-eqb, eqb-true}
use Rattle.runs.specs.Same.{same, among, listed}
use Rattle.runs.proofs.Cases.{split, absurd_eq}
use Rattle.runs.proofs.Same.{same_true, among_neither}
use Rattle.pack.specs.Said.{label, number}
use Rattle.pack_layout.specs.Layout.{Entry, entry_for}
use Rattle.pack_layout.proofs.Entries.{entry_tags, entry_labels}
use Rattle.runs.specs.Those.{Each}
use Rattle.scrub_kept.specs.Written.{free, assigned, tag_for}
use Rattle.runs.proofs.Those.{each_map}
use Rattle.scrub_kept.proofs.Listed.{never, or_moved, among_here, among_more}
use Rattle.scrub_kept.proofs.Free.{free_new, free_range, free_smallest}

-- no number is among those after it
abbrev pub Apart : List ℕ → Type 0
Apart [] = Unit
Apart (t ∷ ts) = (among t ts ≡ false) × Apart ts

mem_among : (t : ℕ) (ts : List ℕ) → Memᴰ t ts → among t ts ≡ true
mem_among t [] m = absurd (Memᴰ.not-nil m)
mem_among t (x ∷ ts) (Memᴰ.head e) = subst (λ (y : ℕ). among t (y ∷ ts) ≡ true) e (among_here t ts)
mem_among t (x ∷ ts) (Memᴰ.tail m) = among_more t x ts (mem_among t ts m)

pub apart_nodup : (ts : List ℕ) → Apart ts → Nodup ts
apart_nodup [] a = Pairwise.nil
apart_nodup (t ∷ ts) a = Nodup-cons.1 (λ m. ∥∥₁_elim m ⊥_prop (λ d. never (sym (mem_among t ts d) ∙ a.0)), apart_nodup ts a.1)

-- the labels are mapped in their order
pub assigned_labels : (taken : List ℕ) (ls : List (List ℕ)) → entry_labels (assigned taken ls) ≡ ls
unfolding assigned
assigned_labels taken [] = refl
assigned_labels taken (l ∷ ls) = ap (λ (r : List (List ℕ)). l ∷ r) (assigned_labels (free taken ∷ taken) ls)

pub assigned_length : (taken : List ℕ) (ls : List (List ℕ)) → length (assigned taken ls) ≡ length ls
unfolding assigned
assigned_length taken [] = refl
assigned_length taken (l ∷ ls) = ap suc (assigned_length (free taken ∷ taken) ls)

-- no tag is a number that was taken
pub assigned_new : (t : ℕ) (taken : List ℕ) (ls : List (List ℕ)) → among t taken ≡ true → among t (entry_tags (assigned taken ls)) ≡ false
unfolding assigned among
assigned_new t taken [] h = refl
assigned_new t taken (l ∷ ls) h =
    split (eqb (free taken) t)
    (λ e. never (sym h ∙ ap (λ (n : ℕ). among n taken) (sym (eqb-true (free taken) t e)) ∙ free_new taken))
    (λ e. rw e (assigned_new t (free taken ∷ taken) ls (among_more t (free taken) taken h)))

pub assigned_free : (taken : List ℕ) (ls : List (List ℕ)) → Each (λ (m : Entry). among m.tag taken ≡ false) (assigned taken ls)
unfolding assigned
assigned_free taken [] = search
assigned_free taken (l ∷ ls) =
    let seen = free taken ∷ taken in
    let less : (m : Entry) → among m.tag seen ≡ false → among m.tag taken ≡ false = λ m h. (among_neither m.tag (free taken) taken h).1 in
    (free_new taken, each_map less (assigned seen ls) (assigned_free seen ls))

-- no tag is assigned twice
pub assigned_apart : (taken : List ℕ) (ls : List (List ℕ)) → Apart (entry_tags (assigned taken ls))
unfolding assigned
assigned_apart taken [] = search
assigned_apart taken (l ∷ ls) =
    (assigned_new (free taken) (free taken ∷ taken) ls (among_here (free taken) taken), assigned_apart (free taken ∷ taken) ls)

-- each is the smallest number from 64 up that is neither taken nor the tag of an earlier mapping
abbrev Least : List ℕ → List ℕ → ℕ → Type 0
Least taken earlier t =
    (64 ≤ t) × (among t taken || among t earlier ≡ false) × ((n : ℕ) → 64 ≤ n → n < t → among n taken || among n earlier ≡ true)

least_moved : (a : ℕ) (taken earlier : List ℕ) (t : ℕ) → Least (a ∷ taken) earlier t → Least taken (a ∷ earlier) t
unfolding among
least_moved a taken earlier t h =
    let moved : (n : ℕ) → among n taken || among n (a ∷ earlier) ≡ among n (a ∷ taken) || among n earlier =
    λ n. sym (or_moved (eqb a n) (among n taken) (among n earlier)) in
    (h.0, moved t ∙ h.1, λ n from less. moved n ∙ h.2 n from less)

least_free : (taken : List ℕ) → Least taken [] (free taken)
unfolding among
least_free taken = ((free_range taken).0, simp (free_new taken), λ n from less. simp (free_smallest taken n from less))

pub assigned_least : (taken : List ℕ) (ls : List (List ℕ)) (before : List Entry) (m : Entry) (after : List Entry)
    → assigned taken ls ≡ before ++ (m ∷ after)
    → (64 ≤ m.tag) × (among m.tag taken || among m.tag (entry_tags before) ≡ false)
    × ((n : ℕ) → 64 ≤ n → n < m.tag → among n taken || among n (entry_tags before) ≡ true)
unfolding assigned
assigned_least taken [] [] m after e = absurd_eq (cc)
assigned_least taken [] (x ∷ before) m after e = absurd_eq (cc)
assigned_least taken (l ∷ ls) [] m after e =
    let first : record { tag = free taken; stands = l } ≡ m = cc in subst (Least taken []) (ap (λ (x : Entry). x.tag) first) (least_free taken)
assigned_least taken (l ∷ ls) (x ∷ before) m after e =
    let first : record { tag = free taken; stands = l } ≡ x = cc in
    let rest : assigned (free taken ∷ taken) ls ≡ before ++ (m ∷ after) = cc in
    subst (λ (t : ℕ). Least taken (t ∷ entry_tags before) m.tag) (ap (λ (y : Entry). y.tag) first)
    (least_moved (free taken) taken (entry_tags before) m.tag (assigned_least (free taken ∷ taken) ls before m after rest))

-- tags run from 64 up, and only as far as there are numbers taken and labels
abbrev pub Reaches : ℕ → ℕ → Type 0
Reaches n t = (64 ≤ t) × (t < 64 + n)

pub assigned_range : (taken : List ℕ) (ls : List (List ℕ)) → Each (λ (m : Entry). Reaches (length taken + length ls) m.tag) (assigned taken ls)
unfolding assigned
assigned_range taken [] = search
assigned_range taken (l ∷ ls) =
    let r = free_range taken in
    let seen = free taken ∷ taken in
    let more : (m : Entry) → Reaches (length seen + length ls) m.tag → Reaches (length taken + length (l ∷ ls)) m.tag = λ m h. (h.0, omega arith) in
    ((omega arith, omega arith), each_map more (assigned seen ls) (assigned_range seen ls))

-- what holds of all tags holds of the tag of a label that is mapped
pub label_tag : (P : ℕ → Type 0) (l : List ℕ) (ms : List Entry) → listed l (entry_labels ms) ≡ true → Each (λ (m : Entry). P m.tag) ms → P (tag_for ms (label l))
unfolding listed tag_for
label_tag P l [] h g = never (sym h)
label_tag P l (m ∷ ms) h g =
    split (same m.stands l) (λ e. rw e g.0) (λ e. rw e (label_tag P l ms (simp e at h) g.1))

-- a number that is no tag of a mapping means itself
pub number_means : (t : ℕ) (ms : List Entry) → among t (entry_tags ms) ≡ false → entry_for ms t ≡ number t
unfolding entry_for
number_means t [] h = refl
number_means t (m ∷ ms) h = let n = among_neither t m.tag (entry_tags ms) h in rw n.0 (number_means t ms n.1)

tag_among : (l : List ℕ) (ms : List Entry) → listed l (entry_labels ms) ≡ true → among (tag_for ms (label l)) (entry_tags ms) ≡ true
unfolding listed tag_for
tag_among l [] h = never (sym h)
tag_among l (m ∷ ms) h =
    split (same m.stands l)
    (λ e. rw e (among_here m.tag (entry_tags ms)))
    (λ e. rw e (among_more (tag_for ms (label l)) m.tag (entry_tags ms) (tag_among l ms (simp e at h))))

-- the tag of a label means the label
pub label_means : (l : List ℕ) (ms : List Entry) → Apart (entry_tags ms) → listed l (entry_labels ms) ≡ true → entry_for ms (tag_for ms (label l)) ≡ label l
unfolding listed tag_for entry_for
label_means l [] a h = never (sym h)
label_means l (m ∷ ms) a h =
    split (same m.stands l)
    (λ e. rw (e, eq-eqb m.tag m.tag refl) (ap label (same_true m.stands l e)))
    (λ e. let t = tag_for ms (label l) in
    let g : listed l (entry_labels ms) ≡ true = simp e at h in
    split (eqb m.tag t)
    (λ f. never (sym (tag_among l ms g) ∙ ap (λ (n : ℕ). among n (entry_tags ms)) (sym (eqb-true m.tag t f)) ∙ a.0))
    (λ f. rw (e, f) (label_means l ms a.1 g)))
