-- The tag that is sought in a pack is the one whose payloads have the label, so that the first payload of the tag is the first of the label.
use mathlib.Core.Path.{◌≡◌, refl, sym, ap, ap₂, subst, ◌∙◌}
use mathlib.Core.List.{List, [], ◌∷◌, map}
use mathlib.Core.Bool.{Bool, true, false, cond}
use Prim.Native.Nat.{ℕ, ◌+◌, ◌<◌, ◌≤◌}
use lib.Dec.{eqb}
use lib.ListN.{length, take, drop, get_or, drop_of_length-le}
use lib.Seq.{drop-cons}
use native.Mathlib.Numerals.{add-one}
use borrow.Author.Tests.{eq-eqb, ne_eqb, eqb-true}
use Rattle.runs.specs.Digits.{Bytes}
use Rattle.runs.specs.Same.{same, among, listed}
use Rattle.runs.specs.Those.{those, Each}
use Rattle.runs.proofs.Cases.{split}
use Rattle.runs.proofs.Same.{same_true, among_neither, listed_neither}
use Rattle.runs.proofs.Those.{each_map, each_on}
use Rattle.std.specs.Prelude.{Option, Some, None, Result, Ok, Err}
use Rattle.refusals.specs.declared.Refused.{Refused}
use Rattle.refusals.specs.Outcomes.{Outcome, fine, refused, and_then, answered}
use Rattle.refusals.proofs.Outcomes.{then_fine, then_refused}
use Rattle.refusals.proofs.Lent.{answers, refused_was}
use Rattle.numbers.specs.Big.{extended}
use Rattle.pack.specs.Config.{Mapping, tags_of, labels_of, places_of}
use Rattle.pack.specs.Payloads.{name_of, ground_of}
use Rattle.pack.specs.Items.{Body, items_from}
use Rattle.pack.specs.Reading.{Read, Opening, pack_ground, read_from, reading}
use Rattle.pack.specs.Meaning.{meant_name}
use Rattle.pack.specs.declared.Name.{Name}
use Rattle.pack.specs.declared.Payload.{Payload}
use Rattle.pack.proofs.Turns.{opening, reading_opens}
use Rattle.pack_config.specs.declared.table.Mappings.{Mappings}
use Rattle.pack_config.specs.Index.{LabelsLie}
use Rattle.pack_config.specs.Tables.{Tables}
use Rattle.pack_config.proofs.Tables.{column_is}
use Rattle.pack_read.specs.Steps.{opened, Opens}
use Rattle.pack_read.specs.declared.Opening as C
use Rattle.pack_layout.specs.Layout.{Entry, entry_for}
use Rattle.pack_layout.specs.Well.{WellEntries}
use Rattle.pack_layout.proofs.Entries.{entry_tags, entry_labels, entry_of, name_means}
use Rattle.pack_layout.proofs.Mapped.{tags_entries, labels_entries}
use Rattle.pack_layout.proofs.Bounds.{LabelLies, opening_bounds}
use Rattle.lookup.specs.Lookup.{payloads_of, is_label, carried}
use Rattle.lookup.specs.Sought.{first_at, first_in, is_wanted, Tells, tag_for, wanted_tag, sought_body, sought_read}
use Rattle.lookup.specs.declared.Spot.{Spot}

-- a label that is mapped to no tag is what no tag means
label_apart : (l : List ℕ) (es : List Entry) (t : ℕ) → listed l (entry_labels es) ≡ false → is_label l (entry_for es t) ≡ false
unfolding entry_for
label_apart l [] t h = refl
label_apart l (e ∷ es) t h =
    let n = listed_neither l e.stands (entry_labels es) h in
    split (eqb e.tag t) (λ a. simp a n.0) (λ a. simp a (label_apart l es t n.1))

module _ (s l : List ℕ) where
  -- a tag that is not mapped is not sought
  tag_apart : (ms : List Mapping) (t : ℕ) → among t (entry_tags (map entry_of ms)) ≡ false → is_wanted (tag_for s l (tags_of ms) (places_of ms)) t ≡ false
  unfolding tag_for
  tag_apart [] t h = refl
  tag_apart (m ∷ ms) t h =
      let n = among_neither t m.tag (entry_tags (map entry_of ms)) h in
      split (same (take 16 (drop m.place s)) l) (λ b. simp b n.0) (λ b. simp b (tag_apart ms t n.1))

  -- what a tag means is the label exactly if it is the tag that is sought
  tag_means : (ms : List Mapping) → Each (LabelLies s) ms → WellEntries (map entry_of ms) → (t : ℕ)
      → is_label l (entry_for (map entry_of ms) t) ≡ is_wanted (tag_for s l (tags_of ms) (places_of ms)) t
  unfolding entry_for tag_for WellEntries
  tag_means [] lie well t = refl
  tag_means (m ∷ ms) lie well t =
      let is : same m.stands l ≡ same (take 16 (drop m.place s)) l = ap (λ (k : List ℕ). same k l) lie.0.is in
      let rest = tag_means ms lie.1 well.3 t in
      split (eqb m.tag t)
      (λ a. split (same (take 16 (drop m.place s)) l)
      (λ b. simp (a, b) (is ∙ b))
      (λ b. simp (a, b)
      (is ∙ b ∙ sym (tag_apart ms t (ap (λ (u : ℕ). among u (entry_tags (map entry_of ms))) (sym (eqb-true m.tag t a)) ∙ well.1)))))
      (λ a. split (same (take 16 (drop m.place s)) l)
      (λ b.
      let own : m.stands ≡ l = same_true m.stands l (is ∙ b) in
      simp (a, b)
      (label_apart l (map entry_of ms) t (ap (λ (k : List ℕ). listed k (entry_labels (map entry_of ms))) (sym own) ∙ well.2)))
      (λ b. simp (a, b) rest))

  -- THE SEARCH OF THE TABLES

  module _ (ts ps : List ℕ) {i : ℕ} (left : tag_for s l (drop i ts) (drop i ps) ≡ tag_for s l ts ps) where
    module _ (h : i < length ts) (g : i < length ps) where
      next : tag_for s l ts ps ≡ cond (same (take 16 (drop (get_or ps i 0) s)) l) (Some (get_or ts i 0)) (tag_for s l (drop (i + 1) ts) (drop (i + 1) ps))
      unfolding tag_for
      next =
          sym left ∙ ap₂ (tag_for s l) (drop-cons ts i 0 h) (drop-cons ps i 0 g)
          ∙ ap (λ (k : ℕ). cond (same (take 16 (drop (get_or ps i 0) s)) l) (Some (get_or ts i 0)) (tag_for s l (drop k ts) (drop k ps))) (sym (add-one i))

      pub tag_here : same (take 16 (drop (get_or ps i 0) s)) l ≡ true → Some (get_or ts i 0) ≡ tag_for s l ts ps
      tag_here e = sym (next ∙ ap (λ (b : Bool). cond b (Some (get_or ts i 0)) (tag_for s l (drop (i + 1) ts) (drop (i + 1) ps))) e)

      pub tag_later : same (take 16 (drop (get_or ps i 0) s)) l ≡ false → tag_for s l (drop (i + 1) ts) (drop (i + 1) ps) ≡ tag_for s l ts ps
      tag_later e = sym (next ∙ ap (λ (b : Bool). cond b (Some (get_or ts i 0)) (tag_for s l (drop (i + 1) ts) (drop (i + 1) ps))) e)

    pub tag_none : length ts ≤ i → None ≡ tag_for s l ts ps
    unfolding tag_for
    tag_none h = ap (λ (us : List ℕ). tag_for s l us (drop i ps)) (sym (drop_of_length-le ts {i = i} h)) ∙ left

-- the label has 16 bytes, or it has not
pub tag_wanted : (s l ts ps : List ℕ) {w : Option ℕ} → length l ≡ 16 → w ≡ tag_for s l ts ps → w ≡ wanted_tag s l ts ps
unfolding wanted_tag
tag_wanted s l ts ps e h = h ∙ sym (ap (λ (b : Bool). cond b (tag_for s l ts ps) None) (eq-eqb _ _ e))

pub tag_strange : (s l ts ps : List ℕ) → (length l ≡ 16 → ⊥) → None ≡ wanted_tag s l ts ps
unfolding wanted_tag
tag_strange s l ts ps e = sym (ap (λ (b : Bool). cond b (tag_for s l ts ps) None) (ne_eqb _ _ e))

-- ONE PACK

-- the mappings, as the search asks for them and as it tells the tag
module _ (s l : List ℕ) (bytes : Bytes s) {o : Opening} (opens : opening s ≡ fine o) {maps : Mappings} (holds : Tables o.mappings maps) where
  places_are : take maps.count maps.places ≡ places_of o.mappings
  places_are = column_is o.mappings (λ (x : Mapping). x.place) holds.placed (sym holds.counted)

  pub labels_lie : LabelsLie s (take maps.count maps.places)
  labels_lie =
      let b = opening_bounds s bytes opens in
      subst (LabelsLie s) (sym places_are) (each_on (λ (p : ℕ). p + 16 ≤ length s) (λ (x : Mapping). x.place) o.mappings (each_map (λ x h. h.ends) o.mappings b.1))

  pub maps_want : {wanted : Option ℕ} → wanted ≡ wanted_tag s l (take maps.count maps.tags) (take maps.count maps.places) → wanted ≡ wanted_tag s l (tags_of o.mappings) (places_of o.mappings)
  maps_want h = h ∙ ap₂ (wanted_tag s l) (column_is o.mappings (λ (x : Mapping). x.tag) holds.tagged (sym holds.counted)) places_are

-- a pack that does not open is refused
pub seek_refused : (s l : List ℕ) {r : Result C.Opening Refused} {maps : Mappings} → Opens (opening s) r maps → {x : Refused} → r ≡ Err x → Err x ≡ answered (sought_read l) (reading s)
seek_refused s l g e = answers (sought_read l) (reading_opens s ∙ then_refused (read_from s) (refused_was opened g.told e)) refl

never : (xs : List Payload) → those (λ (x : Payload). false) xs ≡ []
unfolding those
never [] = refl
never (x ∷ xs) = never xs

module _ (s l : List ℕ) {o : Opening} (opens : opening s ≡ fine o) where
  abbrev read : Body → Read
  read b = record { offset = o.offset; mappings = o.mappings; body = b }

  -- the items of the pack, by a test that tells what it carries
  body_is : (test : Name → Bool) → ((b : Body) → first_in test (payloads_of b.parts) ≡ first_at (carried l (read b)))
      → answered (sought_body test) (items_from (length s) s (pack_ground o.offset o.mappings) o.next 0) ≡ answered (sought_read l) (reading s)
  unfolding read_from answered and_then
  body_is test each = whole (items_from (length s) s (pack_ground o.offset o.mappings) o.next 0) ∙ sym (ap (answered (sought_read l)) (reading_opens s ∙ then_fine (read_from s) opens))
    where
      whole : (x : Outcome Body) → answered (sought_body test) x ≡ answered (sought_read l) (and_then x (λ b. fine (read b)))
      whole (fine b) = ap Ok (each b)
      whole (refused why p) = refl

  module _ (bytes : Bytes s) {wanted : Option ℕ} (is : wanted ≡ wanted_tag s l (tags_of o.mappings) (places_of o.mappings)) {r : Result (Option Spot) Refused} {n total : ℕ} (at : n ≡ o.next) (sum : total ≡ extended o.offset)
      (seeks : (tags : List ℕ) (test : Name → Bool) → Tells tags test wanted → r ≡ answered (sought_body test) (items_from (length s) s (ground_of tags total) n 0)) where
    sought_by : (test : Name → Bool) → Tells (tags_of o.mappings) test wanted → ((b : Body) → first_in test (payloads_of b.parts) ≡ first_at (carried l (read b)))
        → r ≡ answered (sought_read l) (reading s)
    sought_by test tells each =
        seeks (tags_of o.mappings) test tells
        ∙ ap₂ (λ (k n : ℕ). answered (sought_body test) (items_from (length s) s (ground_of (tags_of o.mappings) n) k 0)) at sum
        ∙ body_is test each

    pub sought_from : r ≡ answered (sought_read l) (reading s)
    unfolding carried wanted_tag
    sought_from =
        let ms = o.mappings in
        let es = map entry_of ms in
        let b = opening_bounds s bytes opens in
        let names : (t : ℕ) → meant_name (labels_of ms) (name_of (tags_of ms) t) ≡ entry_for es t =
        λ t. ap₂ (λ (ls : List (List ℕ)) (ts : List ℕ). meant_name ls (name_of ts t)) (sym (labels_entries ms)) (sym (tags_entries ms)) ∙ name_means es t in
        split (eqb (length l) 16)
        (λ e.
        let tag : wanted ≡ tag_for s l (tags_of ms) (places_of ms) = is ∙ ap (λ (c : Bool). cond c (tag_for s l (tags_of ms) (places_of ms)) None) e in
        sought_by (λ n. is_label l (meant_name (labels_of ms) n))
        (λ t. ap (is_label l) (names t) ∙ tag_means s l ms b.1 b.2 t ∙ ap (λ (w : Option ℕ). is_wanted w t) (sym tag))
        (λ d. simp e))
        (λ e.
        let tag : wanted ≡ None = is ∙ ap (λ (c : Bool). cond c (tag_for s l (tags_of ms) (places_of ms)) None) e in
        sought_by (λ n. false) (λ t. sym (ap (λ (w : Option ℕ). is_wanted w t) tag)) (λ d. ap first_at (never (payloads_of d.parts)) ∙ simp e))
