-- A refusal of a Config says what is wrong: where the reader stops among its mappings, well-formed ones stand before, and none stands there.
use mathlib.Core.Path.{◌≡◌, refl, sym, ap, ap₂, subst, ◌∙◌}
use mathlib.Core.List.{List, [], ◌∷◌, ◌++◌, map, append_assoc, append-nil, map-append}
use mathlib.Core.Bool.{false}
use Prim.Native.Nat.{ℕ, zero, suc, ◌+◌, ◌-◌, ◌<◌, ◌≤◌}
use native.Mathlib.Omega.{arith}
use lib.Dec.{ltb, leb}
use lib.ListN.{length, take, drop, length-take, length-drop, length-map}
use lib.Seq.{length-take-le}
use borrow.Author.Tests.{ltb-true, ltb-false, leb-true, leb-false}
use Rattle.runs.specs.Digits.{digits, Bytes}
use Rattle.runs.proofs.Cases.{split, absurd_eq}
use Rattle.runs.proofs.Below.{below_take}
use Rattle.refusals.specs.declared.Refusal.{Refusal}
use Rattle.refusals.specs.declared.Refusal.TheVariants as R
use Rattle.refusals.specs.Outcomes.{Outcome, fine, refused}
use Rattle.refusals.proofs.Outcomes.{then_stops}
use Rattle.numbers.specs.Reads.{Reads, read, malformed, cut}
use Rattle.numbers.specs.Tags.{tag_at, tag_bytes}
use Rattle.numbers.specs.Big.{big_at}
use Rattle.numbers.proofs.Big.{big_lt}
use Rattle.numbers.proofs.Tags.{tag_next, tag_range}
use Rattle.pack.specs.Fixed.{mapping_cap}
use Rattle.pack.specs.Config.{Mapping, tags_of, labels_of, clashes, mapping_at, mappings_from, config_maps}
use Rattle.pack.proofs.Turns.{mappings_turn}
use Rattle.pack_layout.specs.Layout.{Entry, entries_bytes}
use Rattle.pack_layout.specs.Well.{WellEntries}
use Rattle.pack_layout.specs.Refused.{NoEntry, entry_too_many, entry_bad_tag, entry_runs_out, entry_taken, NoConfig, config_short, config_entry}
use Rattle.pack_layout.proofs.Parts.{two_bytes, after_two, regrouped}
use Rattle.pack_layout.proofs.Opens.{mapping_of, mapping_of_lem, next}
use Rattle.pack_layout.proofs.Entries.{entry_of}
use Rattle.pack_layout.proofs.Mapped.{tags_entries, labels_entries}
use Rattle.pack_layout.proofs.Described.{entry_stands, entry_well}
use Rattle.pack_layout.proofs.BrokenTags.{tag_bad}
use Rattle.pack_layout.proofs.Broken.{EntryLacks, tag_cut_lacks, label_cut_lacks}

-- the bytes of mappings and of one more
entries_then : (ms : List Entry) (m : Entry) (rest : List ℕ) → entries_bytes (ms ++ (m ∷ [])) ++ rest ≡ entries_bytes ms ++ (tag_bytes m.tag ++ (m.stands ++ rest))
unfolding entries_bytes
entries_then [] m rest = simp (append_assoc, append-nil)
entries_then (p ∷ ms) m rest =
    regrouped (tag_bytes p.tag) p.stands (entries_bytes (ms ++ (m ∷ []))) rest
    ∙ ap (λ (x : List ℕ). tag_bytes p.tag ++ (p.stands ++ x)) (entries_then ms m rest)
    ∙ sym (regrouped (tag_bytes p.tag) p.stands (entries_bytes ms) (tag_bytes m.tag ++ (m.stands ++ rest)))

module _ (c : List ℕ) (place : ℕ) (b : Bytes c) where
  -- no mapping that the reader takes after those of `seen` begins at `at`
  entry_stop : (seen : List Mapping) (at : ℕ) {why : Refusal} {p : ℕ} → at < length c → mapping_at c place seen at ≡ refused why p
      → NoEntry (map entry_of seen) (drop at c) why × (place ≡ p)
  unfolding mapping_at
  entry_stop seen at {why} {p} i h =
      split (leb mapping_cap (length seen))
      (λ a. let j : ◌≡◌ {A = Outcome Mapping} (refused R.Count place) (refused why p) = simp a at h in
      told j (entry_too_many (simp length-drop (omega arith)) (omega (arith, leb-true, length-map seen entry_of))))
      (λ a. tagged (tag_at c at) refl a)
    where
      told : {w : Refusal} → ◌≡◌ {A = Outcome Mapping} (refused w place) (refused why p) → NoEntry (map entry_of seen) (drop at c) w
          → NoEntry (map entry_of seen) (drop at c) why × (place ≡ p)
      told {w} j n = let same : w ≡ why = cc in (subst (NoEntry (map entry_of seen) (drop at c)) same n, cc)

      lacking : length (map entry_of seen) < mapping_cap → EntryLacks (drop at c) → NoEntry (map entry_of seen) (drop at c) R.Config
      lacking few l = entry_runs_out few l.t l.label l.tagged l.long l.lacks

      room : leb mapping_cap (length seen) ≡ false → length (map entry_of seen) < mapping_cap
      room a = omega (arith, leb-false, length-map seen entry_of)

      tagged : (r : Reads) → tag_at c at ≡ r → leb mapping_cap (length seen) ≡ false → NoEntry (map entry_of seen) (drop at c) why × (place ≡ p)
      tagged malformed e a = told (simp (a, e) at h) (entry_bad_tag (room a) (tag_bad c at e))
      tagged cut e a = told (simp (a, e) at h) (lacking (room a) (tag_cut_lacks c at b i e))
      tagged (read t n) e a =
          let few = room a in
          split (ltb (length c - n) 16)
          (λ y. told (simp (a, e, y) at h) (lacking few (label_cut_lacks c at t n b e (ltb-true _ _ y))))
          (λ y. split (clashes (tags_of seen) (labels_of seen) t (take 16 (drop n c)))
          (λ d. told (simp (a, e, y, d) at h)
          (entry_taken few t (take 16 (drop n c)) (drop (n + 16) c) (tag_range c at t n b e) (length-take-le 16 (drop n c) (simp length-drop (ltb-false _ _ y))) (entry_stands c at t n b e)
          (ap₂ (λ (x : List ℕ) (z : List (List ℕ)). clashes x z t (take 16 (drop n c))) (tags_entries seen) (labels_entries seen) ∙ d)))
          (λ d. let j : fine (mapping_of c t n) ≡ refused why p = simp (a, e, y, d) at h in absurd_eq (cc)))

  -- the bytes of the mappings of `seen` and of the one at `at`
  one_more : (seen : List Mapping) (at t n : ℕ) → tag_at c at ≡ read t n
      → entries_bytes (map entry_of (seen ++ (mapping_of c t n ∷ []))) ++ drop (n + 16) c ≡ entries_bytes (map entry_of seen) ++ drop at c
  one_more seen at t n e =
      let m = mapping_of c t n in
      let rest = drop (n + 16) c in
      ap (λ (y : List Entry). entries_bytes y ++ rest) (map-append entry_of seen (m ∷ [])) ∙ entries_then (map entry_of seen) (entry_of m) rest
      ∙ ap (λ (y : List ℕ). entries_bytes (map entry_of seen) ++ y) (sym (entry_stands c at t n b e))

  -- the mappings that stand before where the reader stops, in the value of the Config
  module _ (value : List ℕ) (o : ℕ) (fits : o < 65536) where
    mappings_stop : (k : ℕ) (seen : List Mapping) (at : ℕ) {why : Refusal} {p : ℕ} → length c ≤ at + k → WellEntries (map entry_of seen)
        → value ≡ digits 256 2 o ++ (entries_bytes (map entry_of seen) ++ drop at c) → mappings_from k c place seen at ≡ refused why p
        → NoConfig value why × (place ≡ p)
    unfolding mappings_from
    mappings_stop zero seen at g w e h = absurd_eq (cc)
    mappings_stop (suc k) seen at {why} {p} g w e h =
        split (ltb at (length c))
        (λ a. let i : at < length c = ltb-true _ _ a in
        then_stops (mapping_at c place seen at) (next c place k seen) (sym (mappings_turn c place seen at k refl i refl) ∙ h)
        (λ z. let n = entry_stop seen at i z in (config_entry o (map entry_of seen) (drop at c) fits w e n.0, n.1))
        (λ m is z. let d = mapping_of_lem c place seen at m is in
        let t = d.t in
        let n = d.n in
        let x = tag_next c at t n d.tag in
        mappings_stop k (seen ++ (mapping_of c t n ∷ [])) (n + 16) (omega arith) (entry_well c at t n seen b d.tag d.room d.apart w)
        (e ∙ ap (λ (y : List ℕ). digits 256 2 o ++ y) (sym (one_more seen at t n d.tag))) (ap (next c place k seen) d.is ∙ z)))
        (λ a. let j : fine seen ≡ refused why p = simp a at h in absurd_eq (cc))

-- the Config at `at`, whose value runs l bytes from v
pub config_stop : (s : List ℕ) (at v l : ℕ) {why : Refusal} {p : ℕ} → Bytes s → v + l ≤ length s → config_maps s at v l ≡ refused why p
    → NoConfig (take l (drop v s)) why × (at ≡ p)
unfolding config_maps entries_bytes WellEntries
config_stop s at v l {why} {p} b i h =
    split (ltb l 2)
    (λ a. let j : ◌≡◌ {A = Outcome (List Mapping)} (refused R.Config at) (refused why p) = simp a at h in
    let same : R.Config ≡ why = cc in
    (subst (NoConfig (take l (drop v s))) same (config_short (simp length-take (omega (arith, ltb-true)))), cc))
    (λ a. let two : 2 ≤ l = ltb-false _ _ a in
    mappings_stop (take (v + l) s) at (below_take 256 (v + l) s b) (take l (drop v s)) (big_at s v 2) (big_lt s v 2 b) l [] (v + 2)
    (simp length-take (omega arith)) tt
    (two_bytes s v l b i two ∙ ap (λ (y : List ℕ). digits 256 2 (big_at s v 2) ++ y) (sym (after_two s v l two))) (simp a at h))
