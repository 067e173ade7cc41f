-- What is wrong with a Config is refused: where well-formed mappings stand before what is none, the reader goes past them and stops there.
use mathlib.Core.Path.{◌≡◌, refl, sym, ap, ap₂, subst, ◌∙◌}
use mathlib.Core.List.{List, [], ◌∷◌, ◌++◌, map, append_assoc, append-nil}
use mathlib.Core.Logic.{◌⊎◌, inl, inr, ⊎_elim}
use mathlib.Core.Bool.{true}
use Prim.Native.Nat.{ℕ, ◌+◌, ◌-◌, ◌<◌, ◌≤◌}
use native.Mathlib.Omega.{arith}
use lib.ListN.{length, take, drop, length-append, length-take, length-drop, length-map}
use lib.Seq.{take_at}
use borrow.Author.Tests.{lt-ltb, le-ltb}
use Rattle.runs.specs.Digits.{digits, Bytes}
use Rattle.runs.proofs.Digits.{length_digits}
use Rattle.runs.proofs.Below.{below_take}
use Rattle.runs.proofs.Cases.{lt_or_ge}
use Rattle.runs.proofs.Stands.{stands_past}
use Rattle.refusals.specs.declared.Refusal.{Refusal}
use Rattle.refusals.specs.declared.Refusal.TheVariants as R
use Rattle.refusals.specs.Outcomes.{refused}
use Rattle.refusals.proofs.Outcomes.{then_fine, then_refused}
use Rattle.numbers.specs.Reads.{cut}
use Rattle.numbers.specs.Tags.{tag_at, tag_bytes}
use Rattle.numbers.proofs.Tags.{tag_back, tag_next}
use Rattle.pack.specs.Fixed.{mapping_cap}
use Rattle.pack.specs.Config.{Mapping, tags_of, labels_of, clashes, mapping_at, mappings_from, config_maps}
use Rattle.pack.proofs.Turns.{mappings_turn, mapping_count, mapping_bad, mapping_cut, mapping_short, mapping_clash, mapping_fine}
use Rattle.pack_layout.specs.Layout.{Entry, entries_bytes}
use Rattle.pack_layout.specs.Well.{WellEntries}
use Rattle.pack_layout.specs.Refused.{NoEntry, entry_too_many, entry_bad_tag, entry_runs_out, entry_taken, NoConfig, config_short, config_entry}
use Rattle.pack_layout.proofs.Parts.{after_two, regrouped, two_back}
use Rattle.pack_layout.proofs.Opens.{mapping_of, next}
use Rattle.pack_layout.proofs.Entries.{entry_of}
use Rattle.pack_layout.proofs.Mapped.{tags_entries, labels_entries, mapping_laid}
use Rattle.pack_layout.proofs.BrokenTags.{bad_in, bad_tag_lem}
use Rattle.pack_layout.proofs.Broken.{CutLabel, lacks_entry}
use Rattle.pack_layout.proofs.Refuses.{spend}

-- after so many mappings there is one too many, whatever it is
full_count : {ms : List Entry} {z : List ℕ} {why : Refusal} → NoEntry ms z why → mapping_cap ≤ length ms → R.Count ≡ why
full_count (entry_too_many some full) h = refl
full_count (entry_bad_tag few n) h = absurd (omega arith)
full_count (entry_runs_out few t label fits long lacks) h = absurd (omega arith)
full_count (entry_taken few t label rest fits long is clash) h = absurd (omega arith)

module _ (c : List ℕ) (place : ℕ) (b : Bytes c) where
  -- no mapping begins at `at`
  entry_refused : (seen : List Mapping) (at : ℕ) {why : Refusal} → NoEntry (map entry_of seen) (drop at c) why
      → (at < length c) × (mapping_at c place seen at ≡ refused why place)
  entry_refused seen at (entry_too_many some full) =
      (omega (arith, length-drop at c), mapping_count c place seen at (omega (arith, length-map seen entry_of)))
  entry_refused seen at (entry_bad_tag few n) =
      let e = bad_tag_lem c at b n in (bad_in c at e, mapping_bad c place seen at (omega (arith, length-map seen entry_of)) e)
  entry_refused seen at (entry_runs_out few t label fits long lacks) =
      (omega (arith, length-drop at c, lacks.some), by (lacks_entry c at b (record { t = t; label = label; tagged = fits; long = long; lacks = lacks })))
    where
      by : (tag_at c at ≡ cut) ⊎ CutLabel c at → mapping_at c place seen at ≡ refused R.Config place
      by (inl e) = mapping_cut c place seen at (omega (arith, length-map seen entry_of)) e
      by (inr r) = mapping_short c place seen at (omega (arith, length-map seen entry_of)) r.t r.n r.tag r.short
  entry_refused seen at (entry_taken few t label rest fits long is clash) =
      let n = at + length (tag_bytes t) in
      let e = tag_back c at t (label ++ rest) is fits.0 fits.1 in
      let x = tag_next c at t n e in
      let stands : drop n c ≡ label ++ rest = stands_past c at (tag_bytes t) (label ++ rest) is in
      let is_label_lem : take 16 (drop n c) ≡ label = ap (take 16) stands ∙ take_at label rest 16 long in
      let room : 16 ≤ length c - n = omega (arith, length-drop n c, ap length stands, length-append label rest) in
      let taken : clashes (tags_of seen) (labels_of seen) t (take 16 (drop n c)) ≡ true =
      ap (clashes (tags_of seen) (labels_of seen) t) is_label_lem
      ∙ ap₂ (λ (u : List ℕ) (v : List (List ℕ)). clashes u v t label) (sym (tags_entries seen)) (sym (labels_entries seen)) ∙ clash in
      (omega arith, mapping_clash c place seen at (omega (arith, length-map seen entry_of)) t n e room taken)

  -- the reader goes past well-formed mappings to what is none
  mappings_refused : (ms : List Entry) (z : List ℕ) (k : ℕ) (seen : List Mapping) (at : ℕ) {why : Refusal} → drop at c ≡ entries_bytes ms ++ z
      → WellEntries (map entry_of seen ++ ms) → NoEntry (map entry_of seen ++ ms) z why → length c ≤ at + k → mappings_from k c place seen at ≡ refused why place
  unfolding entries_bytes
  mappings_refused [] z k seen at {why} e w n g =
      let here : NoEntry (map entry_of seen) (drop at c) why =
      subst (λ (l : List ℕ). NoEntry (map entry_of seen) l why) (sym e) (subst (λ (l : List Entry). NoEntry l z why) (append-nil (map entry_of seen)) n) in
      let r = entry_refused seen at here in
      spend (λ m. mappings_from m c place seen at ≡ refused why place) k r.0 g
      (λ j f. mappings_turn c place seen at j refl r.0 r.1 ∙ then_refused (next c place j seen) refl)
  mappings_refused (m ∷ ms) z k seen at {why} e w n g =
      let rest = entries_bytes ms ++ z in
      let r = mapping_laid m ms c at seen rest (e ∙ regrouped (tag_bytes m.tag) m.stands (entries_bytes ms) z) w in
      let t = m.tag in
      let v = at + length (tag_bytes t) in
      let x = mapping_of c t v in
      let y = tag_next c at t v r.tag in
      let i : at < length c = omega arith in
      spend (λ m. mappings_from m c place seen at ≡ refused why place) k i g
      (λ j f. ⊎_elim
      (λ few. mappings_turn c place seen at j refl i (mapping_fine c place seen at few t v r.tag (omega (arith, r.room)) r.apart)
      ∙ then_fine (next c place j seen) refl
      ∙ mappings_refused ms z j (seen ++ (x ∷ [])) (v + 16) r.next (subst WellEntries r.same w) (subst (λ (l : List Entry). NoEntry l z why) r.same n) (omega arith))
      (λ full. mappings_turn c place seen at j refl i (mapping_count c place seen at full) ∙ then_refused (next c place j seen) refl
      ∙ ap (λ (u : Refusal). refused u place) (full_count n (omega (arith, length-append (map entry_of seen) (m ∷ ms), length-map seen entry_of))))
      (lt_or_ge (length seen) mapping_cap))

-- the Config at `at`, whose value c stands at v
pub config_refused : (s : List ℕ) (at v : ℕ) (c rest : List ℕ) {why : Refusal} → Bytes s → drop v s ≡ c ++ rest → NoConfig c why
    → config_maps s at v (length c) ≡ refused why at
unfolding config_maps
config_refused s at v c rest b e (config_short few) = simp (lt-ltb _ _ few)
config_refused s at v c rest b e (config_entry o ms z fits well is n) =
    let inside = entries_bytes ms ++ z in
    let l = length c in
    let size : l ≡ 2 + length inside = omega (arith, ap length is, length-append (digits 256 2 o) inside, length_digits 256 2 o) in
    let two : 2 ≤ l = omega arith in
    let whole : drop v s ≡ digits 256 2 o ++ (inside ++ rest) = e ∙ ap (λ (y : List ℕ). y ++ rest) is ∙ append_assoc (digits 256 2 o) inside rest in
    let part : drop (v + 2) (take (v + l) s) ≡ inside =
    after_two s v l two ∙ ap (take (l - 2)) (two_back s v o (inside ++ rest) whole fits).1 ∙ take_at inside rest (l - 2) (omega arith) in
    simp (le-ltb _ _ two) (mappings_refused (take (v + l) s) at (below_take 256 (v + l) s b) ms z l [] (v + 2) part well n (simp length-take (omega arith)))
