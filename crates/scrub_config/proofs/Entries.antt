-- Mappings and Config as they are written: their bytes, their size, and what the loop over the mappings keeps.
use mathlib.Core.Path.{◌≡◌, refl, sym, ap, subst, ◌∙◌}
use mathlib.Core.List.{List, [], ◌∷◌, ◌++◌, append_assoc}
use mathlib.Core.Bool.{true, false, ◌&&◌}
use Prim.Native.Nat.{ℕ, suc, ◌+◌, ◌-◌, ◌*◌, ◌<◌, ◌≤◌}
use native.Mathlib.Omega.{arith}
use native.Mathlib.Numerals.{add-one}
use lib.Dec.{eqb}
use lib.ListN.{length, take, drop, get_or, length-append, length-map, drop_of_length-le}
use lib.Seq.{drop-cons}
use borrow.Author.Tests.{eq-eqb, ne_eqb, eqb-true}
use Rattle.runs.specs.Digits.{digits}
use Rattle.runs.specs.Over.{Wrote}
use Rattle.runs.proofs.Cases.{split, absurd_eq}
use Rattle.runs.proofs.Digits.{length_digits}
use Rattle.runs.proofs.Over.{wrote_none}
use Rattle.runs.proofs.Writing.{Writing, writing_begins, writing_as, writing_run, writing_done, room_for}
use Rattle.numbers.specs.Tags.{tag_bytes}
use Rattle.numbers.specs.Lengths.{form_bytes, shortest, length_bytes}
use Rattle.numbers.proofs.Tags.{tag_short}
use Rattle.pack_layout.specs.Layout.{Entry, config, entries_bytes, config_bytes}
use Rattle.scrub_kept.specs.Written.{as_config}
use Rattle.runs.proofs.Stands.{part_length, part_lent}
use Rattle.scrub_config.specs.Entries.{entry_at, entries_at, mapping_bytes, config_at, config_size, MappingFits}
use Rattle.scrub_config.specs.declared.Mapping.{Mapping}
use Rattle.runs.specs.Those.{Each}

-- the bytes of a mapping before those of the others
module _ (s : List ℕ) (m : Mapping) where
  pub mapping_begun : (out : List ℕ) (at : ℕ) → at + length (mapping_bytes s m) ≤ length out
      → Writing out at (mapping_bytes s m) out at (tag_bytes m.tag ++ take (m.place + 16 - m.place) (drop m.place s))
  mapping_begun out at h =
      writing_as (ap (λ (x : List ℕ). tag_bytes m.tag ++ x) (sym (part_lent s m.place 16))) (writing_begins out at (mapping_bytes s m) h)

  entries_more : (ms : List Mapping) → entries_bytes (entries_at s (m ∷ ms)) ≡ mapping_bytes s m ++ entries_bytes (entries_at s ms)
  unfolding entries_bytes
  entries_more ms = sym (append_assoc (tag_bytes m.tag) (take 16 (drop m.place s)) (entries_bytes (entries_at s ms)))

-- the loop: what is left of the mappings
pub record Left (s : List ℕ) (ms : List Mapping) (xs : List ℕ) (a : ℕ) (us : List ℕ) (k at : ℕ) : Type 0 where
  pub fits : Each (MappingFits s) (drop k ms)
  pub writing : Writing xs a (entries_bytes (entries_at s ms)) us at (entries_bytes (entries_at s (drop k ms)))

pub left_begins : (s : List ℕ) (ms : List Mapping) (xs : List ℕ) (a : ℕ) → Each (MappingFits s) ms
    → a + length (entries_bytes (entries_at s ms)) ≤ length xs → Left s ms xs a xs 0 a
left_begins s ms xs a f h = record { fits = f; writing = writing_begins xs a (entries_bytes (entries_at s ms)) h }

module _ {s : List ℕ} {ms : List Mapping} {xs : List ℕ} {a : ℕ} {us : List ℕ} {k at : ℕ} (g : Left s ms xs a us k at) where
  module _ (d : Mapping) (h : k < length ms) where
    here : drop k ms ≡ get_or ms k d ∷ drop (k + 1) ms
    here = drop-cons ms k d h ∙ ap (λ (n : ℕ). get_or ms k d ∷ drop n ms) (sym (add-one k))

    both : MappingFits s (get_or ms k d) × Each (MappingFits s) (drop (k + 1) ms)
    both = subst (Each (MappingFits s)) here g.fits

    left_writing : Writing xs a (entries_bytes (entries_at s ms)) us at (mapping_bytes s (get_or ms k d) ++ entries_bytes (entries_at s (drop (k + 1) ms)))
    left_writing =
        writing_as (ap (λ (l : List Mapping). entries_bytes (entries_at s l)) here ∙ entries_more s (get_or ms k d) (drop (k + 1) ms)) g.writing

    pub left_asks : MappingFits s (get_or ms k d) × (at + length (mapping_bytes s (get_or ms k d)) ≤ length us)
    left_asks = (both.0, room_for (mapping_bytes s (get_or ms k d)) (entries_bytes (entries_at s (drop (k + 1) ms))) left_writing)

    pub left_step : {n : ℕ} {vs : List ℕ} → Wrote us at (mapping_bytes s (get_or ms k d)) n vs → Left s ms xs a vs (k + 1) n
    left_step p = record { fits = both.1; writing = writing_run _ _ left_writing p }

  pub left_ends : length ms ≤ k → Wrote xs a (entries_bytes (entries_at s ms)) at us
  unfolding entries_bytes
  left_ends h = writing_done (writing_as (ap (λ (l : List Mapping). entries_bytes (entries_at s l)) (drop_of_length-le ms {i = k} h)) g.writing)

-- sizes
entries_size : (s : List ℕ) (ms : List Mapping) → Each (MappingFits s) ms → length (entries_bytes (entries_at s ms)) ≡ 17 * length ms
unfolding entries_bytes
entries_size s [] f = refl
entries_size s (m ∷ ms) f =
    let e = entries_bytes (entries_at s ms) in
    let l = take 16 (drop m.place s) in
    let a : length (tag_bytes m.tag) ≡ 1 = ap length (tag_short m.tag f.0.0) in
    let b : length l ≡ 16 = part_length s m.place 16 f.0.1 in
    let n = entries_size s ms f.1 in
    let c = length-append (tag_bytes m.tag) (l ++ e) in
    let d = length-append l e in
    let z : length e ≡ 17 * length ms = n in
    omega arith

some_bytes : (o : ℕ) (ms : List Entry)
    → config_bytes (config (shortest (2 + length (entries_bytes ms))) o ms)
    ≡ tag_bytes 1 ++ (length_bytes (2 + length (entries_bytes ms)) ++ (digits 256 2 o ++ entries_bytes ms))
unfolding config_bytes length_bytes
some_bytes o ms =
    let n : length (digits 256 2 o ++ entries_bytes ms) ≡ 2 + length (entries_bytes ms) =
    length-append (digits 256 2 o) (entries_bytes ms) ∙ ap (λ (k : ℕ). k + length (entries_bytes ms)) (length_digits 256 2 o) in
    ap (λ (k : ℕ). tag_bytes 1 ++ (form_bytes (shortest (2 + length (entries_bytes ms))) k ++ (digits 256 2 o ++ entries_bytes ms))) n

-- Config as it is written, where there is one
config_bytes_lem : (o : ℕ) (ms : List Entry) → (length ms ≡ 0 → o ≡ 0 → ⊥)
    → config_bytes (as_config o ms) ≡ tag_bytes 1 ++ (length_bytes (2 + length (entries_bytes ms)) ++ (digits 256 2 o ++ entries_bytes ms))
unfolding as_config entries_bytes
config_bytes_lem o [] h = rw (ne_eqb o 0 (h refl)) (some_bytes o [])
config_bytes_lem o (m ∷ ms) h = some_bytes o (m ∷ ms)

config_none : (o : ℕ) (ms : List Entry) → length ms ≡ 0 → o ≡ 0 → config_bytes (as_config o ms) ≡ []
unfolding as_config config_bytes
config_none o [] h e = rw (eq-eqb o 0 e)
config_none o (m ∷ ms) h e = absurd (let z : suc (length ms) ≡ 0 = h in omega arith)

entries_count : (s : List ℕ) (ms : List Mapping) → length (entries_at s ms) ≡ length ms
entries_count s ms = length-map ms (entry_at s)

both_zero : (n o : ℕ) → eqb n 0 && eqb o 0 ≡ true → (n ≡ 0) × (o ≡ 0)
both_zero n o e =
    split (eqb n 0)
    (λ a. (eqb-true n 0 a, eqb-true o 0 (simp a at e)))
    (λ a. let z : false ≡ true = simp a at e in absurd_eq (cc))

not_both : (n o : ℕ) → eqb n 0 && eqb o 0 ≡ false → n ≡ 0 → o ≡ 0 → ⊥
not_both n o e a b = let z : true ≡ false = simp (eq-eqb n 0 a, eq-eqb o 0 b) at e in absurd_eq (cc)

module _ (o n : ℕ) where
  pub size_none : n ≡ 0 → o ≡ 0 → 0 ≡ config_size o n
  unfolding config_size
  size_none h e = rw (eq-eqb n 0 h, eq-eqb o 0 e)

  pub size_some : (n ≡ 0 → o ≡ 0 → ⊥) → 1 + (length (length_bytes (2 + 17 * n)) + (2 + 17 * n)) ≡ config_size o n
  unfolding config_size
  size_some h =
      split (eqb n 0)
      (λ a. rw (a, ne_eqb o 0 (h (eqb-true n 0 a))))
      (λ a. rw a)

-- the size of Config is what its bytes are
pub config_length : (s : List ℕ) (o : ℕ) (ms : List Mapping) → Each (MappingFits s) ms → length (config_at s o ms) ≡ config_size o (length ms)
config_length s o ms f =
    let es = entries_at s ms in
    let c = entries_count s ms in
    let z = entries_size s ms f in
    split (eqb (length ms) 0 && eqb o 0)
    (λ e. let p = both_zero (length ms) o e in
    ap length (config_none o es (omega arith) p.1) ∙ size_none o (length ms) p.0 p.1)
    (λ e. let some : length ms ≡ 0 → o ≡ 0 → ⊥ = not_both (length ms) o e in
    let v = digits 256 2 o ++ entries_bytes es in
    let l = length_bytes (2 + length (entries_bytes es)) in
    let a = ap length (config_bytes_lem o es (λ x y. some (omega arith) y)) in
    let b = length-append (tag_bytes 1) (l ++ v) in
    let d = length-append l v in
    let g = length-append (digits 256 2 o) (entries_bytes es) in
    let k = length_digits 256 2 o in
    let t : length (tag_bytes 1) ≡ 1 = ap length (tag_short 1 (omega arith)) in
    let m : length l ≡ length (length_bytes (2 + 17 * length ms)) = ap (λ (n : ℕ). length (length_bytes (2 + n))) z in
    let q = size_some o (length ms) some in
    omega arith)

-- Config is written, or there is none
module _ (s : List ℕ) (o : ℕ) (ms : List Mapping) (xs : List ℕ) (at : ℕ) where
  pub config_skipped : length ms ≡ 0 → o ≡ 0 → Wrote xs at (config_at s o ms) at xs
  config_skipped n e = let c = entries_count s ms in rw (config_none o (entries_at s ms) (omega arith) e) (wrote_none xs at)

  pub config_begins : Each (MappingFits s) ms → (length ms + o ≡ 0 → ⊥) → at + length (config_at s o ms) ≤ length xs
      → Writing xs at (config_at s o ms) xs at (tag_bytes 1 ++ (length_bytes (2 + 17 * length ms) ++ (digits 256 2 o ++ entries_bytes (entries_at s ms))))
  config_begins fits some h =
      let es = entries_at s ms in
      let c = entries_count s ms in
      writing_as
      (config_bytes_lem o es (λ x y. some (omega arith))
      ∙ ap (λ (k : ℕ). tag_bytes 1 ++ (length_bytes (2 + k) ++ (digits 256 2 o ++ entries_bytes es))) (entries_size s ms fits))
      (writing_begins xs at (config_at s o ms) h)
