-- What is wrong with a pack is refused: the reader goes past its start, its Config and the chunks that are laid out well.
use mathlib.Core.Path.{◌≡◌, refl, sym, ap, subst, ◌∙◌}
use mathlib.Core.List.{List, [], ◌∷◌, ◌++◌, append_assoc}
use Prim.Native.Nat.{ℕ, ◌+◌, ◌-◌, ◌≤◌}
use native.Mathlib.Omega.{arith}
use lib.ListN.{length, drop, length-append, length-drop}
use Rattle.runs.specs.Digits.{Bytes}
use Rattle.runs.proofs.Cases.{absurd_eq}
use Rattle.refusals.specs.declared.Refusal.{Refusal}
use Rattle.refusals.specs.Outcomes.{fine, refused, and_then}
use Rattle.refusals.proofs.Outcomes.{then_fine, then_refused}
use Rattle.numbers.specs.Lengths.{form_bytes}
use Rattle.numbers.proofs.Lengths.{length_next}
use Rattle.pack.specs.Fixed.{key}
use Rattle.pack.specs.Payloads.{payload_at, Ground, whole, wrong}
use Rattle.pack.proofs.Same.{same_whole}
use Rattle.numbers.specs.Big.{big_at}
use Rattle.pack.specs.Config.{labels_of}
use Rattle.pack.specs.Items.{items_from}
use Rattle.pack.specs.Reading.{value_start, config_of, opening_at, pack_ground, read_from, reading}
use Rattle.pack_layout.specs.Layout.{Chunk, plain, group, ConfigLaid, no_config, config, element, group_bytes, chunks_bytes, config_bytes, entries_laid, offset_laid}
use Rattle.pack_layout.specs.Well.{WellChunks, WellConfig}
use Rattle.pack_layout.specs.Refused.{Has, NoElement, NoItem, item_broken, late_config, early_crc, item_too_many, long_crc, wrong_crc, empty_sync, NoConfig, Framed, Front, Refused, too_big, too_short, other_key, pack_bad_length, pack_runs_out, pack_trails, in_config, at_item, in_sync}
use Rattle.pack_layout.proofs.Elements.{has_back}
use Rattle.pack_layout.proofs.Opens.{no_config_read, opening_run, start_run}
use Rattle.pack_layout.proofs.Packs.{Started, start_laid, Opened, config_laid, names_mean}
use Rattle.pack_layout.proofs.Broken.{broken_element}
use Rattle.pack_layout.proofs.BrokenStart.{big_start, short_start, key_start, length_start, runs_out_start, trails_start}
use Rattle.pack_layout.proofs.Refuses.{no_item_refused, in_sync_refused, items_refused}
use Rattle.pack_layout.proofs.RefusesConfig.{config_refused}

-- the start and the value of a pack, where the reader finds them
record FrameRead (s start value : List ℕ) : Type 0 where
  found : Started s value
  long : length start ≡ found.start

frame_read : (s start value : List ℕ) → Framed s start value → FrameRead s start value
frame_read s start value f =
    let a = start_laid s value f.form (length value)
    (f.is ∙ ap (λ (l : List ℕ). l ++ value) f.begins ∙ append_assoc key (form_bytes f.form (length value)) value) refl f.fits f.small in
    let x = length_next s 16 (length s - a.start) a.start a.begins.size in
    record { found = a; long = omega (arith, ap length f.is, length-append start value, length-drop a.start s, ap length a.stands) }

-- what stands at `at`
module _ (s : List ℕ) (at : ℕ) where
  -- a payload of the tag t that is found with the tag 1
  one_there : {t : ℕ} {u rest w : List ℕ} → Has w t u rest → drop at s ≡ w → (v l : ℕ) → payload_at s at ≡ whole 1 v l → t ≡ 1
  one_there {t} {u} {rest} h e v l g =
      let r = has_back s at t u rest (subst (λ (x : List ℕ). Has x t u rest) (sym e) h) in
      (same_whole r.found g).0

  -- what is no item although nothing stands before it does not begin with a Config
  none_first : {start content w : List ℕ} {used : ℕ} {why : Refusal} → Bytes s → NoItem start content w used why → length content ≡ 0 → drop at s ≡ w
      → (v l : ℕ) → payload_at s at ≡ whole 1 v l → ⊥
  none_first {why = why} b (item_broken n) z e v l g =
      let r = broken_element s at why b (subst (λ (x : List ℕ). NoElement x why) (sym e) n) in absurd_eq (let i = sym r.1 ∙ g in cc)
  none_first b (late_config u rest h some) z e v l g = omega arith
  none_first b (early_crc u rest h some) z e v l g = omega (arith, one_there h e v l g)
  none_first b (item_too_many t u rest h n1 n3 full) z e v l g = n1 (one_there h e v l g)
  none_first b (long_crc u h other) z e v l g = omega (arith, one_there h e v l g)
  none_first b (wrong_crc u h four wrong) z e v l g = omega (arith, one_there h e v l g)
  none_first b (empty_sync u rest h room few) z e v l g = omega (arith, one_there h e v l g)

  -- nor do well-formed chunks
  no_config_first : (cs : List Chunk) (w : List ℕ) → drop at s ≡ chunks_bytes cs ++ w → WellChunks cs
      → (length (chunks_bytes cs) ≡ 0 → drop at s ≡ w → (v l : ℕ) → payload_at s at ≡ whole 1 v l → ⊥) → (v l : ℕ) → payload_at s at ≡ whole 1 v l → ⊥
  unfolding chunks_bytes
  no_config_first [] w e well none v l g = none refl e v l g
  no_config_first (plain x ∷ cs) w e well none v l g =
      let y = well.0 in
      let bytes = element x.tag x.form x.value in
      let h : Has (drop at s) x.tag x.value (chunks_bytes cs ++ w) =
      record { form = x.form; tagged = (omega (arith, y.above), y.below); fits = y.fits; is = e ∙ append_assoc bytes (chunks_bytes cs) w } in
      omega (arith, y.above, one_there h refl v l g)
  no_config_first (group form o d xs ∷ cs) w e well none v l g =
      let bytes = element 2 form (group_bytes o d xs) in
      let h : Has (drop at s) 2 (group_bytes o d xs) (chunks_bytes cs ++ w) =
      record { form = form; tagged = (omega arith, omega arith); fits = well.0.fits; is = e ∙ append_assoc bytes (chunks_bytes cs) w } in
      omega (arith, one_there h refl v l g)

  -- the opening that is laid out is read, unless what follows nothing is a Config
  opening_back : (first : ConfigLaid) (cs : List Chunk) (w : List ℕ) → drop at s ≡ config_bytes first ++ (chunks_bytes cs ++ w) → WellConfig first → WellChunks cs
      → (length (config_bytes first ++ chunks_bytes cs) ≡ 0 → drop at s ≡ w → (v l : ℕ) → payload_at s at ≡ whole 1 v l → ⊥)
      → Opened s at first (chunks_bytes cs ++ w)
  unfolding config_bytes
  opening_back no_config cs w e well items none =
      record { mappings = []; next = at; opens = no_config_read (no_config_first cs w e items none); entries = refl; stands = e }
  opening_back (config form o ms) cs w e well items none = config_laid s (chunks_bytes cs ++ w) at form o ms e well

module _ (s : List ℕ) (b : Bytes s) where
  -- a Config that is wrong
  config_back : (start value c rest : List ℕ) {why : Refusal} → Framed s start value → Has value 1 c rest → NoConfig c why → reading s ≡ refused why (length start)
  unfolding reading opening_at
  config_back start value c rest {why} f h n =
      let a = frame_read s start value f in
      let at = a.found.start in
      let r = has_back s at 1 c rest (subst (λ (l : List ℕ). Has l 1 c rest) (sym a.found.stands) h) in
      let v = r.from in
      let l = length c in
      let stops : config_of s at v l ≡ refused why at =
      then_refused (λ ms. fine (record { offset = big_at s v 2; mappings = ms; next = v + l })) (config_refused s at v c rest b r.stands n) in
      let opens : opening_at s at ≡ refused why at = simp r.found stops in
      then_fine (λ n. and_then (opening_at s n) (read_from s)) (start_run s at a.found.begins) ∙ then_refused (read_from s) opens
      ∙ ap (refused why) (sym a.long)

  -- items that are wrong after what is laid out well
  items_back : {used place : ℕ} {why : Refusal} (start content w : List ℕ) → Framed s start (content ++ w) → Front content used
      → (length content ≡ 0 → (at : ℕ) → drop at s ≡ w → (v l : ℕ) → payload_at s at ≡ whole 1 v l → ⊥)
      → ((grounds : Ground) (k at : ℕ) → drop at s ≡ w → length s ≤ at + k → items_from k s grounds at used ≡ refused why place) → reading s ≡ refused why place
  unfolding reading read_from
  items_back {used} start content w f d none stop =
      let a = frame_read s start (content ++ w) f in
      let at = a.found.start in
      let first = d.first in
      let cs = d.chunks in
      let stands : drop at s ≡ config_bytes first ++ (chunks_bytes cs ++ w) =
      a.found.stands ∙ ap (λ (l : List ℕ). l ++ w) d.is ∙ append_assoc (config_bytes first) (chunks_bytes cs) w in
      let o = opening_back s at first cs w stands d.opening d.items (λ z e. none (ap length d.is ∙ z) at e) in
      let ms = o.mappings in
      let grounds = pack_ground (offset_laid first) ms in
      let stops = items_refused s grounds (labels_of ms) (entries_laid first) (names_mean ms (entries_laid first) o.entries) w used d.few (stop grounds) cs
      (length s) o.next 0 o.stands (omega (arith, d.count)) d.items (omega arith) in
      then_fine (λ n. and_then (opening_at s n) (read_from s)) (start_run s at a.found.begins) ∙ then_fine (read_from s) (opening_run s at o.opens)
      ∙ then_refused (λ body. fine (record { offset = offset_laid first; mappings = ms; body = body })) stops

  -- a wrong start
  start_back : {why : Refusal} {place : ℕ} → value_start s ≡ refused why place → reading s ≡ refused why place
  unfolding reading
  start_back e = then_refused (λ at. and_then (opening_at s at) (read_from s)) e

  -- what is wrong is refused
  pub refused_back : {why : Refusal} {place : ℕ} → Refused s why place → reading s ≡ refused why place
  refused_back (too_big h) = start_back (big_start s b h)
  refused_back (too_short h) = start_back (short_start s b h)
  refused_back (other_key h g k) = start_back (key_start s b h g k)
  refused_back (pack_bad_length h z e n) = start_back (length_start s b h z e n)
  refused_back (pack_runs_out h g form v fits l) = start_back (runs_out_start s b h g form v fits l)
  refused_back (pack_trails h form v more fits m e) = start_back (trails_start s b h form v more fits m e)
  refused_back (in_config start value c rest f h n) = config_back start value c rest f h n
  refused_back (at_item {used = used} start content w f d n) =
      items_back start content w f d (λ z at e. none_first s at b n z e) (λ grounds k at e g. no_item_refused s grounds b k at used start content w n f.is e g)
  refused_back (in_sync {used = used} start content w rest o d xs z f laid oFits dFits well few h n) =
      items_back start content w f laid (λ y at e v l g. omega (arith, one_there s at h e v l g))
      (λ grounds k at e g. in_sync_refused s grounds b k at used o d xs w z rest well few h n e g)
