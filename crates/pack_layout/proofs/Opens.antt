-- What the reader accepts of a pack's opening and of the whole pack, as `Accepts` says it of items: derivations that the reader's result has and that
-- have the reader's result.
use mathlib.Core.Path.{◌≡◌, refl, sym, ap, ap₂, subst, ◌∙◌}
use mathlib.Core.List.{List, [], ◌∷◌, ◌++◌, append_assoc, append-nil}
use mathlib.Core.Bool.{true, false}
use Prim.Native.Nat.{ℕ, zero, suc, ◌+◌, ◌-◌, ◌<◌, ◌≤◌}
use native.Mathlib.Omega.{arith}
use lib.Dec.{ltb, leb, eqb}
use lib.ListN.{length, take, drop, length-take}
use borrow.Author.Tests.{ltb-true, ltb-false, leb-false, eqb-true, eqb-false, le-ltb, ne_eqb}
use Rattle.runs.specs.Digits.{Bytes}
use Rattle.runs.specs.Same.{same}
use Rattle.runs.proofs.Cases.{split, absurd_eq}
use Rattle.runs.proofs.Same.{same_refl, same_true}
use Rattle.refusals.specs.declared.Refusal.TheVariants as R
use Rattle.refusals.specs.Outcomes.{Outcome, fine, refused, and_then}
use Rattle.numbers.specs.Reads.{Reads, read, malformed, cut}
use Rattle.numbers.specs.Tags.{tag_at}
use Rattle.numbers.specs.Lengths.{length_at}
use Rattle.numbers.specs.Big.{big_at}
use Rattle.numbers.proofs.Tags.{tag_next}
use Rattle.pack.specs.Fixed.{key, pack_cap, mapping_cap}
use Rattle.pack.specs.Payloads.{payload_at, Found, whole, wrong}
use Rattle.std.specs.Prelude.{Ok, Err}
use Rattle.pack.proofs.Same.{same_whole}
use Rattle.pack.specs.Config.{Mapping, tags_of, labels_of, clashes, mapping_at, mappings_from, config_maps}
use Rattle.pack.specs.Items.{items_from}
use Rattle.pack.specs.Reading.{Read, Opening, value_start, config_of, opening_at, pack_ground, read_from, reading}
use Rattle.pack.proofs.Turns.{mappings_end, mappings_turn, mapping_fine}
use Rattle.refusals.proofs.Outcomes.{then_fine, then_was}
use Rattle.pack_layout.proofs.Accepts.{ItemsRead, items_run, items_of}

-- the mapping of the tag t to the label that stands at n of c
abbrev pub mapping_of : List ℕ → ℕ → ℕ → Mapping
mapping_of c t n = record { tag = t; stands = take 16 (drop n c); place = n }

-- the mappings of the part c from `at` on, after those of `seen`
pub data MappingsRead (c : List ℕ) : ℕ → List Mapping → List Mapping → Type 0 where
  none_mapped : {at : ℕ} {seen : List Mapping} → length c ≤ at → MappingsRead c at seen []
  next_mapped : {at : ℕ} {seen more : List Mapping} (t n : ℕ) → length seen < mapping_cap → tag_at c at ≡ read t n → n + 16 ≤ length c
      → clashes (tags_of seen) (labels_of seen) t (take 16 (drop n c)) ≡ false
      → MappingsRead c (n + 16) (seen ++ (mapping_of c t n ∷ [])) more → MappingsRead c at seen (mapping_of c t n ∷ more)

-- a mapping that is read
pub record MappingRead (c : List ℕ) (seen : List Mapping) (at : ℕ) (m : Mapping) : Type 0 where
  pub t : ℕ
  pub n : ℕ
  pub few : length seen < mapping_cap
  pub tag : tag_at c at ≡ read t n
  pub room : n + 16 ≤ length c
  pub apart : clashes (tags_of seen) (labels_of seen) t (take 16 (drop n c)) ≡ false
  pub is : mapping_of c t n ≡ m

-- mappings that are read after those of `seen`
record MappingsAfter (c : List ℕ) (at : ℕ) (seen ms : List Mapping) : Type 0 where
  more : List Mapping
  whole : seen ++ more ≡ ms
  reads : MappingsRead c at seen more

one_more : {c : List ℕ} {seen : List Mapping} {at : ℕ} {m : Mapping} {ms : List Mapping} (d : MappingRead c seen at m)
    → MappingsAfter c (d.n + 16) (seen ++ (mapping_of c d.t d.n ∷ [])) ms → MappingsAfter c at seen ms
one_more {c} {seen} d r =
    let w = mapping_of c d.t d.n in
    record {
      more = w ∷ r.more;
      whole = sym (append_assoc seen (w ∷ []) r.more) ∙ r.whole;
      reads = next_mapped d.t d.n d.few d.tag d.room d.apart r.reads;
    }

module _ (c : List ℕ) (place : ℕ) where
  pub mapping_of_lem : (seen : List Mapping) (at : ℕ) (m : Mapping) → mapping_at c place seen at ≡ fine m → MappingRead c seen at m
  unfolding mapping_at
  mapping_of_lem seen at m h =
      split (leb mapping_cap (length seen))
      (λ a. let i : refused R.Count place ≡ fine m = simp a at h in absurd_eq (cc))
      (λ a. tagged (tag_at c at) refl a)
    where
      tagged : (r : Reads) → tag_at c at ≡ r → leb mapping_cap (length seen) ≡ false → MappingRead c seen at m
      tagged malformed e a = let i : refused R.Tag place ≡ fine m = simp (a, e) at h in absurd_eq (cc)
      tagged cut e a = let i : refused R.Config place ≡ fine m = simp (a, e) at h in absurd_eq (cc)
      tagged (read t n) e a =
          split (ltb (length c - n) 16)
          (λ b. let i : refused R.Config place ≡ fine m = simp (a, e, b) at h in absurd_eq (cc))
          (λ b. split (clashes (tags_of seen) (labels_of seen) t (take 16 (drop n c)))
          (λ d. let i : refused R.Map place ≡ fine m = simp (a, e, b, d) at h in absurd_eq (cc))
          (λ d. let i : fine (mapping_of c t n) ≡ fine m = simp (a, e, b, d) at h in
          let x : 16 ≤ length c - n = ltb-false _ _ b in
          record { t = t; n = n; few = leb-false _ _ a; tag = e; room = omega arith; apart = d; is = cc }))

  -- what comes after a mapping
  abbrev pub next : (k : ℕ) (seen : List Mapping) → Mapping → Outcome (List Mapping)
  next k seen m = mappings_from k c place (seen ++ (m ∷ [])) (m.place + 16)

  pub mappings_run : (k : ℕ) {at : ℕ} {seen more : List Mapping} → MappingsRead c at seen more → length c ≤ at + k
      → mappings_from k c place seen at ≡ fine (seen ++ more)
  mappings_run k (none_mapped {at = at} {seen = seen} h) g = mappings_end c place seen at k h ∙ ap fine (sym (append-nil seen))
  mappings_run zero (next_mapped {at = at} t n u e r a d) g = let x = tag_next c at t n e in absurd (omega arith)
  mappings_run (suc k) (next_mapped {at = at} {seen = seen} {more = more} t n u e r a d) g =
      let x = tag_next c at t n e in
      let m = mapping_of c t n in
      mappings_turn c place seen at k refl (omega arith) (mapping_fine c place seen at u t n e (omega arith) a) ∙ then_fine (next k seen) refl
      ∙ mappings_run k d (omega arith) ∙ ap fine (append_assoc seen (m ∷ []) more)

  rest_of : (k : ℕ) (seen : List Mapping) (at : ℕ) (ms : List Mapping) → length c ≤ at + k → mappings_from k c place seen at ≡ fine ms → MappingsAfter c at seen ms
  unfolding mappings_from
  rest_of zero seen at ms g h = let z : seen ≡ ms = cc in record { more = []; whole = append-nil seen ∙ z; reads = none_mapped {at = at} (omega arith) }
  rest_of (suc k) seen at ms g h =
      split (ltb at (length c))
      (λ a. let i = then_was (mapping_at c place seen at) (next k seen) (sym (mappings_turn c place seen at k refl (ltb-true _ _ a) refl) ∙ h) in
      let d = mapping_of_lem seen at i.0 i.1 in
      let x = tag_next c at d.t d.n d.tag in
      one_more d (rest_of k (seen ++ (mapping_of c d.t d.n ∷ [])) (d.n + 16) ms (omega arith) (ap (next k seen) d.is ∙ i.2)))
      (λ a. let i : fine seen ≡ fine ms = simp a at h in
      let z : seen ≡ ms = cc in
      record { more = []; whole = append-nil seen ∙ z; reads = none_mapped (ltb-false _ _ a) })

  pub mappings_of : (k at : ℕ) (ms : List Mapping) → length c ≤ at + k → mappings_from k c place [] at ≡ fine ms → MappingsRead c at [] ms
  mappings_of k at ms g h = let r = rest_of k [] at ms g h in subst (MappingsRead c at []) r.whole r.reads

-- a pack's opening at `at`: its offset, its mappings, and where its items start
pub data OpeningRead (s : List ℕ) (at : ℕ) : ℕ → List Mapping → ℕ → Type 0 where
  no_config_read : ((v l : ℕ) → payload_at s at ≡ whole 1 v l → ⊥) → OpeningRead s at 0 [] at
  config_read : {ms : List Mapping} (v l : ℕ) → payload_at s at ≡ whole 1 v l → 2 ≤ l → MappingsRead (take (v + l) s) (v + 2) [] ms
      → OpeningRead s at (big_at s v 2) ms (v + l)

abbrev opening : ℕ → List Mapping → ℕ → Opening
opening o ms next = record { offset = o; mappings = ms; next = next }

module _ (s : List ℕ) (at : ℕ) where
  config_is : (v l : ℕ) (ms : List Mapping) → 2 ≤ l → MappingsRead (take (v + l) s) (v + 2) [] ms → config_of s at v l ≡ fine (opening (big_at s v 2) ms (v + l))
  unfolding config_maps and_then
  config_is v l ms h r =
      simp (le-ltb _ _ h)
      (then_fine (λ ms. fine (opening (big_at s v 2) ms (v + l))) (mappings_run (take (v + l) s) at l r (simp length-take (omega arith))))

  config_of_lem : (v l : ℕ) (o : Opening) → payload_at s at ≡ whole 1 v l → config_of s at v l ≡ fine o → OpeningRead s at o.offset o.mappings o.next
  unfolding config_maps and_then
  config_of_lem v l o e h =
      split (ltb l 2)
      (λ a. let i : refused R.Config at ≡ fine o = simp a at h in absurd_eq (cc))
      (λ a. let i = then_was (mappings_from l (take (v + l) s) at [] (v + 2)) (λ ms. fine (opening (big_at s v 2) ms (v + l))) (simp a at h) in
      let j = mappings_of (take (v + l) s) at l (v + 2) i.0 (simp length-take (omega arith)) i.1 in
      let z : opening (big_at s v 2) i.0 (v + l) ≡ o = (let x = i.2 in cc) in
      subst (λ (p : Opening). OpeningRead s at p.offset p.mappings p.next) z (config_read v l e (ltb-false _ _ a) j))

  pub opening_run : {o next : ℕ} {ms : List Mapping} → OpeningRead s at o ms next → opening_at s at ≡ fine (record { offset = o; mappings = ms; next = next })
  unfolding opening_at
  opening_run (no_config_read none) = found (payload_at s at) refl
    where
      found : (f : Found) → payload_at s at ≡ f → opening_at s at ≡ fine (opening 0 [] at)
      found (Err why) e = simp e
      found (Ok x) e =
          let t = x.tag in
          let v = x.value.start in
          let l = x.value.len in
          simp (e, ne_eqb t 1 (λ z. none v l (e ∙ ap (λ (n : ℕ). whole n v l) z)))
  opening_run (config_read {ms = ms} v l e h r) = simp e (config_is v l ms h r)

  pub opening_of : (o : Opening) → opening_at s at ≡ fine o → OpeningRead s at o.offset o.mappings o.next
  unfolding opening_at
  opening_of o h = found (payload_at s at) refl
    where
      plain : fine (opening 0 [] at) ≡ fine o → ((v l : ℕ) → payload_at s at ≡ whole 1 v l → ⊥) → OpeningRead s at o.offset o.mappings o.next
      plain i none = let z : opening 0 [] at ≡ o = cc in subst (λ (p : Opening). OpeningRead s at p.offset p.mappings p.next) z (no_config_read none)

      found : (f : Found) → payload_at s at ≡ f → OpeningRead s at o.offset o.mappings o.next
      found (Err why) e = plain (simp e at h) (λ v l g. let i : wrong why ≡ whole 1 v l = sym e ∙ g in absurd_eq (cc))
      found (Ok x) e =
          let t = x.tag in
          let v = x.value.start in
          let l = x.value.len in
          split (eqb t 1)
          (λ a. config_of_lem v l o (e ∙ ap (λ (n : ℕ). whole n v l) (eqb-true _ _ a)) (simp (e, a) at h))
          (λ a. plain (simp (e, a) at h) (λ w m g. eqb-false t 1 a (same_whole e g).0))

-- where the value of the pack s starts
pub record StartRead (s : List ℕ) (start : ℕ) : Type 0 where
  pub small : length s ≤ pack_cap
  pub keyed : take 16 s ≡ key
  pub long : 16 ≤ length s
  pub size : length_at s 16 ≡ read (length s - start) start

module _ (s : List ℕ) (start : ℕ) where
  pub start_run : StartRead s start → value_start s ≡ fine start
  unfolding value_start
  start_run r =
      let a = r.small in
      let b = r.long in
      let x : length s - start ≤ length s - start = omega arith in
      simp (le-ltb _ _ a, le-ltb _ _ b, r.keyed, same_refl, r.size, le-ltb _ _ x)

  pub start_of : value_start s ≡ fine start → StartRead s start
  unfolding value_start
  start_of h =
      split (ltb pack_cap (length s))
      (λ a. let i : refused R.Big 0 ≡ fine start = simp a at h in absurd_eq (cc))
      (λ a. split (ltb (length s) 16)
      (λ b. let i : refused R.Short 0 ≡ fine start = simp (a, b) at h in absurd_eq (cc))
      (λ b. split (same (take 16 s) key)
      (λ k. sized (length_at s 16) refl a b k)
      (λ k. let i : refused R.Key 0 ≡ fine start = simp (a, b, k) at h in absurd_eq (cc))))
    where
      sized : (r : Reads) → length_at s 16 ≡ r → ltb pack_cap (length s) ≡ false → ltb (length s) 16 ≡ false → same (take 16 s) key ≡ true → StartRead s start
      sized malformed e a b k = let i : refused R.Length 16 ≡ fine start = simp (a, b, k, e) at h in absurd_eq (cc)
      sized cut e a b k = let i : refused R.Short 0 ≡ fine start = simp (a, b, k, e) at h in absurd_eq (cc)
      sized (read l n) e a b k =
          split (ltb (length s - n) l)
          (λ c. let i : refused R.Short 0 ≡ fine start = simp (a, b, k, e, c) at h in absurd_eq (cc))
          (λ c. split (ltb l (length s - n))
          (λ d. let i : refused R.Trail 0 ≡ fine start = simp (a, b, k, e, c, d) at h in absurd_eq (cc))
          (λ d. let i : fine n ≡ fine start = simp (a, b, k, e, c, d) at h in
          let z : n ≡ start = cc in
          let y : l ≡ length s - start = omega (arith, ltb-false) in
          record { small = ltb-false _ _ a; keyed = same_true _ _ k; long = ltb-false _ _ b; size = e ∙ ap₂ read y z }))

-- a pack that is read
pub record PackRead (s : List ℕ) (r : Read) : Type 0 where
  pub start : ℕ
  pub next : ℕ
  pub begins : StartRead s start
  pub opens : OpeningRead s start r.offset r.mappings next
  pub items : ItemsRead s (pack_ground r.offset r.mappings) next 0 r.body.parts r.body.crc

pub reading_run : (s : List ℕ) (r : Read) → PackRead s r → reading s ≡ fine r
unfolding reading read_from
reading_run s r p =
    then_fine (λ at. and_then (opening_at s at) (read_from s)) (start_run s p.start p.begins)
    ∙ then_fine (read_from s) (opening_run s p.start p.opens)
    ∙ then_fine (λ b. fine (record { offset = r.offset; mappings = r.mappings; body = b })) (items_run s (pack_ground r.offset r.mappings) (length s) p.items (omega arith))

pub reading_of : (s : List ℕ) (r : Read) → Bytes s → reading s ≡ fine r → PackRead s r
unfolding reading read_from
reading_of s r b h =
    let i = then_was (value_start s) (λ at. and_then (opening_at s at) (read_from s)) h in
    let j = then_was (opening_at s i.0) (read_from s) i.2 in
    let o = j.0 in
    let k = then_was (items_from (length s) s (pack_ground o.offset o.mappings) o.next 0) (λ b. fine (record { offset = o.offset; mappings = o.mappings; body = b })) j.2 in
    let z : ◌≡◌ {A = Read} (record { offset = o.offset; mappings = o.mappings; body = k.0 }) r = (let x = k.2 in cc) in
    subst (PackRead s) z
    (record {
      start = i.0;
      next = o.next;
      begins = start_of s i.0 i.1;
      opens = opening_of s i.0 o j.1;
      items = items_of s (pack_ground o.offset o.mappings) (length s) o.next 0 k.0 b (omega arith) k.1;
    })
