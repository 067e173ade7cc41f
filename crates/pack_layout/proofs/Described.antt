-- Whatever is read is laid out so by some description: each derivation of the reader's result gives well-formed elements, chunks and mappings whose bytes
-- stand there.
use mathlib.Core.Path.{◌≡◌, refl, sym, ap, ap₂, subst, ◌∙◌}
use mathlib.Core.List.{List, [], ◌∷◌, ◌++◌, map, append_assoc, append-nil, map-append}
use mathlib.Core.Bool.{Bool, false}
use Prim.Native.Nat.{ℕ, suc, ◌+◌, ◌-◌, ◌<◌, ◌≤◌}
use native.Mathlib.Nat.{add_assoc}
use native.Mathlib.Omega.{arith}
use lib.ListN.{length, take, drop, length-append, length-drop, length-map, take-append-drop, drop_of_length-le}
use lib.Seq.{take_all, drop-drop, length-take-le}
use Rattle.runs.specs.Digits.{digits, Bytes}
use Rattle.runs.specs.Same.{among, listed}
use Rattle.runs.proofs.Digits.{length_digits}
use Rattle.runs.proofs.Below.{below_take}
use Rattle.numbers.specs.Reads.{read}
use Rattle.numbers.specs.Tags.{tag_at, tag_bytes}
use Rattle.numbers.specs.Lengths.{longest, form_bytes}
use Rattle.numbers.specs.Big.{big_at}
use Rattle.numbers.proofs.Tags.{tag_range, tag_canonical}
use Rattle.numbers.proofs.Big.{big_canonical, big_lt}
use Rattle.crc.specs.Crc.{crc_of}
use Rattle.pack.specs.Payloads.{payload_at, Ground, whole}
use Rattle.pack.specs.declared.Payload.{Payload}
use Rattle.pack.specs.Config.{Mapping, tags_of, labels_of, clashes}
use Rattle.pack.specs.Items.{Part, count_of}
use Rattle.pack.proofs.Payloads.{payload_within}
use Rattle.pack_layout.specs.Layout.{Element, Chunk, plain, group, ConfigLaid, no_config, config, CrcLaid, no_crc, crc, element, elements_bytes, group_bytes, chunks_bytes, entries_bytes, config_bytes}
use Rattle.pack_layout.specs.Well.{FormFits, WellElement, WellElements, WellGroup, WellChunks, WellEntry, WellEntries, WellConfig, chunks_count}
use Rattle.pack_layout.proofs.Parts.{part_bytes, two_bytes, after_two}
use Rattle.pack_layout.proofs.Elements.{payload_laid}
use Rattle.pack_layout.proofs.Accepts.{InnersRead, none_inside, next_inside, ItemsRead, ended, closed, next_plain, next_sync}
use Rattle.pack_layout.proofs.Opens.{mapping_of, MappingsRead, none_mapped, next_mapped, OpeningRead, no_config_read, config_read}
use Rattle.pack_layout.proofs.Entries.{entry_of, entries_more, apart_of}
use Rattle.pack_layout.proofs.Mapped.{tags_entries, labels_entries, moved}
use Rattle.pack_layout.proofs.Counts.{mappings_count}

-- the element that stands at `at` of q, before what follows from `next` on
pub record ElementDescribed (q : List ℕ) (at next : ℕ) : Type 0 where
  pub one : Element
  pub well : WellElement one
  pub stands : drop at q ≡ element one.tag one.form one.value ++ drop next q

pub element_described : (q : List ℕ) (at t v l : ℕ) → Bytes q → payload_at q at ≡ whole t v l → 3 < t → ElementDescribed q at (v + l)
element_described q at t v l b e h =
    let d = payload_laid q at t v l b e in
    record {
      one = record { tag = t; form = d.form; value = take l (drop v q) };
      well = record { above = h; below = d.high; fits = d.fits; bytes = part_bytes q v l b };
      stands = d.stands;
    }

-- the elements that stand from `at` of q on
record ElementsDescribed (q : List ℕ) (at n : ℕ) : Type 0 where
  elements : List Element
  well : WellElements elements
  stands : drop at q ≡ elements_bytes elements
  count : length elements ≡ n

inners_described : {q : List ℕ} {grounds : Ground} {base at used : ℕ} {ps : List Payload} → Bytes q → InnersRead q grounds base at used ps → ElementsDescribed q at (length ps)
unfolding elements_bytes
inners_described {q} b (none_inside h) = record { elements = []; well = tt; stands = drop_of_length-le q h; count = refl }
inners_described {q} b (next_inside {at = at} t v l e h u r) =
    let d = element_described q at t v l b e h in
    let x = d.one in
    let i = inners_described b r in
    record {
      elements = x ∷ i.elements;
      well = (d.well, i.well);
      stands = d.stands ∙ ap (λ (y : List ℕ). element x.tag x.form x.value ++ y) i.stands;
      count = ap suc i.count;
    }

-- what closes the pack: nothing, or a CRC whose value stands from v on
pub data Closing (s : List ℕ) : CrcLaid → List ℕ → Type 0 where
  bare : Closing s no_crc []
  with_crc : (form v : ℕ) → form ≤ longest → v + 4 ≡ length s → drop v s ≡ digits 256 4 (crc_of (take v s))
      → Closing s (crc form) (tag_bytes 3 ++ (form_bytes form 4 ++ drop v s))

-- the Sync with n payloads that stands at `at` of s, before what follows from `next` on
pub record SyncDescribed (s : List ℕ) (at next n : ℕ) : Type 0 where
  pub form : ℕ
  pub offset : ℕ
  pub duration : ℕ
  pub elements : List Element
  pub well : WellGroup form offset duration elements
  pub stands : drop at s ≡ element 2 form (group_bytes offset duration elements) ++ drop next s
  pub count : length elements ≡ n

-- the chunks that stand from `at` of s on, and what closes the pack
pub record ChunksDescribed (s : List ℕ) (at n : ℕ) : Type 0 where
  pub chunks : List Chunk
  pub last : CrcLaid
  pub tail : List ℕ
  pub well : WellChunks chunks
  pub stands : drop at s ≡ chunks_bytes chunks ++ tail
  pub closes : Closing s last tail
  pub count : chunks_count chunks ≡ n

module _ (s : List ℕ) (b : Bytes s) where
  crc_described : (at v : ℕ) → payload_at s at ≡ whole 3 v 4 → v + 4 ≡ length s → big_at s v 4 ≡ crc_of (take v s) → ChunksDescribed s at 0
  unfolding chunks_bytes chunks_count
  crc_described at v e z c =
      let d = payload_laid s at 3 v 4 b e in
      let value : take 4 (drop v s) ≡ drop v s = take_all 4 (drop v s) (simp length-drop (omega arith)) in
      let none : drop (v + 4) s ≡ [] = drop_of_length-le s {i = v + 4} (omega arith) in
      let good : drop v s ≡ digits 256 4 (crc_of (take v s)) = sym value ∙ sym (big_canonical s v 4 b (omega arith)) ∙ ap (digits 256 4) c in
      let four : length (drop v s) ≡ 4 = simp length-drop (omega arith) in
      record {
        chunks = [];
        last = crc d.form;
        tail = tag_bytes 3 ++ (form_bytes d.form 4 ++ drop v s);
        well = tt;
        stands =
            d.stands ∙ ap₂ (λ (x y : List ℕ). element 3 d.form x ++ y) value none ∙ append-nil (element 3 d.form (drop v s))
            ∙ ap (λ (n : ℕ). tag_bytes 3 ++ (form_bytes d.form n ++ drop v s)) four;
        closes = with_crc d.form v d.fits.0 z good;
        count = refl;
      }

  -- a Sync's value
  pub group_value : (v l : ℕ) → v + l ≤ length s → 4 ≤ l
      → take l (drop v s) ≡ digits 256 2 (big_at s v 2) ++ (digits 256 2 (big_at s (v + 2) 2) ++ take (l - 4) (drop (v + 4) s))
  group_value v l h g =
      let x : l - 2 - 2 ≡ l - 4 = omega arith in
      two_bytes s v l b h (omega arith)
      ∙ ap (λ (y : List ℕ). digits 256 2 (big_at s v 2) ++ y)
      (two_bytes s (v + 2) (l - 2) b (omega arith) (omega arith)
      ∙ ap (λ (y : List ℕ). digits 256 2 (big_at s (v + 2) 2) ++ y) (ap₂ (λ (m n : ℕ). take m (drop n s)) x (add_assoc v 2 2)))

  -- a Sync that is read
  pub sync_described : {grounds : Ground} {base used : ℕ} {ps : List Payload} (at v l : ℕ) → payload_at s at ≡ whole 2 v l → 4 ≤ l → 0 < length ps
      → InnersRead (take (l - 4) (drop (v + 4) s)) grounds base 0 used ps → SyncDescribed s at (v + l) (length ps)
  sync_described at v l e h n inner =
      let d = payload_laid s at 2 v l b e in
      let x = payload_within s at 2 v l e in
      let j = inners_described (part_bytes s (v + 4) (l - 4) b) inner in
      let o = big_at s v 2 in
      let duration = big_at s (v + 2) 2 in
      let value : take l (drop v s) ≡ group_bytes o duration j.elements =
      group_value v l (omega arith) h ∙ ap (λ (y : List ℕ). digits 256 2 o ++ (digits 256 2 duration ++ y)) j.stands in
      record {
        form = d.form;
        offset = o;
        duration = duration;
        elements = j.elements;
        well = record {
          fits = subst (λ (y : List ℕ). FormFits d.form (length y)) value d.fits;
          offset = big_lt s v 2 b;
          duration = big_lt s (v + 2) 2 b;
          some = omega (arith, j.count);
          all = j.well;
        };
        stands = d.stands ∙ ap (λ (y : List ℕ). element 2 d.form y ++ drop (v + l) s) value;
        count = j.count;
      }

  pub items_described : {grounds : Ground} {at used : ℕ} {parts : List Part} {mark : Bool} → ItemsRead s grounds at used parts mark → ChunksDescribed s at (count_of parts)
  unfolding chunks_bytes chunks_count count_of
  items_described (ended h) = record {
    chunks = [];
    last = no_crc;
    tail = [];
    well = tt;
    stands = drop_of_length-le s h;
    closes = bare;
    count = refl;
  }
  items_described (closed {at = at} v e z c) = crc_described at v e z c
  items_described (next_plain {at = at} t v l e h u r) =
      let d = element_described s at t v l b e h in
      let x = d.one in
      let i = items_described r in
      let bytes = element x.tag x.form x.value in
      record {
        chunks = plain x ∷ i.chunks;
        last = i.last;
        tail = i.tail;
        well = (d.well, i.well);
        stands = d.stands ∙ ap (λ (y : List ℕ). bytes ++ y) i.stands ∙ sym (append_assoc bytes (chunks_bytes i.chunks) i.tail);
        closes = i.closes;
        count = ap (λ (n : ℕ). 1 + n) i.count;
      }
  items_described (next_sync {at = at} v l ps e h u n inner r) =
      let d = sync_described at v l e h n inner in
      let i = items_described r in
      let bytes = element 2 d.form (group_bytes d.offset d.duration d.elements) in
      record {
        chunks = group d.form d.offset d.duration d.elements ∷ i.chunks;
        last = i.last;
        tail = i.tail;
        well = (d.well, i.well);
        stands = d.stands ∙ ap (λ (y : List ℕ). bytes ++ y) i.stands ∙ sym (append_assoc bytes (chunks_bytes i.chunks) i.tail);
        closes = i.closes;
        count = ap₂ (λ (m n : ℕ). 1 + m + n) d.count i.count;
      }

-- the mapping that stands at `at` of c
pub entry_stands : (c : List ℕ) (at t n : ℕ) → Bytes c → tag_at c at ≡ read t n → drop at c ≡ tag_bytes t ++ (take 16 (drop n c) ++ drop (n + 16) c)
entry_stands c at t n b e =
    (tag_canonical c at t n b e).0
    ∙ ap (λ (x : List ℕ). tag_bytes t ++ x) (sym (take-append-drop 16 (drop n c)) ∙ ap (λ (x : List ℕ). take 16 (drop n c) ++ x) (drop-drop 16 n c))

-- the mappings that stand from `at` of c on
entries_stand : {c : List ℕ} {at : ℕ} {seen more : List Mapping} → Bytes c → MappingsRead c at seen more → drop at c ≡ entries_bytes (map entry_of more)
unfolding entries_bytes
entries_stand {c} b (none_mapped h) = drop_of_length-le c h
entries_stand {c} b (next_mapped {at = at} {more = more} t n few e room apart r) =
    entry_stands c at t n b e ∙ ap (λ (x : List ℕ). tag_bytes t ++ (take 16 (drop n c) ++ x)) (entries_stand b r)

-- a mapping that is read after well-formed ones is well-formed with them
pub entry_well : (c : List ℕ) (at t n : ℕ) (seen : List Mapping) → Bytes c → tag_at c at ≡ read t n → n + 16 ≤ length c
    → clashes (tags_of seen) (labels_of seen) t (take 16 (drop n c)) ≡ false → WellEntries (map entry_of seen)
    → WellEntries (map entry_of (seen ++ (mapping_of c t n ∷ [])))
entry_well c at t n seen b e room apart w =
    let m = mapping_of c t n in
    let a = apart_of seen t m.stands apart in
    let long : length m.stands ≡ 16 = length-take-le 16 (drop n c) (simp length-drop (omega arith)) in
    let well : WellEntry (entry_of m) =
    record { above = a.above; below = (tag_range c at t n b e).1; long = long; bytes = part_bytes c n 16 b; free = a.free } in
    let more-well : WellEntries (map entry_of seen ++ (entry_of m ∷ [])) =
    entries_more (map entry_of seen) (entry_of m) w well (ap (among t) (tags_entries seen) ∙ a.new_tag) (ap (listed m.stands) (labels_entries seen) ∙ a.new_label) in
    subst WellEntries (sym (map-append entry_of seen (m ∷ []))) more-well

-- so are all that are read after them
pub entries_well : {c : List ℕ} {at : ℕ} {seen more : List Mapping} → Bytes c → MappingsRead c at seen more → WellEntries (map entry_of seen)
    → WellEntries (map entry_of seen ++ map entry_of more)
entries_well b (none_mapped {seen = seen} h) w = subst WellEntries (sym (append-nil (map entry_of seen))) w
entries_well {c} b (next_mapped {at = at} {seen = seen} {more = more} t n few e room apart r) w =
    subst WellEntries (moved seen (mapping_of c t n) (map entry_of more)) (entries_well b r (entry_well c at t n seen b e room apart w))

-- the Config that stands at `start`, if there is one, before what follows from `next` on
pub record OpeningDescribed (s : List ℕ) (start next : ℕ) : Type 0 where
  pub first : ConfigLaid
  pub well : WellConfig first
  pub stands : drop start s ≡ config_bytes first ++ drop next s

pub opening_described : (s : List ℕ) → Bytes s → {start next o : ℕ} {ms : List Mapping} → OpeningRead s start o ms next → OpeningDescribed s start next
unfolding WellConfig config_bytes WellEntries
opening_described s b (no_config_read none) = record { first = no_config; well = tt; stands = refl }
opening_described s b {start = start} (config_read {ms = ms} v l e h r) =
    let d = payload_laid s start 1 v l b e in
    let x = payload_within s start 1 v l e in
    let c = take (v + l) s in
    let entries = map entry_of ms in
    let bc = below_take 256 (v + l) s b in
    let inside : take (l - 2) (drop (v + 2) s) ≡ entries_bytes entries = sym (after_two s v l h) ∙ entries_stand bc r in
    let o = big_at s v 2 in
    let value : take l (drop v s) ≡ digits 256 2 o ++ entries_bytes entries = two_bytes s v l b (omega arith) h ∙ ap (λ (z : List ℕ). digits 256 2 o ++ z) inside in
    let size : length (take l (drop v s)) ≡ 2 + length (entries_bytes entries) =
    ap length value ∙ length-append (digits 256 2 o) (entries_bytes entries) ∙ ap (λ (n : ℕ). n + length (entries_bytes entries)) (length_digits 256 2 o) in
    record {
      first = config d.form o entries;
      well = (
        subst (FormFits d.form) size d.fits,
        big_lt s v 2 b,
        omega (arith, length-map ms entry_of, mappings_count r (omega arith)),
        entries_well bc r tt,
      );
      stands = d.stands ∙ ap (λ (z : List ℕ). element 1 d.form z ++ drop (v + l) s) value;
    }
