-- Items that are laid out are read, and mean what the description says: payloads, Syncs with theirs, and what closes the pack.
use mathlib.Core.Path.{◌≡◌, refl, sym, ap, ap₂, subst, ◌∙◌}
use mathlib.Core.List.{List, [], ◌∷◌, ◌++◌, map, append_assoc, append-nil}
use mathlib.Core.Bool.{Bool, true, false}
use Prim.Native.Nat.{ℕ, zero, suc, ◌+◌, ◌-◌, ◌<◌, ◌≤◌}
use native.Mathlib.Nat.{le_trans, pow-le-pow_right}
use native.Mathlib.Omega.{arith}
use lib.ListN.{length, take, drop, length-append, length-drop, length-map}
use lib.Seq.{take_at}
use Rattle.runs.specs.Digits.{digits}
use Rattle.runs.proofs.Digits.{length_digits}
use Rattle.numbers.specs.Lengths.{longest, reach}
use Rattle.numbers.proofs.Big.{big_back}
use Rattle.crc.specs.Crc.{crc_of}
use Rattle.pack.specs.Fixed.{item_cap}
use Rattle.pack.specs.Said.{SaidName, SaidPayload, SaidItem, single, sync}
use Rattle.pack.specs.Payloads.{name_of, Ground, payload, whole}
use Rattle.pack.specs.declared.Payload.{Payload}
use Rattle.pack.specs.Items.{Part, one, many, sync_ground, sync_head}
use Rattle.pack.specs.Meaning.{meant_name, meant_payload, meant_part}
use Rattle.pack_layout.specs.Layout.{Element, Chunk, plain, group, Entry, element, elements_bytes, group_bytes, chunks_bytes, entry_for, said_element, said_chunk}
use Rattle.pack_layout.specs.Well.{WellElements, WellGroup, WellChunks, chunks_count}
use Rattle.pack_layout.proofs.Parts.{part_stands, two_back, inside_back}
use Rattle.pack_layout.proofs.Elements.{element_back}
use Rattle.pack_layout.proofs.Accepts.{InnersRead, none_inside, next_inside, ItemsRead, ended, closed, next_plain, next_sync}
use Rattle.crc.proofs.Serial.{crc_lt}

-- the payloads inside a Sync are read, and mean the elements xs
record InnersLaid (s : List ℕ) (grounds : Ground) (labels : List (List ℕ)) (ms : List Entry) (q : List ℕ) (base at used : ℕ) (xs : List Element) : Type 0 where
  found : List Payload
  reads : InnersRead q grounds base at used found
  means : map (meant_payload s labels) found ≡ map (said_element ms) xs

-- a Sync's payloads are read where its value stands at v, and it means its two numbers and the elements xs
pub record GroupLaid (s : List ℕ) (grounds : Ground) (labels : List (List ℕ)) (ms : List Entry) (at v used o d : ℕ) (xs : List Element) : Type 0 where
  pub found : List Payload
  pub reads : InnersRead (take (length (group_bytes o d xs) - 4) (drop (v + 4) s)) (sync_ground s grounds v) (v + 4) 0 (used + 1) found
  pub count : length found ≡ length xs
  pub long : 4 ≤ length (group_bytes o d xs)
  pub means : meant_part s labels (many (sync_head s at v (length (group_bytes o d xs)) (length found)) found) ≡ sync o d (map (said_element ms) xs)

-- the items are read, and mean the chunks cs
pub record ItemsLaid (s : List ℕ) (grounds : Ground) (labels : List (List ℕ)) (ms : List Entry) (at used : ℕ) (cs : List Chunk) (mark : Bool) : Type 0 where
  pub found : List Part
  pub reads : ItemsRead s grounds at used found mark
  pub means : map (meant_part s labels) found ≡ map (said_chunk ms) cs

-- under mappings by which each tag means what the description says
module _ (s : List ℕ) (grounds : Ground) (labels : List (List ℕ)) (ms : List Entry) (names : (t : ℕ) → meant_name labels (name_of grounds.tags t) ≡ entry_for ms t) where
  meant_element : (x : Element) (start from : ℕ) (rest : List ℕ) → drop from s ≡ x.value ++ rest
      → meant_payload s labels (payload grounds start x.tag from (length x.value)) ≡ said_element ms x
  meant_element x start from rest e =
      ap₂ (λ (n : SaidName) (v : List ℕ). record { name = n; value = v }) (names x.tag)
      (ap (take (length x.value)) e ∙ take_at x.value rest (length x.value) refl)

  inners_laid : (xs : List Element) (q rest : List ℕ) (base at used : ℕ) → drop base s ≡ q ++ rest → drop at q ≡ elements_bytes xs
      → used + length xs ≤ item_cap → WellElements xs → InnersLaid s grounds labels ms q base at used xs
  unfolding elements_bytes
  inners_laid [] q rest base at used b e u w = record { found = []; reads = none_inside {at = at} (omega (arith, length-drop at q, ap length e)); means = refl }
  inners_laid (x ∷ xs) q rest base at used b e u w =
      let r = element_back q at x.tag x.form x.value (elements_bytes xs) e (omega (arith, w.0.above)) w.0.below w.0.fits in
      let v = r.from in
      let l = length x.value in
      let i = inners_laid xs q rest base (v + l) (used + 1) b r.next (omega arith) w.1 in
      let stands : drop (base + v) s ≡ x.value ++ (elements_bytes xs ++ rest) =
      part_stands s base q rest v (x.value ++ elements_bytes xs) b (omega (arith, r.ends)) r.stands ∙ append_assoc x.value (elements_bytes xs) rest in
      record {
        found = payload grounds (base + at) x.tag (base + v) l ∷ i.found;
        reads = next_inside {used = used} x.tag v l r.found w.0.above (omega arith) i.reads;
        means = ap₂ (λ (y : SaidPayload) (ys : List SaidPayload). y ∷ ys) (meant_element x (base + at) (base + v) (elements_bytes xs ++ rest) stands) i.means;
      }

-- on a ground that a Sync adds to, and the tags are the same
module _ (s : List ℕ) (grounds : Ground) (labels : List (List ℕ)) (ms : List Entry) (names : (t : ℕ) → meant_name labels (name_of grounds.tags t) ≡ entry_for ms t) where
  pub group_laid : (at v used o d : ℕ) (xs : List Element) (rest : List ℕ) {form : ℕ} → drop v s ≡ group_bytes o d xs ++ rest → used + 1 + length xs ≤ item_cap
      → WellGroup form o d xs → GroupLaid s grounds labels ms at v used o d xs
  group_laid at v used o d xs rest e u w =
      let inside = elements_bytes xs in
      let l = length (group_bytes o d xs) in
      let part = inside_back s v o d inside rest e in
      let size = part.size in
      let first = two_back s v o ((digits 256 2 d ++ inside) ++ rest) (e ∙ append_assoc (digits 256 2 o) (digits 256 2 d ++ inside) rest) w.offset in
      let second = two_back s (v + 2) d (inside ++ rest) (first.1 ∙ append_assoc (digits 256 2 d) inside rest) w.duration in
      let i = inners_laid s (sync_ground s grounds v) labels ms names xs inside rest (v + 4) 0 (used + 1) part.stands refl u w.all in
      let same = i.means in
      let offset = first.0 in
      let duration = second.0 in
      record {
        found = i.found;
        reads = subst (λ (q : List ℕ). InnersRead q (sync_ground s grounds v) (v + 4) 0 (used + 1) i.found) (sym part.part) i.reads;
        count = sym (length-map i.found (meant_payload s labels)) ∙ ap length i.means ∙ length-map xs (said_element ms);
        long = omega arith;
        means = cc;
      }

  -- the items up to `tail`, which closes the pack wherever it stands
  module _ (tail : List ℕ) (mark : Bool) (closes : (at used : ℕ) → drop at s ≡ tail → ItemsRead s grounds at used [] mark) where
    pub items_laid : (cs : List Chunk) (at used : ℕ) → drop at s ≡ chunks_bytes cs ++ tail → used + chunks_count cs ≤ item_cap → WellChunks cs → ItemsLaid s grounds labels ms at used cs mark
    unfolding chunks_bytes chunks_count
    items_laid [] at used e u w = record { found = []; reads = closes at used e; means = refl }
    items_laid (plain x ∷ cs) at used e u w =
        let rest = chunks_bytes cs ++ tail in
        let r = element_back s at x.tag x.form x.value rest (e ∙ append_assoc (element x.tag x.form x.value) (chunks_bytes cs) tail)
        (omega (arith, w.0.above)) w.0.below w.0.fits in
        let v = r.from in
        let l = length x.value in
        let i = items_laid cs (v + l) (used + 1) r.next (omega arith) w.1 in
        record {
          found = one (payload grounds at x.tag v l) ∷ i.found;
          reads = next_plain {used = used} x.tag v l r.found w.0.above (omega arith) i.reads;
          means = ap₂ (λ (y : SaidPayload) (ys : List SaidItem). single y ∷ ys) (meant_element s grounds labels ms names x at v rest r.stands) i.means;
        }
    items_laid (group form o d xs ∷ cs) at used e u w =
        let value = group_bytes o d xs in
        let rest = chunks_bytes cs ++ tail in
        let r = element_back s at 2 form value rest (e ∙ append_assoc (element 2 form value) (chunks_bytes cs) tail) (omega arith) (omega arith) w.0.fits in
        let v = r.from in
        let l = length value in
        let g = group_laid at v used o d xs rest r.stands (omega arith) w.0 in
        let i = items_laid cs (v + l) (used + 1 + length g.found) r.next (omega (arith, g.count)) w.1 in
        record {
          found = many (sync_head s at v l (length g.found)) g.found ∷ i.found;
          reads = next_sync {used = used} {parts = i.found} v l g.found r.found g.long (omega arith) (omega (arith, g.count, w.0.some)) g.reads i.reads;
          means = ap₂ (λ (y : SaidItem) (ys : List SaidItem). y ∷ ys) g.means i.means;
        }

-- a pack without CRC ends where its items end
pub closes_bare : (s : List ℕ) (grounds : Ground) (at used : ℕ) → drop at s ≡ [] → ItemsRead s grounds at used [] false
closes_bare s grounds at used e = ended {at = at} (omega (arith, length-drop at s, ap length e))

-- each form can hold the length of a CRC
pub four_fits : (form : ℕ) → 4 < reach form
unfolding reach
four_fits zero = omega arith
four_fits (suc k) = le_trans (omega arith) (pow-le-pow_right (omega arith) (let h : 1 ≤ suc k = omega arith in h))

-- a CRC that is laid out is good
pub closes_crc : (s before : List ℕ) (grounds : Ground) (form : ℕ) → s ≡ before ++ digits 256 4 (crc_of before) → form ≤ longest → (at used : ℕ)
    → drop at s ≡ element 3 form (digits 256 4 (crc_of before)) → ItemsRead s grounds at used [] true
closes_crc s before grounds form e m at used h =
    let c = digits 256 4 (crc_of before) in
    let four : length c ≡ 4 = length_digits 256 4 (crc_of before) in
    let r = element_back s at 3 form c [] (h ∙ sym (append-nil (element 3 form c))) (omega arith) (omega arith) (m, rw four (four_fits form)) in
    let v = r.from in
    let rest : length s - (v + length c) ≡ 0 = sym (length-drop (v + length c) s) ∙ ap length r.next in
    let size : length s ≡ length before + length c = ap length e ∙ length-append before c in
    let ends : v + 4 ≡ length s = omega (arith, r.ends) in
    let front : take v s ≡ before = ap (take v) e ∙ take_at before c v (omega arith) in
    closed v (r.found ∙ ap (whole 3 v) four) ends (big_back s v 4 (crc_of before) [] r.stands (crc_lt before) ∙ ap crc_of (sym front))
