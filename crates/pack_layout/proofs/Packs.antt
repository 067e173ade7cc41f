-- A pack that is laid out is read: its start, its opening, its items.
use mathlib.Core.Path.{◌≡◌, refl, sym, ap, ap₂, subst, ◌∙◌}
use mathlib.Core.List.{List, [], ◌++◌, map, append_assoc}
use mathlib.Core.Bool.{Bool}
use Prim.Native.Nat.{ℕ, ◌+◌, ◌-◌, ◌≤◌}
use native.Mathlib.Omega.{arith}
use lib.ListN.{length, take, drop, length-append}
use lib.Seq.{take_at, drop_at}
use Rattle.runs.specs.Digits.{digits}
use Rattle.runs.proofs.Digits.{length_digits}
use Rattle.runs.proofs.Stands.{stands_past}
use Rattle.numbers.specs.Reads.{read}
use Rattle.numbers.specs.Lengths.{form_bytes}
use Rattle.numbers.proofs.Lengths.{form_back}
use Rattle.pack.specs.Fixed.{key, pack_cap, item_cap}
use Rattle.pack.specs.Said.{SaidItem}
use Rattle.pack.specs.Payloads.{payload_at, name_of, Ground, whole}
use Rattle.pack.proofs.Same.{same_whole}
use Rattle.pack.specs.Config.{Mapping, tags_of, labels_of}
use Rattle.pack.specs.Items.{Part}
use Rattle.pack.specs.Reading.{Read, pack_ground}
use Rattle.pack.specs.Meaning.{meant_name, meant}
use Rattle.pack.proofs.Payloads.{payload_within}
use Rattle.pack_layout.specs.Layout.{Chunk, Entry, ConfigLaid, no_config, config, chunks_bytes, entries_bytes, config_bytes, entry_for, said_chunk, offset_laid, entries_laid}
use Rattle.pack_layout.specs.Well.{FormFits, WellChunks, WellConfig, chunks_count}
use Rattle.pack_layout.proofs.Parts.{drop_take, two_back}
use Rattle.pack_layout.proofs.Elements.{element_back}
use Rattle.pack_layout.proofs.Accepts.{ItemsRead, ended, closed, next_plain, next_sync}
use Rattle.pack_layout.proofs.Opens.{MappingsRead, OpeningRead, no_config_read, config_read, StartRead, PackRead}
use Rattle.pack_layout.proofs.Entries.{entry_of, name_means}
use Rattle.pack_layout.proofs.Mapped.{placed, placed_entries, tags_entries, labels_entries, mappings_laid}
use Rattle.pack_layout.proofs.Items.{ItemsLaid, items_laid}

pub key_long : length key ≡ 16
unfolding key
key_long = refl

-- key and length
pub record Started (s : List ℕ) (body : List ℕ) : Type 0 where
  pub start : ℕ
  pub begins : StartRead s start
  pub stands : drop start s ≡ body

pub start_laid : (s body : List ℕ) (form n : ℕ) → s ≡ key ++ (form_bytes form n ++ body) → n ≡ length body → FormFits form n → length s ≤ pack_cap → Started s body
start_laid s body form n e m fits small =
    let fb = form_bytes form n in
    let e1 : drop 16 s ≡ fb ++ body = ap (drop 16) e ∙ drop_at key (fb ++ body) 16 key_long in
    let start = 16 + length fb in
    let e2 : drop start s ≡ body = stands_past s 16 fb body e1 in
    let whole : length s ≡ 16 + (length fb + length body) =
    ap length e ∙ length-append key (fb ++ body) ∙ ap₂ (λ (x y : ℕ). x + y) key_long (length-append fb body) in
    let left : n ≡ length s - start = omega arith in
    record {
      start = start;
      begins = record {
        small = small;
        keyed = ap (take 16) e ∙ take_at key (fb ++ body) 16 key_long;
        long = omega arith;
        size = form_back s 16 form n body e1 fits.0 fits.1 ∙ ap (λ (k : ℕ). read k start) left;
      };
      stands = e2;
    }

-- what begins with an item, or with what closes a pack, does not begin with a Config
no_config_lem : {s : List ℕ} {grounds : Ground} {at used : ℕ} {parts : List Part} {mark : Bool} → ItemsRead s grounds at used parts mark
    → (v l : ℕ) → payload_at s at ≡ whole 1 v l → ⊥
no_config_lem {s} {at = at} (ended h) v l e = let x = payload_within s at 1 v l e in omega arith
no_config_lem (closed w f z c) v l e = absurd (omega (arith, (same_whole f e).0))
no_config_lem (next_plain t w m f h u r) v l e = omega (arith, (same_whole f e).0)
no_config_lem (next_sync w m xs f h u n i r) v l e = absurd (omega (arith, (same_whole f e).0))

-- the Config at `start`, before `rest`
pub record Opened (s : List ℕ) (start : ℕ) (first : ConfigLaid) (rest : List ℕ) : Type 0 where
  pub mappings : List Mapping
  pub next : ℕ
  pub opens : OpeningRead s start (offset_laid first) mappings next
  pub entries : map entry_of mappings ≡ entries_laid first
  pub stands : drop next s ≡ rest

pub config_laid : (s rest : List ℕ) (start form o : ℕ) (ms : List Entry) → drop start s ≡ config_bytes (config form o ms) ++ rest → WellConfig (config form o ms)
    → Opened s start (config form o ms) rest
unfolding config_bytes WellConfig
config_laid s rest start form o ms e w =
    let inside = entries_bytes ms in
    let value = digits 256 2 o ++ inside in
    let two = length_digits 256 2 o in
    let size : length value ≡ 2 + length inside = omega (arith, length-append (digits 256 2 o) inside) in
    let r = element_back s start 1 form value rest e (omega arith) (omega arith) (w.0.0, rw size w.0.1) in
    let v = r.from in
    let l = length value in
    let e0 : drop v s ≡ digits 256 2 o ++ (inside ++ rest) = r.stands ∙ append_assoc (digits 256 2 o) inside rest in
    let number = two_back s v o (inside ++ rest) e0 w.1 in
    let whole : v + l ≡ v + 2 + length inside = omega arith in
    let part : drop (v + 2) (take (v + l) s) ≡ inside =
    ap (λ (n : ℕ). drop (v + 2) (take n s)) whole ∙ drop_take (v + 2) (length inside) s ∙ ap (take (length inside)) number.1
    ∙ take_at inside rest (length inside) refl in
    let reads : MappingsRead (take (v + l) s) (v + 2) [] (placed (v + 2) ms) = mappings_laid ms (take (v + l) s) (v + 2) [] part (omega (arith, w.2)) w.3 in
    record {
      mappings = placed (v + 2) ms;
      next = v + l;
      opens = subst (λ (n : ℕ). OpeningRead s start n (placed (v + 2) ms) (v + l)) number.0 (config_read v l r.found (omega arith) reads);
      entries = placed_entries (v + 2) ms;
      stands = r.next;
    }

-- a pack is read, and means that offset and those items
pub record PackLaid (s : List ℕ) (first : ConfigLaid) (cs : List Chunk) (mark : Bool) : Type 0 where
  pub read : Read
  pub reads : PackRead s read
  pub means : meant s read ≡ record { offset = offset_laid first; items = map (said_chunk (entries_laid first)) cs }
  pub marks : read.body.crc ≡ mark

-- each tag means by the mappings what it means by their entries
pub names_mean : (mappings : List Mapping) (ms : List Entry) → map entry_of mappings ≡ ms → (t : ℕ) → meant_name (labels_of mappings) (name_of (tags_of mappings) t) ≡ entry_for ms t
names_mean mappings ms e t =
    ap₂ (λ (ls : List (List ℕ)) (ts : List ℕ). meant_name ls (name_of ts t)) (sym (labels_entries mappings)) (sym (tags_entries mappings))
    ∙ name_means (map entry_of mappings) t ∙ ap (λ (l : List Entry). entry_for l t) e

module _ (s tail : List ℕ) (mark : Bool) (closes : (grounds : Ground) (at used : ℕ) → drop at s ≡ tail → ItemsRead s grounds at used [] mark)
    (cs : List Chunk) (count : chunks_count cs ≤ item_cap) (well : WellChunks cs) where
  items_at : (offset : ℕ) (mappings : List Mapping) (ms : List Entry) → map entry_of mappings ≡ ms → (at : ℕ) → drop at s ≡ chunks_bytes cs ++ tail
      → ItemsLaid s (pack_ground offset mappings) (labels_of mappings) ms at 0 cs mark
  items_at offset mappings ms e at stands =
      items_laid s (pack_ground offset mappings) (labels_of mappings) ms (names_mean mappings ms e) tail mark (closes (pack_ground offset mappings)) cs at 0 stands (omega arith) well

  opening_laid : (start : ℕ) (first : ConfigLaid) → drop start s ≡ config_bytes first ++ (chunks_bytes cs ++ tail) → WellConfig first
      → Opened s start first (chunks_bytes cs ++ tail)
  unfolding config_bytes
  opening_laid start no_config e w = record {
    mappings = [];
    next = start;
    opens = no_config_read (no_config_lem (items_at 0 [] [] refl start e).reads);
    entries = refl;
    stands = e;
  }
  opening_laid start (config form o ms) e w = config_laid s (chunks_bytes cs ++ tail) start form o ms e w

  pub pack_laid : (form n : ℕ) (first : ConfigLaid) → s ≡ key ++ (form_bytes form n ++ (config_bytes first ++ (chunks_bytes cs ++ tail)))
      → n ≡ length (config_bytes first ++ (chunks_bytes cs ++ tail)) → FormFits form n → length s ≤ pack_cap → WellConfig first → PackLaid s first cs mark
  unfolding meant
  pack_laid form n first e m fits small w =
      let a = start_laid s (config_bytes first ++ (chunks_bytes cs ++ tail)) form n e m fits small in
      let o = opening_laid a.start first a.stands w in
      let i = items_at (offset_laid first) o.mappings (entries_laid first) o.entries o.next o.stands in
      record {
        read = record { offset = offset_laid first; mappings = o.mappings; body = record { parts = i.found; crc = mark } };
        reads = record { start = a.start; next = o.next; begins = a.begins; opens = o.opens; items = i.reads };
        means = ap (λ (l : List SaidItem). record { offset = offset_laid first; items = l }) i.means;
        marks = refl;
      }
