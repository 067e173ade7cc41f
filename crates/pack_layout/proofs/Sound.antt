-- Every accepted pack is the layout of some well-formed description, which says what the pack is read to mean.
use mathlib.Core.Path.{◌≡◌, sym, ap, ap₂, subst, ◌∙◌}
use mathlib.Core.List.{List, [], ◌++◌, append_assoc, append-nil}
use Prim.Native.Nat.{ℕ, ◌+◌, ◌-◌, ◌<◌, ◌≤◌}
use native.Mathlib.Omega.{arith}
use lib.ListN.{length, take, drop, length-append, length-drop, take-append-drop}
use lib.Seq.{take_at}
use Rattle.runs.specs.Digits.{digits, Bytes}
use Rattle.refusals.specs.Outcomes.{fine}
use Rattle.numbers.specs.Tags.{tag_bytes}
use Rattle.numbers.specs.Lengths.{form_bytes, reach}
use Rattle.numbers.proofs.Lengths.{form_sound}
use Rattle.crc.specs.Crc.{crc_of}
use Rattle.pack.specs.Fixed.{key, pack_cap}
use Rattle.pack.specs.Reading.{Read, reading}
use Rattle.pack.specs.Meaning.{meant}
use Rattle.pack_layout.specs.Layout.{CrcLaid, Description, chunks_bytes, config_bytes, content_bytes, before_crc, laid, layout}
use Rattle.pack_layout.specs.Well.{WellCrc, crc_size, WellFormed}
use Rattle.pack_layout.specs.Agrees.{Sound}
use Rattle.pack_layout.proofs.Parts.{grouped, counted}
use Rattle.pack_layout.proofs.Opens.{PackRead, reading_of}
use Rattle.pack_layout.proofs.Counts.{items_count}
use Rattle.pack_layout.proofs.Described.{Closing, bare, with_crc, items_described, opening_described}
use Rattle.pack_layout.proofs.Complete.{reading_complete}

-- a description's bytes with the given end are s, whose value has n bytes
record Gives (s : List ℕ) (d : Description) (last : CrcLaid) (n : ℕ) : Type 0 where
  bytes : laid d last ≡ s
  size : n ≡ length (content_bytes d) + crc_size last
  closing : WellCrc last

gives : (s : List ℕ) (d : Description) (n : ℕ) {last : CrcLaid} {tail : List ℕ} → Closing s last tail
    → s ≡ key ++ (form_bytes d.form n ++ (config_bytes d.first ++ (chunks_bytes d.chunks ++ tail)))
    → n ≡ length (config_bytes d.first ++ (chunks_bytes d.chunks ++ tail)) → Gives s d last n
unfolding laid before_crc WellCrc
gives s d n bare e m =
    let content = content_bytes d in
    let whole : config_bytes d.first ++ (chunks_bytes d.chunks ++ []) ≡ content =
    ap (λ (l : List ℕ). config_bytes d.first ++ l) (append-nil (chunks_bytes d.chunks)) in
    let size : n ≡ length content = m ∙ ap length whole in
    record {
      bytes =
          append_assoc key (form_bytes d.form (length content)) content
          ∙ ap₂ (λ (k : ℕ) (l : List ℕ). key ++ (form_bytes d.form k ++ l)) (sym size) (sym whole) ∙ sym e;
      size = omega arith;
      closing = tt;
    }
gives s d n (with_crc form v most z good) e m =
    let c = drop v s in
    let four : length c ≡ 4 = simp length-drop (omega arith) in
    let t = tag_bytes 3 in
    let f = form_bytes form 4 in
    let x = config_bytes d.first in
    let y = chunks_bytes d.chunks in
    let size : n ≡ length (x ++ y) + (length (t ++ f) + 4) = m ∙ sym (counted x y t f c 4 four) in
    let before = before_crc d form in
    let whole : s ≡ before ++ c =
    e ∙ ap (λ (k : ℕ). key ++ (form_bytes d.form k ++ (x ++ (y ++ (t ++ (f ++ c)))))) size
    ∙ sym (grouped key (form_bytes d.form (length (x ++ y) + (length (t ++ f) + 4))) x y t f c) in
    let long : length before ≡ v = omega (arith, ap length whole, length-append before c) in
    let front : take v s ≡ before = ap (take v) whole ∙ take_at before c v long in
    record {
      bytes = ap (λ (l : List ℕ). before ++ digits 256 4 (crc_of l)) (sym front) ∙ ap (λ (l : List ℕ). before ++ l) (sym good) ∙ sym whole;
      size = omega (arith, length-append t f);
      closing = most;
    }

-- a description of the bytes s
record Described (s : List ℕ) : Type 0 where
  description : Description
  well : WellFormed description
  gives : layout description ≡ s

pack_described : (s : List ℕ) (r : Read) → Bytes s → PackRead s r → Described s
pack_described s r b p =
    let n = length s - p.start in
    let f = form_sound s 16 n p.start b p.begins.size in
    let o = opening_described s b p.opens in
    let i = items_described s b p.items in
    let d : Description = record { form = f.form; first = o.first; chunks = i.chunks; last = i.last } in
    let body : drop p.start s ≡ config_bytes o.first ++ (chunks_bytes i.chunks ++ i.tail) =
    o.stands ∙ ap (λ (l : List ℕ). config_bytes o.first ++ l) i.stands in
    let e : s ≡ key ++ (form_bytes f.form n ++ (config_bytes o.first ++ (chunks_bytes i.chunks ++ i.tail))) =
    sym (take-append-drop 16 s)
    ∙ ap₂ (λ (x y : List ℕ). x ++ y) p.begins.keyed (f.stands ∙ ap (λ (l : List ℕ). form_bytes f.form n ++ l) body) in
    let g = gives s d n i.closes e (sym (length-drop p.start s) ∙ ap length body) in
    record {
      description = d;
      well = record {
        fits = (f.most, subst (λ (k : ℕ). k < reach f.form) g.size f.holds);
        opening = o.well;
        items = i.well;
        closing = g.closing;
        count = omega (arith, i.count, items_count p.items (omega arith));
        small = subst (λ (l : List ℕ). length l ≤ pack_cap) (sym g.bytes) p.begins.small;
      };
      gives = g.bytes;
    }

-- what a description of accepted bytes says is what they mean, since its own bytes are accepted and mean that
read_as : {s t : List ℕ} {q r : Read} → t ≡ s → reading t ≡ fine q → reading s ≡ fine r → q ≡ r
read_as e f h = let x = sym f ∙ ap reading e ∙ h in cc

pub reading_sound : (s : List ℕ) → Bytes s → (r : Read) → reading s ≡ fine r → Sound s r
reading_sound s b r h =
    let d = pack_described s r b (reading_of s r b h) in
    let c = reading_complete d.description d.well in
    let same : c.read ≡ r = read_as d.gives c.reads h in
    record {
      description = d.description;
      well = d.well;
      gives = d.gives;
      means = sym c.means ∙ ap₂ meant d.gives same;
      marks = sym c.marks ∙ ap (λ (q : Read). q.body.crc) same;
    }
