-- What is wrong where the reader stops among the items, in the words of the layout: no item stands there, or a Sync whose payloads go wrong.
use mathlib.Core.Path.{◌≡◌, sym, ap, subst, ◌∙◌}
use mathlib.Core.List.{List, [], ◌++◌, append_assoc, append-nil}
use Prim.Native.Nat.{ℕ, ◌+◌, ◌-◌, ◌<◌, ◌≤◌}
use native.Mathlib.Omega.{arith}
use lib.ListN.{length, take, drop, length-append, length-drop, drop_of_length-le}
use lib.Seq.{take_at, take_all}
use Rattle.runs.specs.Digits.{digits, Bytes}
use Rattle.runs.proofs.Stands.{part_length}
use Rattle.refusals.specs.declared.Refusal.{Refusal}
use Rattle.refusals.specs.declared.Refusal.TheVariants as R
use Rattle.numbers.specs.Tags.{tag_bytes}
use Rattle.numbers.specs.Lengths.{form_bytes}
use Rattle.numbers.specs.Big.{big_at}
use Rattle.numbers.proofs.Big.{big_back, big_lt}
use Rattle.crc.specs.Crc.{crc_of}
use Rattle.crc.proofs.Serial.{crc_lt}
use Rattle.pack.specs.Fixed.{item_cap}
use Rattle.pack.specs.Payloads.{payload_at, whole}
use Rattle.pack.proofs.Payloads.{payload_within}
use Rattle.pack_layout.specs.Layout.{Element, element, elements_bytes, group_bytes}
use Rattle.pack_layout.specs.Well.{FormFits, WellElements}
use Rattle.pack_layout.specs.Refused.{Has, NoInner, NoItem, late_config, early_crc, item_too_many, long_crc, wrong_crc, empty_sync}
use Rattle.pack_layout.proofs.Parts.{regrouped}
use Rattle.pack_layout.proofs.Elements.{payload_laid, has_laid}
use Rattle.pack_layout.proofs.Accepts.{BadItem, late, early, unsized, one_more, small}
use Rattle.pack_layout.proofs.Described.{group_value}
use Rattle.pack_layout.proofs.StopsInside.{InnersStop}

-- no item begins w, whatever start and content of the pack stand before it, if a Config that begins w has something before it
abbrev pub NoItemAfter : List ℕ → List ℕ → ℕ → Refusal → Type 0
NoItemAfter s w used why =
    (start content : List ℕ) → s ≡ start ++ (content ++ w) → ((v rest : List ℕ) → Has w 1 v rest → 0 < length content) → NoItem start content w used why

-- what is wrong inside the Sync that begins w
pub record WrongSync (s w : List ℕ) (used : ℕ) (why : Refusal) (place : ℕ) : Type 0 where
  pub rest : List ℕ
  pub offset : ℕ
  pub duration : ℕ
  pub elements : List Element
  pub left : List ℕ
  pub offset_fits : offset < 65536
  pub duration_fits : duration < 65536
  pub well : WellElements elements
  pub few : used + 1 + length elements ≤ item_cap
  pub has : Has w 2 (group_bytes offset duration elements ++ left) rest
  pub wrong : NoInner left (used + 1 + length elements) why
  pub there : place ≡ length s - length (left ++ rest)

-- what is wrong at w: no item, or what is inside a Sync
pub data WrongAt (s w : List ℕ) (used : ℕ) (why : Refusal) (place : ℕ) : Type 0 where
  no_item : place ≡ length s - length w → NoItemAfter s w used why → WrongAt s w used why place
  in_group : WrongSync s w used why place → WrongAt s w used why place

-- the pack up to the value of the CRC that ends it
pub before_crc_lem : (s start content t f c : List ℕ) (v : ℕ) → s ≡ start ++ (content ++ (t ++ (f ++ c) ++ [])) → v + length c ≡ length s
    → take v s ≡ start ++ (content ++ (t ++ f))
before_crc_lem s start content t f c v e z =
    let before = start ++ (content ++ (t ++ f)) in
    let whole : s ≡ before ++ c = e ∙ simp (append_assoc, append-nil) in
    ap (take v) whole ∙ take_at before c v (omega (arith, ap length whole, length-append before c))

module _ (s : List ℕ) (b : Bytes s) where
  -- a payload that ends the pack
  has_last : (at t v l : ℕ) → payload_at s at ≡ whole t v l → v + l ≡ length s → Has (drop at s) t (take l (drop v s)) []
  has_last at t v l e ends =
      let d = payload_laid s at t v l b e in
      let none : drop (v + l) s ≡ [] = drop_of_length-le s {i = v + l} (omega arith) in
      record {
        form = d.form;
        tagged = (d.low, d.high);
        fits = d.fits;
        is = d.stands ∙ ap (λ (y : List ℕ). element t d.form (take l (drop v s)) ++ y) none;
      }

  -- a value that is found has its length
  pub value_length : (at t v l : ℕ) → payload_at s at ≡ whole t v l → length (take l (drop v s)) ≡ l
  value_length at t v l e = part_length s v l (payload_within s at t v l e).inside

  -- why a payload with the tag t is no item, in the words of the layout
  pub bad_item : {why : Refusal} (at used t v l : ℕ) → payload_at s at ≡ whole t v l → BadItem s used t v l why → NoItemAfter s (drop at s) used why
  bad_item at used t v l e (late is1) start content is first =
      let h = has_laid s at 1 v l b (e ∙ ap (λ (n : ℕ). whole n v l) is1) in late_config _ _ h (first _ _ h)
  bad_item at used t v l e (early is3 before) start content is first =
      let x = payload_within s at t v l e in
      early_crc _ _ (has_laid s at 3 v l b (e ∙ ap (λ (n : ℕ). whole n v l) is3)) (simp length-drop (omega (arith, before)))
  bad_item at used t v l e (unsized is3 ends other) start content is first =
      long_crc _ (has_last at 3 v l (e ∙ ap (λ (n : ℕ). whole n v l) is3) ends) (λ z. other (sym (value_length at t v l e) ∙ z))
  bad_item at used t v l e (one_more n1 n3 full) start content is first = item_too_many t _ _ (has_laid s at t v l b e) n1 n3 full
  bad_item at used t v l e (small is2 room few) start content is first =
      empty_sync _ _ (has_laid s at 2 v l b (e ∙ ap (λ (n : ℕ). whole n v l) is2)) room (omega (arith, value_length at t v l e))

  -- a CRC of four bytes that ends the pack and is not that of the bytes before it
  pub crc_wrong : (at used v : ℕ) → payload_at s at ≡ whole 3 v 4 → v + 4 ≡ length s → (big_at s v 4 ≡ crc_of (take v s) → ⊥) → NoItemAfter s (drop at s) used R.Crc
  crc_wrong at used v e ends bad start content is first =
      let h = has_last at 3 v 4 e ends in
      let c = take 4 (drop v s) in
      let t = tag_bytes 3 in
      let f = form_bytes h.form 4 in
      let four : length c ≡ 4 = value_length at 3 v 4 e in
      let whole : s ≡ start ++ (content ++ (t ++ (f ++ c) ++ [])) =
      is ∙ ap (λ (w : List ℕ). start ++ (content ++ w)) (h.is ∙ ap (λ (n : ℕ). t ++ (form_bytes h.form n ++ c) ++ []) four) in
      let before = start ++ (content ++ (t ++ f)) in
      let front : take v s ≡ before = before_crc_lem s start content t f c v whole (omega arith) in
      let last : drop v s ≡ c = sym (take_all 4 (drop v s) (simp length-drop (omega arith))) in
      wrong_crc c h four
      (λ good. bad (big_back s v 4 (crc_of before) [] (last ∙ good ∙ sym (append-nil (digits 256 4 (crc_of before)))) (crc_lt before) ∙ ap crc_of (sym front)))

  -- a Sync whose payloads go wrong
  pub sync_wrong : {why : Refusal} {place : ℕ} (at used v l : ℕ) → payload_at s at ≡ whole 2 v l → 4 ≤ l
      → InnersStop (take (l - 4) (drop (v + 4) s)) (v + 4) 0 (used + 1) why place → WrongSync s (drop at s) used why place
  sync_wrong at used v l e h r =
      let d = payload_laid s at 2 v l b e in
      let x = payload_within s at 2 v l e in
      let o = big_at s v 2 in
      let duration = big_at s (v + 2) 2 in
      let rest = drop (v + l) s in
      let value : take l (drop v s) ≡ group_bytes o duration r.elements ++ r.left =
      group_value s b v l (omega arith) h ∙ ap (λ (y : List ℕ). digits 256 2 o ++ (digits 256 2 duration ++ y)) r.stands
      ∙ sym (regrouped (digits 256 2 o) (digits 256 2 duration) (elements_bytes r.elements) r.left) in
      let size : length (take (l - 4) (drop (v + 4) s)) ≡ l - 4 = part_length s (v + 4) (l - 4) (omega arith) in
      let inside = ap length r.stands ∙ length-append (elements_bytes r.elements) r.left in
      record {
        rest = rest;
        offset = o;
        duration = duration;
        elements = r.elements;
        left = r.left;
        offset_fits = big_lt s v 2 b;
        duration_fits = big_lt s (v + 2) 2 b;
        well = r.well;
        few = r.few;
        has = record {
          form = d.form;
          tagged = (d.low, d.high);
          fits = subst (λ (y : List ℕ). FormFits d.form (length y)) value d.fits;
          is = d.stands ∙ ap (λ (y : List ℕ). element 2 d.form y ++ rest) value;
        };
        wrong = r.wrong;
        there = omega (arith, r.there, size, inside, length-append r.left rest, length-drop (v + l) s);
      }
