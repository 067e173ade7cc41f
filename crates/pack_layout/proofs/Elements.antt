-- Elements: one that is written is found where it stands, and one that is found is laid out there in some form of its length.
use mathlib.Core.Path.{◌≡◌, sym, ap, ap₂, ◌∙◌}
use mathlib.Core.List.{List, ◌++◌, append_assoc}
use Prim.Native.Nat.{ℕ, ◌+◌, ◌-◌, ◌^◌, ◌<◌, ◌≤◌}
use native.Mathlib.Omega.{arith}
use lib.ListN.{length, take, drop, length-append, length-drop, take-append-drop}
use lib.Seq.{length-take-le, drop-drop}
use borrow.Author.Tests.{le-leb}
use Rattle.runs.specs.Digits.{Bytes}
use Rattle.runs.proofs.Stands.{stands_past}
use Rattle.numbers.specs.Reads.{read}
use Rattle.numbers.specs.Tags.{tag_at, tag_bytes}
use Rattle.numbers.specs.Lengths.{length_at, form_bytes}
use Rattle.numbers.proofs.Tags.{tag_back, tag_next, tag_range, tag_canonical}
use Rattle.numbers.proofs.Lengths.{form_back, form_sound, length_next}
use Rattle.pack.specs.Payloads.{value_found, tag_found, payload_at, whole}
use Rattle.pack.proofs.Payloads.{payload_parsed, payload_within}
use Rattle.pack_layout.specs.Layout.{element}
use Rattle.pack_layout.specs.Well.{FormFits}
use Rattle.pack_layout.specs.Refused.{Has}

-- The value of an element with the tag t that stands at `at` of p, before `rest`: it is found from `from` on.
pub record Stands (p : List ℕ) (at t : ℕ) (value rest : List ℕ) : Type 0 where
  pub from : ℕ
  pub found : payload_at p at ≡ whole t from (length value)
  pub stands : drop from p ≡ value ++ rest
  pub later : at < from
  pub ends : from + length value ≤ length p
  pub next : drop (from + length value) p ≡ rest

-- it begins before the end
pub begins_within : {p : List ℕ} {at t : ℕ} {value rest : List ℕ} → Stands p at t value rest → at < length p
begins_within r = omega (arith, r.later, r.ends)

-- what is found where a tag, a length and enough bytes stand
whole_found : (p : List ℕ) (at t n l v : ℕ) → tag_at p at ≡ read t n → length_at p n ≡ read l v → l ≤ length p - v → payload_at p at ≡ whole t v l
unfolding payload_at tag_found value_found
whole_found p at t n l v a b h = simp (a, b, le-leb _ _ h)

pub element_back : (p : List ℕ) (at t form : ℕ) (value rest : List ℕ) → drop at p ≡ element t form value ++ rest → 0 < t → t < 128 ^ 4
    → FormFits form (length value) → Stands p at t value rest
element_back p at t form value rest e low high fits =
    let l = length value in
    let fb = form_bytes form l in
    let e0 : drop at p ≡ tag_bytes t ++ (fb ++ (value ++ rest)) = e ∙ append_assoc (tag_bytes t) (fb ++ value) rest ∙ ap (λ (x : List ℕ). tag_bytes t ++ x) (append_assoc fb value rest) in
    let n = at + length (tag_bytes t) in
    let e1 : drop n p ≡ fb ++ (value ++ rest) = stands_past p at (tag_bytes t) (fb ++ (value ++ rest)) e0 in
    let v = n + length fb in
    let e2 : drop v p ≡ value ++ rest = stands_past p n fb (value ++ rest) e1 in
    let a : tag_at p at ≡ read t n = tag_back p at t (fb ++ (value ++ rest)) e0 low high in
    let b : length_at p n ≡ read l v = form_back p n form l (value ++ rest) e1 fits.0 fits.1 in
    let q : length p - v ≡ l + length rest = sym (length-drop v p) ∙ ap length e2 ∙ length-append value rest in
    let x = tag_next p at t n a in
    let y = length_next p n l v b in
    record {
      from = v;
      found = whole_found p at t n l v a b (omega arith);
      stands = e2;
      later = omega arith;
      ends = omega arith;
      next = stands_past p v value rest e2;
    }

-- An element with the tag t is laid out at `at` of p, in some form of its length; its value runs l bytes from v on.
pub record ElementLaid (p : List ℕ) (at t v l : ℕ) : Type 0 where
  pub form : ℕ
  pub low : 0 < t
  pub high : t < 128 ^ 4
  pub fits : FormFits form (length (take l (drop v p)))
  pub stands : drop at p ≡ element t form (take l (drop v p)) ++ drop (v + l) p

pub payload_laid : (p : List ℕ) (at t v l : ℕ) → Bytes p → payload_at p at ≡ whole t v l → ElementLaid p at t v l
payload_laid p at t v l b h =
    let r = payload_parsed p at t v l h in
    let n = r.after in
    let f = form_sound p n l v b r.len in
    let value = take l (drop v p) in
    let rest = drop (v + l) p in
    let x = payload_within p at t v l h in
    let long : length value ≡ l = length-take-le l (drop v p) (omega (arith, length-drop v p)) in
    let same : form_bytes f.form l ≡ form_bytes f.form (length value) = ap (form_bytes f.form) (sym long) in
    let e2 : drop v p ≡ value ++ rest = sym (take-append-drop l (drop v p)) ∙ ap (λ (y : List ℕ). value ++ y) (drop-drop l v p) in
    let e1 : drop n p ≡ form_bytes f.form (length value) ++ (value ++ rest) = f.stands ∙ ap₂ (λ (y z : List ℕ). y ++ z) same e2 in
    let range = tag_range p at t n b r.tag in
    record {
      form = f.form;
      low = range.0;
      high = range.1;
      fits = (f.most, rw long f.holds);
      stands = (tag_canonical p at t n b r.tag).0 ∙ ap (λ (y : List ℕ). tag_bytes t ++ y) e1
          ∙ ap (λ (y : List ℕ). tag_bytes t ++ y) (sym (append_assoc (form_bytes f.form (length value)) value rest))
          ∙ sym (append_assoc (tag_bytes t) (form_bytes f.form (length value) ++ value) rest);
    }

-- a payload that is found is there as an element
pub has_laid : (p : List ℕ) (at t v l : ℕ) → Bytes p → payload_at p at ≡ whole t v l → Has (drop at p) t (take l (drop v p)) (drop (v + l) p)
has_laid p at t v l b e =
    let d = payload_laid p at t v l b e in record { form = d.form; tagged = (d.low, d.high); fits = d.fits; is = d.stands }

-- an element that is there is found
pub has_back : (p : List ℕ) (at t : ℕ) (v rest : List ℕ) → Has (drop at p) t v rest → Stands p at t v rest
has_back p at t v rest h = element_back p at t h.form v rest h.is h.tagged.0 h.tagged.1 h.fits
