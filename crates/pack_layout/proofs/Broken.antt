-- What breaks an element, and what cuts off a mapping, in the words of the layout, both ways: what is wrong where the reader says so, and what the reader says
-- where it is wrong.
use mathlib.Core.Path.{◌≡◌, refl, sym, ap, subst, ◌∙◌}
use mathlib.Core.List.{List, [], ◌++◌, append_assoc}
use mathlib.Core.Logic.{◌⊎◌, inl, inr}
use Prim.Native.Nat.{ℕ, ◌+◌, ◌-◌, ◌<◌, ◌≤◌}
use native.Mathlib.Omega.{arith}
use lib.Dec.{leb}
use lib.ListN.{length, drop, length-append, length-drop}
use lib.Seq.{drop-append-le}
use borrow.Author.Tests.{lt-leb, leb-false}
use Rattle.runs.specs.Digits.{Bytes}
use Rattle.runs.proofs.Cases.{split, absurd_eq}
use Rattle.runs.proofs.Stands.{stands_past}
use Rattle.refusals.specs.declared.Refusal.{Refusal}
use Rattle.refusals.specs.declared.Refusal.TheVariants as R
use Rattle.numbers.specs.Reads.{Reads, read, malformed, cut}
use Rattle.numbers.proofs.Same.{same_read}
use Rattle.numbers.specs.Tags.{tag_at, tag_bytes}
use Rattle.numbers.specs.Lengths.{length_at, form_bytes, reach}
use Rattle.numbers.proofs.Tags.{tag_back, tag_next, tag_range, tag_canonical}
use Rattle.pack.specs.Payloads.{value_found, tag_found, payload_at, whole, wrong}
use Rattle.pack_layout.specs.Layout.{element}
use Rattle.pack_layout.specs.Well.{FormFits}
use Rattle.pack_layout.specs.Refused.{TagFits, NoLength, Lacks, NoElement, runs_out, bad_tag, bad_length}
use Rattle.pack_layout.proofs.BrokenTags.{last, CutTag, tag_longer, tag_stands, bad_in, tag_bad, bad_tag_lem, tag_cut_lem}
use Rattle.pack_layout.proofs.BrokenLengths.{zeros, length_zeros, ValueLacks, Unread, no_length, no_value, length_bad, bad_length_lem, length_cut, value_cut, lacks_value}

-- an empty value fits the short form
none_fits : FormFits 0 0
unfolding reach
none_fits = (omega arith, omega arith)

-- an element whose tag is cut off, and one whose length or value is
tag_runs_out : (p : List ℕ) (at : ℕ) → at < length p → CutTag p at → NoElement (drop at p) R.Cut
tag_runs_out p at i c =
    let fb = form_bytes 0 0 ++ [] in
    runs_out c.t 0 [] c.fits none_fits
    (record {
      more = last ++ fb;
      some = omega (arith, length-drop at p);
      missing = omega (arith, length-append last fb);
      is = sym (append_assoc (drop at p) last fb) ∙ ap (λ (l : List ℕ). l ++ fb) c.is;
    })

value_runs_out : (p : List ℕ) (at t n : ℕ) → Bytes p → tag_at p at ≡ read t n → ValueLacks (drop n p) → NoElement (drop at p) R.Cut
value_runs_out p at t n b e w =
    let x = tag_next p at t n e in
    runs_out t w.form w.v (tag_range p at t n b e) w.fits
    (record {
      more = w.more;
      some = omega (arith, length-drop at p);
      missing = w.missing;
      is = ap (λ (l : List ℕ). l ++ w.more) (tag_canonical p at t n b e).0 ∙ append_assoc (tag_bytes t) (drop n p) w.more
          ∙ ap (λ (l : List ℕ). tag_bytes t ++ l) w.is;
    })

-- an element that is refused is broken, for that reason
pub element_broken : (p : List ℕ) (at : ℕ) (why : Refusal) → Bytes p → at < length p → payload_at p at ≡ wrong why → NoElement (drop at p) why
unfolding payload_at tag_found value_found
element_broken p at why b i h = tagged (tag_at p at) refl h
  where
    is : {r : Refusal} → wrong r ≡ wrong why → NoElement (drop at p) r → NoElement (drop at p) why
    is {r} z w = let y : r ≡ why = cc in subst (NoElement (drop at p)) y w

    sized : (t n : ℕ) (r : Reads) → tag_at p at ≡ read t n → length_at p n ≡ r → value_found p t r ≡ wrong why → NoElement (drop at p) why
    sized t n malformed d e g = is g (bad_length t (drop n p) (tag_range p at t n b d) (tag_canonical p at t n b d).0 (length_bad p n e))
    sized t n cut d e g = is g (value_runs_out p at t n b d (length_cut p n b (tag_next p at t n d).1 e))
    sized t n (read l v) d e g =
        split (leb l (length p - v))
        (λ q. let z : whole t v l ≡ wrong why = simp q at g in absurd_eq (cc))
        (λ q. is (simp q at g) (value_runs_out p at t n b d (value_cut p n l v b e (leb-false _ _ q))))

    tagged : (r : Reads) → tag_at p at ≡ r → tag_found p r ≡ wrong why → NoElement (drop at p) why
    tagged (read t n) e g = sized t n (length_at p n) e refl g
    tagged malformed e g = is g (bad_tag (tag_bad p at e))
    tagged cut e g = is g (tag_runs_out p at i (tag_cut_lem p at b i e))

-- what is found where a tag is malformed or cut, and where its length is malformed or bytes lack after it
module _ (p : List ℕ) (at : ℕ) where
  found_bad : tag_at p at ≡ malformed → payload_at p at ≡ wrong R.Tag
  unfolding payload_at tag_found
  found_bad a = simp a

  found_cut : tag_at p at ≡ cut → payload_at p at ≡ wrong R.Cut
  unfolding payload_at tag_found
  found_cut a = simp a

  found_forbidden : (t n : ℕ) → tag_at p at ≡ read t n → length_at p n ≡ malformed → payload_at p at ≡ wrong R.Length
  unfolding payload_at tag_found value_found
  found_forbidden t n a e = simp (a, e)

  found_unread : (t n : ℕ) → tag_at p at ≡ read t n → Unread p n → payload_at p at ≡ wrong R.Cut
  unfolding payload_at tag_found value_found
  found_unread t n a (no_length e) = simp (a, e)
  found_unread t n a (no_value l v e h) = simp (a, e, lt-leb _ _ h)

-- the tag of what lacks bytes: it is cut itself, or it is there and the rest lacks them
pub data TagLacks (p : List ℕ) (at t : ℕ) (more rest : List ℕ) : Type 0 where
  tag_cut : tag_at p at ≡ cut → TagLacks p at t more rest
  after_tag : (n : ℕ) → tag_at p at ≡ read t n → n ≤ length p → drop n p ++ more ≡ rest → TagLacks p at t more rest

pub lacks_tag : (p : List ℕ) (at t : ℕ) (more rest : List ℕ) → TagFits t → at ≤ length p → drop at p ++ more ≡ tag_bytes t ++ rest → TagLacks p at t more rest
lacks_tag p at t more rest f i e = told (tag_at p at) refl
  where
    told : (r : Reads) → tag_at p at ≡ r → TagLacks p at t more rest
    told cut a = tag_cut a
    told malformed a = absurd (tag_bad p at a t more rest f e)
    told (read u n) a =
        let l = tag_longer p more at (λ c. let z : read u n ≡ cut = sym a ∙ c in absurd_eq (cc)) in
        let z : read u n ≡ read t (at + length (tag_bytes t)) = sym a ∙ sym l ∙ tag_stands p more at t rest i f e in
        let x : n ≡ at + length (tag_bytes t) = (same_read refl z).1 in
        let y : read u n ≡ read t n = z ∙ ap (read t) (sym x) in
        let k = (tag_next p at u n a).1 in
        let g : drop at (p ++ more) ≡ tag_bytes t ++ rest = drop-append-le at p more i ∙ e in
        after_tag n (a ∙ y) k
        (sym (drop-append-le n p more k) ∙ ap (λ (j : ℕ). drop j (p ++ more)) x ∙ stands_past (p ++ more) at (tag_bytes t) rest g)

-- an element that lacks bytes is refused as CUT
run_out : (p : List ℕ) (at t form : ℕ) (v : List ℕ) → FormFits form (length v) → (w : Lacks (drop at p) (element t form v))
    → TagLacks p at t w.more (form_bytes form (length v) ++ v) → payload_at p at ≡ wrong R.Cut
run_out p at t form v f w (tag_cut a) = found_cut p at a
run_out p at t form v f w (after_tag n a k e) =
    found_unread p at t n a (lacks_value p n k (record { form = form; v = v; more = w.more; fits = f; missing = w.missing; is = e }))

-- an element that is broken is refused, for that reason
pub broken_element : (p : List ℕ) (at : ℕ) (why : Refusal) → Bytes p → NoElement (drop at p) why → (at < length p) × (payload_at p at ≡ wrong why)
broken_element p at R.Cut b (runs_out t form v g f w) =
    let i : at < length p = omega (arith, length-drop at p, w.some) in
    (i, run_out p at t form v f w (lacks_tag p at t w.more (form_bytes form (length v) ++ v) g (omega arith) w.is))
broken_element p at R.Tag b (bad_tag h) = let a = bad_tag_lem p at b h in (bad_in p at a, found_bad p at a)
broken_element p at R.Length b (bad_length t z g e h) =
    let n = at + length (tag_bytes t) in
    let a = tag_back p at t z e g.0 g.1 in
    let x = tag_next p at t n a in
    let y : drop n p ≡ z = stands_past p at (tag_bytes t) z e in
    (omega arith, found_forbidden p at t n a (bad_length_lem p n b x.1 (subst NoLength (sym y) h)))
broken_element p at R.Big b x = elim x [ ]
broken_element p at R.Short b x = elim x [ ]
broken_element p at R.Key b x = elim x [ ]
broken_element p at R.Trail b x = elim x [ ]
broken_element p at R.Place b x = elim x [ ]
broken_element p at R.Count b x = elim x [ ]
broken_element p at R.Config b x = elim x [ ]
broken_element p at R.Map b x = elim x [ ]
broken_element p at R.Sync b x = elim x [ ]
broken_element p at R.Crc b x = elim x [ ]
broken_element p at R.Sheet b x = elim x [ ]
broken_element p at R.NoRoom b x = elim x [ ]
broken_element p at R.Bits b x = elim x [ ]
broken_element p at R.Field b x = elim x [ ]
broken_element p at R.Pad b x = elim x [ ]
broken_element p at R.Kind b x = elim x [ ]
broken_element p at R.Absent b x = elim x [ ]
broken_element p at R.Table b x = elim x [ ]
broken_element p at R.Unknown b x = elim x [ ]
broken_element p at R.Static b x = elim x [ ]
broken_element p at R.Full b x = elim x [ ]

-- z lacks some bytes to be a tag and its label
pub record EntryLacks (z : List ℕ) : Type 0 where
  pub t : ℕ
  pub label : List ℕ
  pub tagged : TagFits t
  pub long : length label ≡ 16
  pub lacks : Lacks z (tag_bytes t ++ label)

-- a mapping whose tag is cut, and one whose label runs past the end
pub tag_cut_lacks : (c : List ℕ) (at : ℕ) → Bytes c → at < length c → tag_at c at ≡ cut → EntryLacks (drop at c)
tag_cut_lacks c at b i h =
    let r = tag_cut_lem c at b i h in
    record {
      t = r.t;
      label = zeros 16;
      tagged = r.fits;
      long = length_zeros 16;
      lacks = record {
        more = last ++ zeros 16;
        some = omega (arith, length-drop at c);
        missing = omega (arith, length-append last (zeros 16));
        is = sym (append_assoc (drop at c) last (zeros 16)) ∙ ap (λ (l : List ℕ). l ++ zeros 16) r.is;
      };
    }

pub label_cut_lacks : (c : List ℕ) (at t n : ℕ) → Bytes c → tag_at c at ≡ read t n → length c - n < 16 → EntryLacks (drop at c)
label_cut_lacks c at t n b e h =
    let more = zeros (16 - (length c - n)) in
    let size = length_zeros (16 - (length c - n)) in
    let x = tag_next c at t n e in
    record {
      t = t;
      label = drop n c ++ more;
      tagged = tag_range c at t n b e;
      long = omega (arith, length-append (drop n c) more, length-drop n c);
      lacks = record {
        more = more;
        some = omega (arith, length-drop at c);
        missing = omega arith;
        is = ap (λ (l : List ℕ). l ++ more) (tag_canonical c at t n b e).0 ∙ append_assoc (tag_bytes t) (drop n c) more;
      };
    }

-- a tag is there, and fewer bytes than a label after it
pub record CutLabel (c : List ℕ) (at : ℕ) : Type 0 where
  pub t : ℕ
  pub n : ℕ
  pub tag : tag_at c at ≡ read t n
  pub short : length c - n < 16

-- a mapping that lacks bytes has one of the two
cut_at : (c : List ℕ) (at : ℕ) (w : EntryLacks (drop at c)) → TagLacks c at w.t w.lacks.more w.label → (tag_at c at ≡ cut) ⊎ CutLabel c at
cut_at c at w (tag_cut a) = inl a
cut_at c at w (after_tag n a k e) =
    let size : length c - n + length w.lacks.more ≡ 16 =
    sym (length-append (drop n c) w.lacks.more ∙ ap (λ (m : ℕ). m + length w.lacks.more) (length-drop n c)) ∙ ap length e ∙ w.long in
    inr (record { t = w.t; n = n; tag = a; short = omega (arith, w.lacks.missing) })

pub lacks_entry : (c : List ℕ) (at : ℕ) → Bytes c → EntryLacks (drop at c) → (tag_at c at ≡ cut) ⊎ CutLabel c at
lacks_entry c at b w =
    cut_at c at w (lacks_tag c at w.t w.lacks.more w.label w.tagged (omega (arith, length-drop at c, w.lacks.some)) w.lacks.is)
