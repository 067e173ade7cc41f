-- What breaks a tag, in the words of the layout: a tag that is malformed stays so whatever follows, and a tag that is cut is one once a byte follows.
use mathlib.Core.Path.{◌≡◌, refl, sym, ap, ap₂, ◌∙◌}
use mathlib.Core.List.{List, [], ◌∷◌, ◌++◌, append-nil}
use mathlib.Core.Bool.{true}
use Prim.Native.Nat.{ℕ, zero, suc, ◌+◌, ◌-◌, ◌*◌, ◌<◌, ◌≤◌}
use native.Mathlib.Omega.{arith}
use lib.Dec.{ltb, eqb}
use lib.ListN.{length, get_or, drop, length-append, drop_of_length-le, get_or-append}
use lib.Seq.{drop-append-le, drop-append-add, get_or_at}
use borrow.Author.Tests.{lt-ltb, ltb-true, ltb-false}
use Rattle.runs.specs.Digits.{Bytes}
use Rattle.runs.proofs.Cases.{split, absurd_eq}
use Rattle.runs.proofs.Below.{below_none, below_cons, below_append}
use Rattle.numbers.specs.Reads.{Reads, read, malformed, cut}
use Rattle.numbers.specs.Tags.{tag_from, tag_at, tag_bytes}
use Rattle.numbers.proofs.Tags.{groups_last, tag_back, tag_range, tag_canonical}
use Rattle.pack_layout.specs.Refused.{TagFits, NoTag}

-- more bytes change nothing where none was missing
module _ (s more : List ℕ) where
  pub longer : (at : ℕ) → at < length s → ltb at (length (s ++ more)) ≡ true
  longer at h = lt-ltb at (length (s ++ more)) (omega (arith, length-append s more))

  groups_longer : (k at n : ℕ) → (tag_from k s at n ≡ cut → ⊥) → tag_from k (s ++ more) at n ≡ tag_from k s at n
  unfolding tag_from
  groups_longer zero at n h = refl
  groups_longer (suc k) at n h =
      split (ltb at (length s))
      (λ e. let i = longer at (ltb-true _ _ e) in
      let g = get_or-append s more 0 at (ltb-true _ _ e) in
      split (ltb (get_or s at 0) 128)
      (λ f. simp (i, g, e, f))
      (λ f. simp (i, g, e, f) (groups_longer k (at + 1) (n * 128 + (get_or s at 0 - 128)) (λ c. h (simp (e, f) c)))))
      (λ e. absurd (h (simp e)))

  pub tag_longer : (at : ℕ) → (tag_at s at ≡ cut → ⊥) → tag_at (s ++ more) at ≡ tag_at s at
  unfolding tag_at
  tag_longer at h =
      split (ltb at (length s))
      (λ e. let i = longer at (ltb-true _ _ e) in
      let g = get_or-append s more 0 at (ltb-true _ _ e) in
      split (eqb (get_or s at 0) 0)
      (λ f. simp (i, g, e, f))
      (λ f. split (eqb (get_or s at 0) 128)
      (λ d. simp (i, g, e, f, d))
      (λ d. simp (i, g, e, f, d) (groups_longer 4 at 0 (λ c. h (simp (e, f, d) c))))))
      (λ e. absurd (h (simp e)))

  -- a tag that stands there once they follow
  pub tag_stands : (at t : ℕ) (rest : List ℕ) → at ≤ length s → TagFits t → drop at s ++ more ≡ tag_bytes t ++ rest
      → tag_at (s ++ more) at ≡ read t (at + length (tag_bytes t))
  tag_stands at t rest i f e = tag_back (s ++ more) at t rest (drop-append-le at s more i ∙ e) f.0 f.1

-- where no byte stands, a tag is cut
tag_in : (s : List ℕ) (at : ℕ) → (tag_at s at ≡ cut → ⊥) → at < length s
unfolding tag_at
tag_in s at h = split (ltb at (length s)) (λ e. ltb-true _ _ e) (λ e. absurd (h (simp e)))

pub bad_in : (s : List ℕ) (at : ℕ) → tag_at s at ≡ malformed → at < length s
bad_in s at h = tag_in s at (λ c. let z : malformed ≡ cut = sym h ∙ c in absurd_eq (cc))

-- a malformed tag is none, whatever may follow it
pub tag_bad : (s : List ℕ) (at : ℕ) → tag_at s at ≡ malformed → NoTag (drop at s)
tag_bad s at h t more rest f e =
    let i = bad_in s at h in
    let l = tag_longer s more at (λ c. let z : malformed ≡ cut = sym h ∙ c in absurd_eq (cc)) in
    let z : malformed ≡ read t (at + length (tag_bytes t)) = sym h ∙ sym l ∙ tag_stands s more at t rest (omega arith) f e in
    absurd_eq (cc)

-- a byte that makes a tag of one that is cut
abbrev pub last : List ℕ
last = 1 ∷ []

record Ended (r : Reads) (n : ℕ) : Type 0 where
  t : ℕ
  is : r ≡ read t n

groups_ended : (k : ℕ) (s : List ℕ) (at n : ℕ) → at ≤ length s → tag_from k s at n ≡ cut → Ended (tag_from k (s ++ last) at n) (length s + 1)
unfolding tag_from
groups_ended zero s at n l h = absurd_eq (cc)
groups_ended (suc k) s at n l h =
    split (ltb at (length s))
    (λ e. let i = longer s last at (ltb-true _ _ e) in
    let g = get_or-append s last 0 at (ltb-true _ _ e) in
    split (ltb (get_or s at 0) 128)
    (λ f. let z : read (n * 128 + get_or s at 0) (at + 1) ≡ cut = simp (e, f) at h in absurd_eq (cc))
    (λ f. let r = groups_ended k s (at + 1) (n * 128 + (get_or s at 0 - 128)) (omega (arith, ltb-true)) (simp (e, f) at h) in
    record { t = r.t; is = simp (i, g, f) r.is }))
    (λ e. let z : length s ≡ at = omega (arith, ltb-false) in
    let g = get_or_at s 1 [] 0 at z in
    record {
      t = n * 128 + 1;
      is = groups_last (suc k) (s ++ last) at n (omega arith) (omega (arith, length-append s last)) (omega arith)
          ∙ ap₂ (λ (x m : ℕ). read (n * 128 + x) (m + 1)) g (sym z);
    })

tag_ended : (s : List ℕ) (at : ℕ) → at < length s → tag_at s at ≡ cut → Ended (tag_at (s ++ last) at) (length s + 1)
unfolding tag_at
tag_ended s at i h =
    let e = lt-ltb at (length s) i in
    let l = longer s last at i in
    let g = get_or-append s last 0 at i in
    split (eqb (get_or s at 0) 0)
    (λ f. let z : malformed ≡ cut = simp (e, f) at h in absurd_eq (cc))
    (λ f. split (eqb (get_or s at 0) 128)
    (λ d. let z : malformed ≡ cut = simp (e, f, d) at h in absurd_eq (cc))
    (λ d. let r = groups_ended 4 s at 0 (omega arith) (simp (e, f, d) at h) in
    record { t = r.t; is = simp (l, g, f, d) r.is }))

-- what is there of a tag that is cut, and the byte, are a tag
pub record CutTag (s : List ℕ) (at : ℕ) : Type 0 where
  pub t : ℕ
  pub fits : TagFits t
  pub is : drop at s ++ last ≡ tag_bytes t

pub tag_cut_lem : (s : List ℕ) (at : ℕ) → Bytes s → at < length s → tag_at s at ≡ cut → CutTag s at
tag_cut_lem s at b i h =
    let r = tag_ended s at i h in
    let whole = below_append 256 s last b (below_cons 256 1 [] (omega arith) (below_none 256 (omega arith))) in
    let c = tag_canonical (s ++ last) at r.t (length s + 1) whole r.is in
    record {
      t = r.t;
      fits = tag_range (s ++ last) at r.t (length s + 1) whole r.is;
      is = sym (drop-append-le at s last (omega arith)) ∙ c.0 ∙ ap (λ (l : List ℕ). tag_bytes r.t ++ l) (drop-append-add s last 1)
          ∙ append-nil (tag_bytes r.t);
    }

-- what begins no tag, whatever may follow it, is malformed
pub bad_tag_lem : (s : List ℕ) (at : ℕ) → Bytes s → NoTag (drop at s) → tag_at s at ≡ malformed
bad_tag_lem s at b h = told (tag_at s at) refl
  where
    told : (r : Reads) → tag_at s at ≡ r → tag_at s at ≡ malformed
    told malformed e = e
    told (read t n) e = absurd (h t [] (drop n s) (tag_range s at t n b e) (append-nil (drop at s) ∙ (tag_canonical s at t n b e).0))
    told cut e =
        split (ltb at (length s))
        (λ i. let c = tag_cut_lem s at b (ltb-true _ _ i) e in absurd (h c.t last [] c.fits (c.is ∙ sym (append-nil (tag_bytes c.t)))))
        (λ i. absurd
        (h 1 (tag_bytes 1) [] (omega arith, omega arith)
        (ap (λ (l : List ℕ). l ++ tag_bytes 1) (drop_of_length-le s (ltb-false _ _ i)) ∙ sym (append-nil (tag_bytes 1)))))
