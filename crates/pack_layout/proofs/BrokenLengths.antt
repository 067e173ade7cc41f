-- What breaks a length, in the words of the layout: one that is malformed stays so whatever follows, and one that is cut, or whose value is, lacks bytes.
use mathlib.Core.Path.{◌≡◌, refl, sym, ap, ap₂, ◌∙◌}
use mathlib.Core.List.{List, [], ◌∷◌, ◌++◌, append_assoc, append-nil}
use Prim.Native.Nat.{ℕ, zero, suc, ◌+◌, ◌-◌, ◌<◌, ◌≤◌}
use native.Mathlib.Omega.{arith}
use lib.Dec.{ltb}
use lib.ListN.{length, get_or, take, drop, replicate, length-append, length-drop, length-replicate, drop_of_length-le, get_or-append}
use lib.Seq.{take-append-le, drop-append-le, get_or_at}
use borrow.Author.Tests.{ltb-true, ltb-false}
use Rattle.runs.specs.Digits.{number, Bytes}
use Rattle.runs.proofs.Cases.{split, absurd_eq}
use Rattle.runs.proofs.Below.{below_none, below_cons, below_append}
use Rattle.numbers.specs.Reads.{Reads, read, malformed, cut}
use Rattle.numbers.proofs.Same.{same_read}
use Rattle.numbers.specs.Big.{big_at}
use Rattle.numbers.specs.Lengths.{longest, long_at, length_at, form_bytes}
use Rattle.numbers.proofs.Lengths.{begins_short, begins_long, long_whole, form_back, form_sound, length_next}
use Rattle.pack_layout.specs.Well.{FormFits}
use Rattle.pack_layout.specs.Refused.{NoLength}
use Rattle.pack_layout.proofs.BrokenTags.{longer}

-- the bytes of a long form that are there, and those that are not
long_there : (s : List ℕ) (at k : ℕ) → (long_at s at k ≡ cut → ⊥) → at + k ≤ length s
unfolding long_at
long_there s at k h = split (ltb (length s) (at + k)) (λ e. absurd (h (simp e))) (λ e. ltb-false _ _ e)

long_missing : (s : List ℕ) (at k : ℕ) → long_at s at k ≡ cut → length s < at + k
unfolding long_at
long_missing s at k h =
    split (ltb (length s) (at + k)) (λ e. ltb-true _ _ e)
    (λ e. let z : read (big_at s at k) (at + k) ≡ cut = simp e at h in absurd_eq (cc))

-- more bytes change nothing where none was missing
module _ (s more : List ℕ) where
  big_longer : (at k : ℕ) → at + k ≤ length s → big_at (s ++ more) at k ≡ big_at s at k
  unfolding big_at
  big_longer at k h =
      ap (λ (l : List ℕ). number 256 (take k l)) (drop-append-le at s more (omega arith))
      ∙ ap (number 256) (take-append-le k (drop at s) more (omega (arith, length-drop at s)))

  long_longer : (at k : ℕ) → at + k ≤ length s → long_at (s ++ more) at k ≡ long_at s at k
  long_longer at k h =
      long_whole (s ++ more) at k (big_at s at k) (omega (arith, length-append s more)) (big_longer at k h)
      ∙ sym (long_whole s at k (big_at s at k) h refl)

  length_longer : (at : ℕ) → (length_at s at ≡ cut → ⊥) → length_at (s ++ more) at ≡ length_at s at
  unfolding length_at
  length_longer at h =
      split (ltb at (length s))
      (λ e. let j = longer s more at (ltb-true _ _ e) in
      let g = get_or-append s more 0 at (ltb-true _ _ e) in
      split (ltb (get_or s at 0) 128)
      (λ f. simp (j, g, e, f))
      (λ f. split (ltb (get_or s at 0) 129)
      (λ d. simp (j, g, e, f, d))
      (λ d. split (ltb (128 + longest) (get_or s at 0))
      (λ c. simp (j, g, e, f, d, c))
      (λ c. simp (j, g, e, f, d, c) (long_longer (at + 1) (get_or s at 0 - 128) (long_there s (at + 1) (get_or s at 0 - 128) (λ z. h (simp (e, f, d, c) z))))))))
      (λ e. absurd (h (simp e)))

  -- a length that stands there once they follow
  length_stands : (at form n : ℕ) (rest : List ℕ) → at ≤ length s → FormFits form n → drop at s ++ more ≡ form_bytes form n ++ rest
      → length_at (s ++ more) at ≡ read n (at + length (form_bytes form n))
  length_stands at form n rest i f e = form_back (s ++ more) at form n rest (drop-append-le at s more i ∙ e) f.0 f.1

-- where no byte stands, a length is cut
length_in : (s : List ℕ) (at : ℕ) → (length_at s at ≡ cut → ⊥) → at < length s
unfolding length_at
length_in s at h = split (ltb at (length s)) (λ e. ltb-true _ _ e) (λ e. absurd (h (simp e)))

-- a malformed length is none, whatever may follow it
pub length_bad : (s : List ℕ) (at : ℕ) → length_at s at ≡ malformed → NoLength (drop at s)
length_bad s at h form n more rest f e =
    let whole : length_at s at ≡ cut → ⊥ = λ c. let z : malformed ≡ cut = sym h ∙ c in absurd_eq (cc) in
    let i = length_in s at whole in
    let l = length_longer s more at whole in
    let z : malformed ≡ read n (at + length (form_bytes form n)) = sym h ∙ sym l ∙ length_stands s more at form n rest (omega arith) f e in
    absurd_eq (cc)

-- z lacks some bytes to be a length in an accepted form and its value
pub record ValueLacks (z : List ℕ) : Type 0 where
  pub form : ℕ
  pub v : List ℕ
  pub more : List ℕ
  pub fits : FormFits form (length v)
  pub missing : 0 < length more
  pub is : z ++ more ≡ form_bytes form (length v) ++ v

-- bytes for those that lack
abbrev pub zeros : ℕ → List ℕ
zeros m = replicate m 0

pub length_zeros : (m : ℕ) → length (zeros m) ≡ m
length_zeros m = length-replicate m 0

zeros_below : (m : ℕ) → Bytes (zeros m)
zeros_below zero = below_none 256 (omega arith)
zeros_below (suc m) = below_cons 256 0 (zeros m) (omega arith) (zeros_below m)

-- so many zeros make a length, up to their end, of one that is cut
record Filled (s : List ℕ) (at : ℕ) : Type 0 where
  m : ℕ
  l : ℕ
  some : 0 < m
  is : length_at (s ++ zeros m) at ≡ read l (length s + m)

-- by the count of its length bytes, and where not even its first byte is there
long_filled : (s : List ℕ) (at k : ℕ) → at < length s → get_or s at 0 ≡ 128 + k → 0 < k → k ≤ longest → length s < at + 1 + k → Filled s at
long_filled s at k i x p q h =
    let m = at + 1 + k - length s in
    let more = zeros m in
    let w = s ++ more in
    let size : length w ≡ length s + m = length-append s more ∙ ap (λ (n : ℕ). length s + n) (length_zeros m) in
    let g : get_or w at 0 ≡ 128 + k = get_or-append s more 0 at i ∙ x in
    let y : get_or w at 0 - 128 ≡ k = omega arith in
    record {
      m = m;
      l = big_at w (at + 1) k;
      some = omega arith;
      is = begins_long w at (omega arith) (omega arith) (omega arith) ∙ ap (long_at w (at + 1)) y
          ∙ long_whole w (at + 1) k (big_at w (at + 1) k) (omega arith) refl ∙ ap (read (big_at w (at + 1) k)) (omega arith);
    }

none_filled : (s : List ℕ) (at : ℕ) → length s ≡ at → Filled s at
none_filled s at z =
    let g = get_or_at s 0 [] 0 at z in
    record {
      m = 1;
      l = 0;
      some = omega arith;
      is = begins_short (s ++ (0 ∷ [])) at (omega (arith, length-append s (0 ∷ []))) (omega arith) ∙ ap₂ (λ (x n : ℕ). read x (n + 1)) g (sym z);
    }

length_filled : (s : List ℕ) (at : ℕ) → at ≤ length s → length_at s at ≡ cut → Filled s at
unfolding length_at
length_filled s at i h =
    split (ltb at (length s))
    (λ e. split (ltb (get_or s at 0) 128)
    (λ f. let z : read (get_or s at 0) (at + 1) ≡ cut = simp (e, f) at h in absurd_eq (cc))
    (λ f. split (ltb (get_or s at 0) 129)
    (λ d. let z : malformed ≡ cut = simp (e, f, d) at h in absurd_eq (cc))
    (λ d. split (ltb (128 + longest) (get_or s at 0))
    (λ c. let z : malformed ≡ cut = simp (e, f, d, c) at h in absurd_eq (cc))
    (λ c. long_filled s at (get_or s at 0 - 128) (ltb-true _ _ e) (omega (arith, ltb-false)) (omega (arith, ltb-false)) (omega (arith, ltb-false))
    (long_missing s (at + 1) (get_or s at 0 - 128) (simp (e, f, d, c) at h))))))
    (λ e. none_filled s at (omega (arith, ltb-false)))

-- where a length is cut, and where a value runs past the end, bytes lack
pub length_cut : (s : List ℕ) (at : ℕ) → Bytes s → at ≤ length s → length_at s at ≡ cut → ValueLacks (drop at s)
length_cut s at b i h =
    let r = length_filled s at i h in
    let end = zeros r.m in
    let w = s ++ end in
    let n = length s + r.m in
    let f = form_sound w at r.l n (below_append 256 s end b (zeros_below r.m)) r.is in
    let size : length w ≡ n = length-append s end ∙ ap (λ (k : ℕ). length s + k) (length_zeros r.m) in
    let fb = form_bytes f.form r.l in
    let e : drop at s ++ end ≡ fb =
    sym (drop-append-le at s end i) ∙ f.stands ∙ ap (λ (y : List ℕ). fb ++ y) (drop_of_length-le w {i = n} (omega arith)) ∙ append-nil fb in
    let v = zeros r.l in
    let long : length v ≡ r.l = length_zeros r.l in
    record {
      form = f.form;
      v = v;
      more = end ++ v;
      fits = (f.most, rw long f.holds);
      missing = omega (arith, length-append end v, length_zeros r.m, r.some);
      is = sym (append_assoc (drop at s) end v) ∙ ap (λ (y : List ℕ). y ++ v) (e ∙ ap (form_bytes f.form) (sym long));
    }

pub value_cut : (s : List ℕ) (at l n : ℕ) → Bytes s → length_at s at ≡ read l n → length s - n < l → ValueLacks (drop at s)
value_cut s at l n b h g =
    let f = form_sound s at l n b h in
    let m = l - (length s - n) in
    let end = zeros m in
    let v = drop n s ++ end in
    let fb = form_bytes f.form l in
    let long : length v ≡ l = omega (arith, length-append (drop n s) end, length-drop n s, length_zeros m) in
    record {
      form = f.form;
      v = v;
      more = end;
      fits = (f.most, rw long f.holds);
      missing = omega (arith, length_zeros m);
      is = ap (λ (y : List ℕ). y ++ end) f.stands ∙ append_assoc fb (drop n s) end ∙ ap (λ (k : ℕ). form_bytes f.form k ++ v) (sym long);
    }

-- what begins no length, whatever may follow it, is malformed
pub bad_length_lem : (s : List ℕ) (at : ℕ) → Bytes s → at ≤ length s → NoLength (drop at s) → length_at s at ≡ malformed
bad_length_lem s at b i h = told (length_at s at) refl
  where
    told : (r : Reads) → length_at s at ≡ r → length_at s at ≡ malformed
    told malformed e = e
    told cut e = let w = length_cut s at b i e in absurd (h w.form (length w.v) w.more w.v w.fits w.is)
    told (read l n) e =
        let f = form_sound s at l n b e in absurd (h f.form l [] (drop n s) (f.most, f.holds) (append-nil (drop at s) ∙ f.stands))

-- what is read where a length and its value lack bytes
pub data Unread (s : List ℕ) (at : ℕ) : Type 0 where
  no_length : length_at s at ≡ cut → Unread s at
  no_value : (l n : ℕ) → length_at s at ≡ read l n → length s - n < l → Unread s at

pub lacks_value : (s : List ℕ) (at : ℕ) → at ≤ length s → ValueLacks (drop at s) → Unread s at
lacks_value s at i w = told (length_at s at) refl
  where
    told : (r : Reads) → length_at s at ≡ r → Unread s at
    told cut e = no_length e
    told malformed e = absurd (length_bad s at e w.form (length w.v) w.more w.v w.fits w.is)
    told (read l n) e =
        let x = length_longer s w.more at (λ c. let z : read l n ≡ cut = sym e ∙ c in absurd_eq (cc)) in
        let fb = form_bytes w.form (length w.v) in
        let y : read l n ≡ read (length w.v) (at + length fb) =
        sym e ∙ sym x ∙ length_stands s w.more at w.form (length w.v) w.v i w.fits w.is in
        let q = same_read refl y in
        let a : l ≡ length w.v = q.0 in
        let c : n ≡ at + length fb = q.1 in
        let k = length_next s at l n e in
        let size : length s - at + length w.more ≡ length fb + length w.v =
        sym (length-append (drop at s) w.more ∙ ap (λ (j : ℕ). j + length w.more) (length-drop at s)) ∙ ap length w.is ∙ length-append fb w.v in
        no_value l n e (omega (arith, w.missing))
