-- What a quick look tells: an audio payload is there.
use Prim.Native.Nat.{ℕ, ◌+◌, ◌-◌, ◌<◌, ◌≤◌}
use mathlib.Core.Path.{◌≡◌, refl, ap, ◌∙◌}
use mathlib.Core.List.{List}
use native.Mathlib.Omega.{arith}
use lib.Dec.{ltb, leb, eqb}
use lib.ListN.{length, get_or}
use borrow.Author.Tests.{le-ltb, le-leb, lt-leb, ltb-false, leb-false, eqb-true}
use Rattle.runs.proofs.Cases.{split, absurd_eq}
use Rattle.std.specs.Prelude.{None, Ok}
use Rattle.numbers.specs.Reads.{read}
use Rattle.numbers.specs.Big.{big_at}
use Rattle.numbers.specs.Lengths.{long_at, length_at}
use Rattle.numbers.proofs.Tags.{one_byte}
use Rattle.numbers.proofs.Lengths.{begins_short, begins_long, long_whole}
use Rattle.pack.specs.Payloads.{value_found, tag_found, payload_at}
use Rattle.pack.specs.Payloads.{whole}
use Rattle.pack.specs.declared.Element.{Element}
use Rattle.pack.proofs.Same.{same_whole}
use Rattle.pack.proofs.Payloads.{Parsed, Seen}
use Rattle.pack_item.specs.Quick.{audio, glance_after, glance_at}

-- a tag, a length and a value that is there are a payload
payload_is : {p : List ℕ} {at t v l : ℕ} → Parsed p at t v l → payload_at p at ≡ whole t v l
unfolding payload_at tag_found value_found
payload_is g = simp (g.tag, g.len, le-leb _ _ g.fits)

-- a length of three bytes by the form 82
three : (p : List ℕ) (at : ℕ) → at + 3 ≤ length p → get_or p at 0 ≡ 130 → length_at p at ≡ read (big_at p (at + 1) 2) (at + 3)
three p at i e =
    let k : get_or p at 0 - 128 ≡ 2 = omega arith in
    begins_long p at (omega arith) (omega arith) (omega arith)
    ∙ ap (long_at p (at + 1)) k
    ∙ long_whole p (at + 1) 2 _ (omega arith) refl
    ∙ ap (read (big_at p (at + 1) 2)) (omega arith)

same_told : {t v l u w m : ℕ} → audio t v l ≡ audio u w m → whole t v l ≡ whole u w m
same_told {t} {v} {l} {u} {w} {m} e =
    let x : Element = record { tag = t; value = record { start = v; len = l } } in
    let y : Element = record { tag = u; value = record { start = w; len = m } } in
    let i : x ≡ y = cc in
    ap Ok i

-- after a tag of one byte and a length
glance_after_lem : (p : List ℕ) (at n m t v l : ℕ) → at < length p → 3 < get_or p at 0 → get_or p at 0 ≤ 127 → length_at p (at + 1) ≡ read m (at + n)
    → glance_after p at n m ≡ audio t v l → Seen p at t v l
unfolding glance_after
glance_after_lem p at n m t v l i a b e h =
    split (ltb (length p - at - n) m) (λ c. let j : None ≡ audio t v l = simp c at h in absurd_eq (cc))
    (λ c.
    let j : audio (get_or p at 0) (at + n) m ≡ audio t v l = simp c at h in
    let y : whole (get_or p at 0) (at + n) m ≡ whole t v l = same_told j in
    let x : get_or p at 0 ≡ t = (same_whole refl y).0 in
    let g : Parsed p at (get_or p at 0) (at + n) m = record { after = at + 1; tag = one_byte p at i (λ z. omega arith) (omega arith); len = e; fits = omega (arith, ltb-false) } in
    record { audio = omega arith; there = payload_is g ∙ y })

pub glance_told : (p : List ℕ) (at t v l : ℕ) → glance_at p at ≡ audio t v l → Seen p at t v l
unfolding glance_at
glance_told p at t v l h =
    split (ltb (length p - at) 4) (λ a. let i : None ≡ audio t v l = simp a at h in absurd_eq (cc))
    (λ a. split (leb (get_or p at 0) 3) (λ b. let i : None ≡ audio t v l = simp (a, b) at h in absurd_eq (cc))
    (λ b. split (ltb 127 (get_or p at 0)) (λ c. let i : None ≡ audio t v l = simp (a, b, c) at h in absurd_eq (cc))
    (λ c.
    let room : 4 ≤ length p - at = ltb-false _ _ a in
    let next : at + 1 + 1 ≡ at + 2 = omega arith in
    let last : at + 1 + 3 ≡ at + 4 = omega arith in
    split (ltb 127 (get_or p (at + 1) 0))
    (λ d. split (eqb (get_or p (at + 1) 0) 130)
    (λ e.
    glance_after_lem p at 4 (big_at p (at + 2) 2) t v l (omega arith) (leb-false _ _ b) (ltb-false _ _ c)
    (simp (next, last) at (three p (at + 1) (omega arith) (eqb-true _ _ e)))
    (simp (a, b, c, d, e) at h))
    (λ e. let i : None ≡ audio t v l = simp (a, b, c, d, e) at h in absurd_eq (cc)))
    (λ d.
    glance_after_lem p at 2 (get_or p (at + 1) 0) t v l (omega arith) (leb-false _ _ b) (ltb-false _ _ c)
    (simp next at (begins_short p (at + 1) (omega arith) (omega (arith, ltb-false))))
    (simp (a, b, c, d) at h)))))

-- the look by the form of the length
module _ (p : List ℕ) (at : ℕ) {n l : ℕ} (room : 4 ≤ length p - at) (audio : 3 < get_or p at 0) (one : get_or p at 0 ≤ 127) where
  pub glance_short : get_or p (at + 1) 0 ≤ 127 → n ≡ 2 → l ≡ get_or p (at + 1) 0 → glance_after p at n l ≡ glance_at p at
  unfolding glance_at
  glance_short f x y = simp (le-ltb _ _ room, lt-leb _ _ audio, le-ltb _ _ one, le-ltb _ _ f, x, y)

  pub glance_long : get_or p (at + 1) 0 ≡ 130 → n ≡ 4 → l ≡ big_at p (at + 2) 2 → glance_after p at n l ≡ glance_at p at
  unfolding glance_at
  glance_long f x y = simp (le-ltb _ _ room, lt-leb _ _ audio, le-ltb _ _ one, f, x, y)
