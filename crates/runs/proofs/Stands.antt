-- What stands at a place of a list. Laws about what is read at a place take the rest of the list as `drop at s ≡ ys ++ zs`,
-- so that none of them has to be moved along the list.
use Prim.Native.Nat.{ℕ, zero, suc, ◌+◌, ◌-◌, ◌<◌, ◌≤◌}
use mathlib.Core.Path.{◌≡◌, refl, sym, ap, ◌∙◌}
use mathlib.Core.List.{List, [], ◌∷◌, ◌++◌}
use native.Mathlib.Omega.{arith}
use native.Mathlib.Numerals.{add-one}
use lib.ListN.{length, get_or, take, drop, length-append, length-drop}
use lib.Seq.{get_or-drop, take-take, take-add, drop-drop, drop_at, drop-cons, length-take-le}

pub stands_past : {A : Type 0} (s : List A) (at : ℕ) (ys zs : List A) → drop at s ≡ ys ++ zs → drop (at + length ys) s ≡ zs
stands_past s at ys zs e = sym (drop-drop (length ys) at s) ∙ ap (drop (length ys)) e ∙ drop_at ys zs (length ys) refl

pub stands_in : (s : List ℕ) (at : ℕ) (ys zs : List ℕ) → drop at s ≡ ys ++ zs → 0 < length ys → at + length ys ≤ length s
stands_in s at ys zs e h = omega (arith, length-drop at s, ap length e, length-append ys zs)

-- `x` stands at `at`, and then `r`
module _ (s : List ℕ) (at x : ℕ) (r : List ℕ) (e : drop at s ≡ x ∷ r) where
  pub here_in : at < length s
  here_in = omega (arith, length-drop at s, ap length e)

  pub here_is : get_or s at 0 ≡ x
  here_is = let z : at + 0 ≡ at = omega arith in ap (λ (n : ℕ). get_or s n 0) (sym z) ∙ sym (get_or-drop at s 0 0) ∙ ap (λ (l : List ℕ). get_or l 0 0) e

  pub here_next : drop (at + 1) s ≡ r
  here_next = stands_past s at (x ∷ []) r e

-- what stands inside the list is its element and what follows
pub here : (s : List ℕ) (at : ℕ) → at < length s → drop at s ≡ get_or s at 0 ∷ drop (at + 1) s
here s at h = drop-cons s at 0 h ∙ ap (λ (n : ℕ). get_or s at 0 ∷ drop n s) (sym (add-one at))

-- a part of the front of a list is that part of the list
pub stands_within : {A : Type 0} (o w m : ℕ) (l : List A) → o + w ≤ m → take w (drop o (take m l)) ≡ take w (drop o l)
stands_within zero w m l h = take-take w m l (omega arith)
stands_within (suc o) w zero l h = absurd (let z : suc o + w ≤ 0 = h in omega arith)
stands_within (suc o) w (suc m) [] h = refl
stands_within (suc o) w (suc m) (x ∷ xs) h = stands_within o w m xs (omega arith)

-- the n elements from `at` on: how many they are
pub part_length : {A : Type 0} (s : List A) (at n : ℕ) → at + n ≤ length s → length (take n (drop at s)) ≡ n
part_length s at n h = length-take-le n (drop at s) (simp length-drop (omega arith))

-- as a part that is lent
pub part_lent : {A : Type 0} (s : List A) (at n : ℕ) → take (at + n - at) (drop at s) ≡ take n (drop at s)
part_lent s at n = ap (λ (k : ℕ). take k (drop at s)) (let z : at + n - at ≡ n = omega arith in z)

-- and the m before them
pub part_append : {A : Type 0} (s : List A) (at m n : ℕ) → take (m + n) (drop at s) ≡ take m (drop at s) ++ take n (drop (at + m) s)
part_append s at m n = take-add m n (drop at s) ∙ ap (λ (l : List _). take m (drop at s) ++ take n l) (drop-drop m at s)
