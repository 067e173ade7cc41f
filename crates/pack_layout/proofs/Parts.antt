-- What stands at a place of a part, and the parts of a pack one after the other.
use mathlib.Core.Path.{◌≡◌, sym, ap, ap₂, ◌∙◌}
use mathlib.Core.List.{List, ◌++◌, append_assoc}
use Prim.Native.Nat.{ℕ, ◌+◌, ◌-◌, ◌<◌, ◌≤◌}
use native.Mathlib.Omega.{arith}
use lib.ListN.{length, take, drop, length-append, length-take, length-drop}
use lib.Seq.{take_at, take_all, take-add, drop-drop, drop-append-le}
use Rattle.runs.specs.Digits.{digits, Bytes}
use Rattle.runs.proofs.Digits.{length_digits}
use Rattle.runs.proofs.Below.{below_take, below_drop}
use Rattle.runs.proofs.Stands.{stands_past, stands_within}
use Rattle.numbers.specs.Big.{big_at}
use Rattle.numbers.proofs.Big.{big_back, big_canonical}

-- what stands at a place of a part stands in the pack
pub part_stands : (s : List ℕ) (base : ℕ) (q rest : List ℕ) (at : ℕ) (r : List ℕ) → drop base s ≡ q ++ rest → at ≤ length q → drop at q ≡ r
    → drop (base + at) s ≡ r ++ rest
part_stands s base q rest at r e h g = sym (drop-drop at base s) ∙ ap (drop at) e ∙ drop-append-le at q rest h ∙ ap (λ (l : List ℕ). l ++ rest) g

-- the place of what is left
pub left_place : (s : List ℕ) (at : ℕ) → at < length s → at ≡ length s - length (drop at s)
left_place s at h = omega (arith, length-drop at s)

-- the front of a list, from some place of it on
pub drop_take : {A : Type 0} (o m : ℕ) (l : List A) → drop o (take (o + m) l) ≡ take m (drop o l)
drop_take o m l =
    sym (take_all m (drop o (take (o + m) l)) (simp (length-drop, length-take) (omega arith))) ∙ stands_within o m (o + m) l (omega arith)

pub part_bytes : (s : List ℕ) (v l : ℕ) → Bytes s → Bytes (take l (drop v s))
part_bytes s v l b = below_take 256 l (drop v s) (below_drop 256 v s b)

-- a number of two bytes that stands at v, and what follows it
pub two_back : (s : List ℕ) (v n : ℕ) (r : List ℕ) → drop v s ≡ digits 256 2 n ++ r → n < 65536 → (big_at s v 2 ≡ n) × (drop (v + 2) s ≡ r)
two_back s v n r e h =
    (big_back s v 2 n r e h, ap (λ (k : ℕ). drop (v + k) s) (sym (length_digits 256 2 n)) ∙ stands_past s v (digits 256 2 n) r e)

-- a stretch that begins with a number of two bytes
pub two_bytes : (s : List ℕ) (v l : ℕ) → Bytes s → v + l ≤ length s → 2 ≤ l → take l (drop v s) ≡ digits 256 2 (big_at s v 2) ++ take (l - 2) (drop (v + 2) s)
two_bytes s v l b h g =
    let z : l ≡ 2 + (l - 2) = omega arith in
    ap (λ (n : ℕ). take n (drop v s)) z ∙ take-add 2 (l - 2) (drop v s)
    ∙ ap₂ (λ (x y : List ℕ). x ++ take (l - 2) y) (sym (big_canonical s v 2 b (omega arith))) (drop-drop 2 v s)

-- what follows the two numbers at the front of a Sync's value, which stands at v
pub record Inside (s : List ℕ) (v l : ℕ) (inside rest : List ℕ) : Type 0 where
  pub size : l ≡ 4 + length inside
  pub stands : drop (v + 4) s ≡ inside ++ rest
  pub part : take (l - 4) (drop (v + 4) s) ≡ inside

pub inside_back : (s : List ℕ) (v o d : ℕ) (inside rest : List ℕ) → drop v s ≡ digits 256 2 o ++ (digits 256 2 d ++ inside) ++ rest
    → Inside s v (length (digits 256 2 o ++ (digits 256 2 d ++ inside))) inside rest
inside_back s v o d inside rest e =
    let x = digits 256 2 o in
    let y = digits 256 2 d in
    let l = length (x ++ (y ++ inside)) in
    let two = length_digits 256 2 o in
    let also = length_digits 256 2 d in
    let size : l ≡ 4 + length inside = omega (arith, length-append x (y ++ inside), length-append y inside) in
    let four : v + length (x ++ y) ≡ v + 4 = omega (arith, length-append x y) in
    let whole : drop v s ≡ x ++ y ++ (inside ++ rest) = e ∙ simp append_assoc in
    let stands : drop (v + 4) s ≡ inside ++ rest = ap (λ (n : ℕ). drop n s) (sym four) ∙ stands_past s v (x ++ y) (inside ++ rest) whole in
    record { size = size; stands = stands; part = ap (take (l - 4)) stands ∙ take_at inside rest (l - 4) (omega arith) }

-- what follows the first two bytes of a stretch, in the list that ends where the stretch ends
pub after_two : (s : List ℕ) (v l : ℕ) → 2 ≤ l → drop (v + 2) (take (v + l) s) ≡ take (l - 2) (drop (v + 2) s)
after_two s v l h = let y : v + l ≡ v + 2 + (l - 2) = omega arith in ap (λ (n : ℕ). drop (v + 2) (take n s)) y ∙ drop_take (v + 2) (l - 2) s

-- two parts, what is inside after them, and what follows
pub regrouped : (a b x z : List ℕ) → a ++ (b ++ x) ++ z ≡ a ++ (b ++ (x ++ z))
regrouped a b x z = simp append_assoc

-- key, length, Config, items, and the CRC's tag, length and value
pub grouped : (a b x y t f c : List ℕ) → a ++ b ++ (x ++ y ++ (t ++ f)) ++ c ≡ a ++ (b ++ (x ++ (y ++ (t ++ (f ++ c)))))
grouped a b x y t f c = simp append_assoc

pub counted : (x y t f c : List ℕ) (n : ℕ) → length c ≡ n → length (x ++ y) + (length (t ++ f) + n) ≡ length (x ++ (y ++ (t ++ (f ++ c))))
counted x y t f c n e = simp length-append (omega arith)
