-- Laws of `over` and of the writer's promise: nothing written, one byte, stores one after the other, and one run after another.
use mathlib.Core.Path.{◌≡◌, refl, sym, ap, ap₂, ◌∙◌}
use mathlib.Core.List.{List, [], ◌∷◌, ◌++◌, append_assoc}
use Prim.Native.Nat.{ℕ, suc, ◌+◌, ◌≤◌, ◌<◌}
use native.Mathlib.Omega.{arith}
use native.Mathlib.Numerals.{add-one}
use native.Mathlib.Nat.{add_assoc, add-zero, add-suc}
use lib.ListN.{length, take, drop, set, length-append, length-drop, take-append-drop}
use lib.Seq.{paste, take-take, length-take-le, take_at, drop_at, drop-drop, set_split, sets, sets-eq}
use Rattle.std.proofs.lemmas.List.Edits.{paste_all}
use Rattle.runs.specs.Over.{over, Wrote}

pub over_nil : (xs : List ℕ) (a : ℕ) → over xs a [] ≡ xs
unfolding over
over_nil xs a = rw add-zero (take-append-drop a xs)

-- what a part of a buffer leaves when it is given back
pub over_paste : (xs : List ℕ) (a : ℕ) (ys : List ℕ) → paste xs a ys (length ys) ≡ over xs a ys
unfolding over
over_paste xs a ys = paste_all xs a ys (length ys) refl

pub over_one : (xs : List ℕ) (a b : ℕ) → a < length xs → set xs a b ≡ over xs a (b ∷ [])
unfolding over
over_one xs a b h = rw (set_split, add-one)

-- a byte before a run that stands there
pub over_before : (xs : List ℕ) (a b : ℕ) (ys : List ℕ) → a + 1 + length ys ≤ length xs → set (over xs (a + 1) ys) a b ≡ over xs a (b ∷ ys)
unfolding over
over_before xs a b ys h =
    let p = take (a + 1) xs in
    let q = ys ++ drop (a + 1 + length ys) xs in
    let long : length p ≡ a + 1 = length-take-le (a + 1) xs (omega arith) in
    let front : take a (p ++ q) ≡ take a xs =
    sym (take-take a (a + 1) (p ++ q) (omega arith)) ∙ ap (take a) (take_at p q (a + 1) long) ∙ take-take a (a + 1) xs (omega arith) in
    let back : drop (suc a) (p ++ q) ≡ q = ap (λ (n : ℕ). drop n (p ++ q)) (let e : suc a ≡ a + 1 = omega arith in e) ∙ drop_at p q (a + 1) long in
    set_split (p ++ q) a b (omega (arith, length-append p q, long)) ∙ ap₂ (λ (f r : List ℕ). f ++ (b ∷ r)) front back
    ∙ ap (λ (n : ℕ). take a xs ++ (b ∷ (ys ++ drop n xs))) (let e : a + 1 + length ys ≡ a + suc (length ys) = omega arith in e)

-- stores one after the other, at a + k, a + (k + 1) and so on, as code writes their places
abbrev pub stores_from : List ℕ → ℕ → ℕ → List ℕ → List ℕ
stores_from xs a k [] = xs
stores_from xs a k (y ∷ ys) = stores_from (set xs (a + k) y) a (suc k) ys

stores_are : (ys xs : List ℕ) (a k : ℕ) → stores_from xs a k ys ≡ sets xs (a + k) ys
stores_are [] xs a k = refl
stores_are (y ∷ ys) xs a k = stores_are ys (set xs (a + k) y) a (suc k) ∙ ap (λ (n : ℕ). sets (set xs (a + k) y) n ys) (add-suc a k)

pub stores_over : (xs : List ℕ) (a : ℕ) (ys : List ℕ) → a + length ys ≤ length xs → sets xs a ys ≡ over xs a ys
unfolding over
stores_over xs a ys h = sets-eq ys xs a h ∙ append_assoc (take a xs) ys (drop (a + length ys) xs)

-- the first of them at a
pub stores_at : (xs : List ℕ) (a y : ℕ) (ys : List ℕ) → a + length (y ∷ ys) ≤ length xs → stores_from (set xs a y) a 1 ys ≡ over xs a (y ∷ ys)
stores_at xs a y ys h = stores_are ys (set xs a y) a 1 ∙ ap (λ (n : ℕ). sets (set xs a y) n ys) (add-one a) ∙ stores_over xs a (y ∷ ys) h

pub length_over : (xs : List ℕ) (a : ℕ) (ys : List ℕ) → a + length ys ≤ length xs → length (over xs a ys) ≡ length xs
unfolding over
length_over xs a ys h = simp (length-append, length-drop) (omega (arith, length-take-le a xs (omega arith)))

-- what stands up to the end of the run, and what stands after it
pub take_over : (xs : List ℕ) (a : ℕ) (ys : List ℕ) → a ≤ length xs → take (a + length ys) (over xs a ys) ≡ take a xs ++ ys
unfolding over
take_over xs a ys h =
    let p = take a xs in
    ap (take (a + length ys)) (sym (append_assoc p ys (drop (a + length ys) xs)))
    ∙ take_at (p ++ ys) (drop (a + length ys) xs) (a + length ys) (length-append p ys ∙ ap (λ (k : ℕ). k + length ys) (length-take-le a xs h))

pub drop_over : (xs : List ℕ) (a : ℕ) (ys : List ℕ) → a ≤ length xs → drop (a + length ys) (over xs a ys) ≡ drop (a + length ys) xs
unfolding over
drop_over xs a ys h =
    let p = take a xs in
    ap (drop (a + length ys)) (sym (append_assoc p ys (drop (a + length ys) xs)))
    ∙ drop_at (p ++ ys) (drop (a + length ys) xs) (a + length ys) (length-append p ys ∙ ap (λ (k : ℕ). k + length ys) (length-take-le a xs h))

-- one run after the other
pub over_over : (xs : List ℕ) (a : ℕ) (ys zs : List ℕ) → a ≤ length xs → over (over xs a ys) (a + length ys) zs ≡ over xs a (ys ++ zs)
unfolding over
over_over xs a ys zs h =
    let t = over xs a ys in
    let rest : drop (a + length ys + length zs) t ≡ drop (a + length (ys ++ zs)) xs =
    sym (drop-drop (length zs) (a + length ys) t) ∙ ap (drop (length zs)) (drop_over xs a ys h) ∙ drop-drop (length zs) (a + length ys) xs
    ∙ ap (λ (n : ℕ). drop n xs) (add_assoc a (length ys) (length zs) ∙ ap (λ (n : ℕ). a + n) (sym (length-append ys zs))) in
    ap₂ (λ (f r : List ℕ). f ++ (zs ++ r)) (take_over xs a ys h) rest ∙ simp append_assoc

-- two outcomes that meet a writer's promise coincide
pub wrote_one : {xs ys : List ℕ} {at a b : ℕ} {us vs : List ℕ} → Wrote xs at ys a us → Wrote xs at ys b vs → (a ≡ b) × (us ≡ vs)
wrote_one p q = (p.next ∙ sym q.next, p.buffer ∙ sym q.buffer)

-- nothing written
pub wrote_none : (xs : List ℕ) (at : ℕ) → Wrote xs at [] at xs
wrote_none xs at = record { next = sym (add-zero at); buffer = sym (over_nil xs at) }

-- one byte written
pub wrote_byte : (xs : List ℕ) (at b : ℕ) → at < length xs → Wrote xs at (b ∷ []) (at + 1) (set xs at b)
wrote_byte xs at b h = record { next = refl; buffer = over_one xs at b h }

-- two runs, one after the other
pub wrote_then : {xs us vs : List ℕ} {at m n : ℕ} (ys zs : List ℕ) → at + length ys ≤ length xs → Wrote xs at ys m us → Wrote us m zs n vs → Wrote xs at (ys ++ zs) n vs
wrote_then {xs} {us} {vs} {at} {m} {n} ys zs h p q = record {
  next = q.next ∙ ap (λ (k : ℕ). k + length zs) p.next ∙ add_assoc at (length ys) (length zs) ∙ ap (λ (k : ℕ). at + k) (sym (length-append ys zs));
  buffer =
      q.buffer ∙ ap (λ (k : ℕ). over us k zs) p.next ∙ ap (λ (l : List ℕ). over l (at + length ys) zs) p.buffer ∙ over_over xs at ys zs (omega arith);
}

-- the same bytes, said otherwise
pub wrote_as : {xs us ys zs : List ℕ} {at n : ℕ} → ys ≡ zs → Wrote xs at ys n us → Wrote xs at zs n us
wrote_as {xs} {us} {ys} {zs} {at} {n} e p = record
    { next = p.next ∙ ap (λ (l : List ℕ). at + length l) e; buffer = p.buffer ∙ ap (over xs at) e }

pub wrote_length : {xs us ys : List ℕ} {at n : ℕ} → at + length ys ≤ length xs → Wrote xs at ys n us → length us ≡ length xs
wrote_length {xs} {us} {ys} {at} {n} h p = ap length p.buffer ∙ length_over xs at ys h
