-- Laws of blocks that there is room for, of numbers of four bytes, and of parts.
use mathlib.Core.Path.{◌≡◌, refl, sym, ap, ◌∙◌}
use mathlib.Core.List.{List, [], ◌∷◌, ◌++◌, map, append_assoc}
use Prim.Native.Nat.{ℕ, zero, suc, ◌+◌, ◌-◌, ◌<◌, ◌≤◌}
use native.Mathlib.Omega.{arith}
use lib.ListN.{length, take, drop, get_or, replicate, length-append}
use lib.Dec.{ltb}
use borrow.Author.Tests.{lt-ltb, le-ltb, ltb-false}
use Rattle.runs.specs.Digits.{digits}
use Rattle.runs.proofs.Cases.{split}
use Rattle.runs.proofs.Digits.{length_digits}
use Rattle.runs.proofs.Stands.{here}
use Rattle.numbers.specs.Big.{big_at}
use Rattle.vectors.specs.Blocks.{fitting, fours, parts_from}

-- BLOCKS

pub fitting_small : (room : ℕ) (bs : List (List ℕ)) → length (fitting room bs) ≤ room
unfolding fitting
fitting_small room [] = omega arith
fitting_small room (b ∷ bs) =
    split (ltb room (length b))
    (λ e. rw e (fitting_small room bs))
    (λ e. let i = fitting_small (room - length b) bs in
    let h = ltb-false room (length b) e in
    let l = length-append b (fitting (room - length b) bs) in
    rw e (omega arith))

fitting_next : (room : ℕ) (b : List ℕ) (bs : List (List ℕ)) → length b ≤ room → fitting room (b ∷ bs) ≡ b ++ fitting (room - length b) bs
unfolding fitting
fitting_next room b bs h = simp (le-ltb room (length b) h)

pub fitting_append : (room : ℕ) (xs ys : List (List ℕ)) → fitting room (xs ++ ys) ≡ fitting room xs ++ fitting (room - length (fitting room xs)) ys
unfolding fitting
fitting_append room [] ys = ap (λ (k : ℕ). fitting k ys) (let e : room ≡ room - 0 = omega arith in e)
fitting_append room (b ∷ xs) ys =
    split (ltb room (length b))
    (λ e. rw e (fitting_append room xs ys))
    (λ e. let less = room - length b in
    let first = fitting less xs in
    let l = length-append b first in
    let n : less - length first ≡ room - length (b ++ first) = omega arith in
    rw e (ap (λ (l : List ℕ). b ++ l) (fitting_append less xs ys ∙ ap (λ (k : ℕ). first ++ fitting k ys) n)
    ∙ sym (append_assoc b first (fitting (room - length (b ++ first)) ys))))

-- one block again and again, and numbers of four bytes: the next, and none where there is no room
pub repeat_next : (room times t : ℕ) (b : List ℕ) → t < times → length b ≤ room
    → fitting room (replicate (times - t) b) ≡ b ++ fitting (room - length b) (replicate (times - (t + 1)) b)
repeat_next room times t b h fits =
    ap (λ (n : ℕ). fitting room (replicate n b)) (let e : times - t ≡ suc (times - (t + 1)) = omega arith in e)
    ∙ fitting_next room b (replicate (times - (t + 1)) b) fits

pub repeat_none : (room k : ℕ) (b : List ℕ) → room < length b → fitting room (replicate k b) ≡ []
unfolding fitting
repeat_none room zero b h = refl
repeat_none room (suc k) b h = simp (lt-ltb room (length b) h) (repeat_none room k b h)

pub big_next : (room : ℕ) (numbers : List ℕ) (i : ℕ) → i < length numbers → 4 ≤ room → let b = digits 256 4 (get_or numbers i 0) in
    fitting room (map (digits 256 4) (drop i numbers)) ≡ b ++ fitting (room - length b) (map (digits 256 4) (drop (i + 1) numbers))
big_next room numbers i h fits =
    let b = digits 256 4 (get_or numbers i 0) in
    let l = length_digits 256 4 (get_or numbers i 0) in
    ap (λ (xs : List ℕ). fitting room (map (digits 256 4) xs)) (here numbers i h)
    ∙ fitting_next room b (map (digits 256 4) (drop (i + 1) numbers)) (omega arith)

pub big_none : (room : ℕ) (numbers : List ℕ) → room < 4 → fitting room (map (digits 256 4) numbers) ≡ []
unfolding fitting
big_none room [] h = refl
big_none room (v ∷ numbers) h =
    let l = length_digits 256 4 v in
    simp (lt-ltb room (length (digits 256 4 v)) (omega arith)) (big_none room numbers h)

-- NUMBERS OF FOUR BYTES

pub fours_few : (room : ℕ) (s : List ℕ) (at : ℕ) → length (fours room s at) ≤ room
unfolding fours
fours_few zero s at = omega arith
fours_few (suc room) s at =
    let i = fours_few room s (at + 4) in
    split (ltb (length s - at) 4) (λ e. rw e (omega arith)) (λ e. rw e (omega arith))

pub fours_next : (room : ℕ) (s : List ℕ) (at : ℕ) → 0 < room → 4 ≤ length s - at → fours room s at ≡ big_at s at 4 ∷ fours (room - 1) s (at + 4)
unfolding fours
fours_next zero s at p h = absurd (omega arith)
fours_next (suc room) s at p h =
    let e : room ≡ suc room - 1 = omega arith in
    simp (le-ltb (length s - at) 4 h) (ap (λ (n : ℕ). big_at s at 4 ∷ fours n s (at + 4)) e)

pub fours_cut : (room : ℕ) (s : List ℕ) (at : ℕ) → length s - at < 4 → fours room s at ≡ []
unfolding fours
fours_cut zero s at h = refl
fours_cut (suc room) s at h = simp (lt-ltb (length s - at) 4 h)

-- PARTS

pub parts_over : (most : ℕ) (s : List ℕ) (at : ℕ) → length s - at < 4 → parts_from most s at ≡ []
unfolding parts_from
parts_over zero s at h = refl
parts_over (suc most) s at h = simp (lt-ltb (length s - at) 4 h)

pub parts_cut : (most : ℕ) (s : List ℕ) (at : ℕ) → 4 ≤ length s - at → length s - (at + 4) < big_at s (at + 2) 2 → parts_from most s at ≡ []
unfolding parts_from
parts_cut zero s at there h = refl
parts_cut (suc most) s at there h = simp (le-ltb (length s - at) 4 there, lt-ltb (length s - (at + 4)) (big_at s (at + 2) 2) h)

pub parts_next : (most : ℕ) (s : List ℕ) (at times size : ℕ) → times ≡ big_at s at 2 → size ≡ big_at s (at + 2) 2 → 4 ≤ length s - at → length s ≤ most + at
    → size ≤ length s - (at + 4) → parts_from most s at ≡ replicate times (take size (drop (at + 4) s)) ++ parts_from (most - 1) s (at + 4 + size)
unfolding parts_from
parts_next zero s at times size e f there enough h = absurd (omega arith)
parts_next (suc most) s at times size e f there enough h =
    let n : most ≡ suc most - 1 = omega arith in
    simp (le-ltb (length s - at) 4 there, sym f, sym e, le-ltb (length s - (at + 4)) size h)
    (ap (λ (m : ℕ). replicate times (take size (drop (at + 4) s)) ++ parts_from m s (at + 4 + size)) n)
