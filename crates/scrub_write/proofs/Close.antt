-- The end of a pack: what stands before the CRC, the CRC, and 0 to the end of the buffer.
use mathlib.Core.Path.{◌≡◌, refl, sym, ap, ap₂, subst, ◌∙◌}
use mathlib.Core.List.{List, [], ◌∷◌, ◌++◌, append_assoc, append-nil}
use Prim.Native.Nat.{ℕ, ◌+◌, ◌-◌, ◌≤◌}
use native.Mathlib.Omega.{arith}
use lib.ListN.{length, take, drop, set, replicate, length-append, length-set, length-replicate, drop_of_length-le}
use lib.Seq.{length-take-le}
use Rattle.runs.specs.Digits.{digits}
use Rattle.runs.specs.Over.{over, Wrote}
use Rattle.runs.proofs.Digits.{length_digits}
use Rattle.runs.proofs.Over.{take_over, over_over, wrote_byte, wrote_then, wrote_length}
use Rattle.crc.specs.Crc.{crc_of}
use Rattle.refusals.specs.Outcomes.{fine}
use Rattle.scrub_kept.specs.Scrubbed.{leaves}
use Rattle.scrub_write.specs.Packed.{sealed, Packed}

-- a run up to the end of the list
over_end : (xs : List ℕ) (a : ℕ) (ys : List ℕ) → a + length ys ≡ length xs → over xs a ys ≡ take a xs ++ ys
unfolding over
over_end xs a ys h =
    ap (λ (l : List ℕ). take a xs ++ l) (ap (λ (l : List ℕ). ys ++ l) (drop_of_length-le xs {i = a + length ys} (omega arith)) ∙ append-nil ys)

-- 0 from the end of a run on
cleared : {xs us vs : List ℕ} {at n : ℕ} (ys : List ℕ) → at + length ys ≤ length xs → Wrote xs at ys n us → vs ≡ over us n (replicate (length us - n) 0)
    → vs ≡ leaves xs (fine (take at xs ++ ys))
unfolding leaves
cleared {xs} {us} {vs} {at} {n} ys h w e =
    let l : length us ≡ length xs = wrote_length h w in
    let k = length xs - (at + length ys) in
    let z : length us - n ≡ k = let q = w.next in omega arith in
    let zeros : List ℕ = replicate k 0 in
    let r : length zeros ≡ k = length-replicate k 0 in
    let a = length-append ys (replicate k 0) in
    let t : length (take at xs) ≡ at = length-take-le at xs (omega arith) in
    let b = length-append (take at xs) ys in
    let f : k ≡ length xs - length (take at xs ++ ys) = omega arith in
    e
    ∙ ap (λ (m : ℕ). over us n (replicate m 0)) z
    ∙ ap₂ (λ (l : List ℕ) (m : ℕ). over l m (replicate k 0)) w.buffer w.next
    ∙ over_over xs at ys (replicate k 0) (omega arith)
    ∙ over_end xs at (ys ++ replicate k 0) (omega arith)
    ∙ sym (append_assoc (take at xs) ys (replicate k 0))
    ∙ ap (λ (m : ℕ). (take at xs ++ ys) ++ replicate m 0) f

-- the CRC's tag and length
module _ (xs : List ℕ) (at : ℕ) (h : at + 6 ≤ length xs) where
  pub two_written : Wrote xs at (3 ∷ 4 ∷ []) (at + 2) (set (set xs at 3) (at + 1) 4)
  two_written =
      let p = wrote_byte xs at 3 (omega arith) in
      let l = length-set xs at 3 in
      let w = wrote_then (3 ∷ []) (4 ∷ []) (let z : at + 1 ≤ length xs = omega arith in z) p (wrote_byte (set xs at 3) (at + 1) 4 (omega arith)) in
      record { next = refl; buffer = w.buffer }

  pub two_length : length (set (set xs at 3) (at + 1) 4) ≡ length xs
  two_length = length-set (set xs at 3) (at + 1) 4 ∙ length-set xs at 3

  -- what the CRC is of
  pub two_stand : take (at + 2 - 0) (drop 0 (set (set xs at 3) (at + 1) 4)) ≡ take at xs ++ (3 ∷ 4 ∷ [])
  two_stand =
      ap (λ (n : ℕ). take n (set (set xs at 3) (at + 1) 4)) (let z : at + 2 - 0 ≡ at + 2 = omega arith in z)
      ∙ ap (take (at + 2)) two_written.buffer
      ∙ take_over xs at (3 ∷ 4 ∷ []) (omega arith)

  pub closed : (sum n : ℕ) (us vs : List ℕ) → sum ≡ crc_of (take (at + 2 - 0) (drop 0 (set (set xs at 3) (at + 1) 4)))
      → Wrote (set (set xs at 3) (at + 1) 4) (at + 2) (digits 256 4 sum) n us → vs ≡ over us n (replicate (length us - n) 0)
      → Packed xs (sealed (take at xs ++ (3 ∷ 4 ∷ []))) n vs
  closed sum n us vs s w e =
      let b = take at xs ++ (3 ∷ 4 ∷ []) in
      let d = digits 256 4 (crc_of b) in
      let q : digits 256 4 sum ≡ d = ap (digits 256 4) (s ∙ ap crc_of two_stand) in
      let w2 = subst (λ (y : List ℕ). Wrote (set (set xs at 3) (at + 1) 4) (at + 2) y n us) q w in
      let all = wrote_then (3 ∷ 4 ∷ []) d (let z : at + 2 ≤ length xs = omega arith in z) two_written w2 in
      let dl : length d ≡ 4 = length_digits 256 4 (crc_of b) in
      let al = length-append (3 ∷ 4 ∷ []) d in
      let t : length (take at xs) ≡ at = length-take-le at xs (omega arith) in
      let bl = length-append (take at xs) (3 ∷ 4 ∷ []) in
      let sl = length-append b d in
      let whole : take at xs ++ ((3 ∷ 4 ∷ []) ++ d) ≡ b ++ d = sym (append_assoc (take at xs) (3 ∷ 4 ∷ []) d) in
      record {
        size = let z = all.next in omega arith;
        buffer = cleared ((3 ∷ 4 ∷ []) ++ d) (omega arith) all e ∙ ap (λ (l : List ℕ). leaves xs (fine l)) whole;
      }
