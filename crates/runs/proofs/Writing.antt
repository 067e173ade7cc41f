-- What a loop that writes keeps: what is left, written now, gives the whole.
use mathlib.Core.Path.{◌≡◌, refl, sym, ap, ◌∙◌}
use mathlib.Core.List.{List, [], ◌∷◌, ◌++◌, append-nil}
use Prim.Native.Nat.{ℕ, ◌+◌, ◌≤◌}
use native.Mathlib.Omega.{arith}
use lib.ListN.{length, set, length-append}
use Rattle.runs.specs.Over.{over, Wrote}
use Rattle.runs.proofs.Over.{over_nil, over_over, wrote_byte, wrote_length}

-- `whole` is to be written into xs from a on; us is the buffer so far, and `left` is still to be written from `at` on
pub record Writing (xs : List ℕ) (a : ℕ) (whole us : List ℕ) (at : ℕ) (left : List ℕ) : Type 0 where
  pub same : length us ≡ length xs
  pub room : at + length left ≤ length us
  pub ends : at + length left ≡ a + length whole
  pub gives : over us at left ≡ over xs a whole

pub writing_begins : (xs : List ℕ) (a : ℕ) (whole : List ℕ) → a + length whole ≤ length xs → Writing xs a whole xs a whole
writing_begins xs a whole h = record { same = refl; room = h; ends = refl; gives = refl }

-- what is left, said otherwise
pub writing_as : {xs whole us left more : List ℕ} {a at : ℕ} → left ≡ more → Writing xs a whole us at left → Writing xs a whole us at more
writing_as {xs} {whole} {us} {left} {more} {a} {at} e w =
    let l : length left ≡ length more = ap length e in
    record { same = w.same; room = omega arith; ends = omega arith; gives = ap (over us at) (sym e) ∙ w.gives }

-- a run of it is written
pub writing_run : {xs whole us vs : List ℕ} {a at n : ℕ} (ys left : List ℕ) → Writing xs a whole us at (ys ++ left) → Wrote us at ys n vs → Writing xs a whole vs n left
writing_run {xs} {whole} {us} {vs} {a} {at} {n} ys left w p =
    let l : length (ys ++ left) ≡ length ys + length left = length-append ys left in
    let s : length vs ≡ length us = wrote_length (omega arith) p in
    record {
      same = s ∙ w.same;
      room = omega arith;
      ends = omega arith;
      gives =
          ap (λ (k : ℕ). over vs k left) p.next ∙ ap (λ (l : List ℕ). over l (at + length ys) left) p.buffer
          ∙ over_over us at ys left (omega arith) ∙ w.gives;
    }

-- a byte of it is written
pub writing_byte : {xs whole us : List ℕ} {a at : ℕ} (b : ℕ) (left : List ℕ) → Writing xs a whole us at (b ∷ left) → Writing xs a whole (set us at b) (at + 1) left
writing_byte {xs} {whole} {us} {a} {at} b left w = writing_run (b ∷ []) left w (wrote_byte us at b (omega arith))

-- nothing is left
pub writing_done : {xs whole us : List ℕ} {a at : ℕ} → Writing xs a whole us at [] → Wrote xs a whole at us
writing_done {xs} {whole} {us} {a} {at} w = record { next = omega arith; buffer = sym (over_nil us at) ∙ w.gives }

-- the room for the next run, and the last one
pub room_for : {xs whole us : List ℕ} {a at : ℕ} (ys left : List ℕ) → Writing xs a whole us at (ys ++ left) → at + length ys ≤ length us
room_for ys left w = let r = w.room in let l = length-append ys left in omega arith

pub writing_last : {xs whole us vs : List ℕ} {a at n : ℕ} (ys : List ℕ) → Writing xs a whole us at ys → Wrote us at ys n vs → Wrote xs a whole n vs
writing_last ys w p = writing_done (writing_run ys [] (writing_as (sym (append-nil ys)) w) p)
