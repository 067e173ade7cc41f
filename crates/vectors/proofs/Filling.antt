-- What a loop that fills a buffer with blocks keeps.
use mathlib.Core.Path.{◌≡◌, ap, ◌∙◌}
use mathlib.Core.List.{List, [], ◌++◌}
use Prim.Native.Nat.{ℕ, ◌-◌, ◌≤◌}
use native.Mathlib.Omega.{arith}
use lib.ListN.{length, length-append}
use Rattle.runs.specs.Over.{Wrote}
use Rattle.runs.proofs.Over.{wrote_length}
use Rattle.runs.proofs.Writing.{Writing, writing_begins, writing_as, writing_run, writing_done}
use Rattle.vectors.specs.Blocks.{fitting}
use Rattle.vectors.proofs.Blocks.{fitting_small}

-- `whole` is to be written into xs from a on; us is the buffer so far, and the blocks bs are still to be written from n on
pub record Filling (xs : List ℕ) (a : ℕ) (whole us : List ℕ) (n : ℕ) (bs : List (List ℕ)) : Type 0 where
  pub inside : n ≤ length us
  pub writing : Writing xs a whole us n (fitting (length us - n) bs)

pub filling_begins : (xs : List ℕ) (a room : ℕ) (bs : List (List ℕ)) → a ≤ length xs → room ≡ length xs - a → Filling xs a (fitting room bs) xs a bs
filling_begins xs a room bs h e =
    let l = fitting_small room bs in
    record { inside = h; writing = writing_as (ap (λ (k : ℕ). fitting k bs) e) (writing_begins xs a (fitting room bs) (omega arith)) }

module _ {xs whole us : List ℕ} {a n : ℕ} {bs : List (List ℕ)} (f : Filling xs a whole us n bs) where
  -- some of what is left is written
  pub filling_on : {vs : List ℕ} {m : ℕ} (ys : List ℕ) (rest : List (List ℕ)) → fitting (length us - n) bs ≡ ys ++ fitting (length us - n - length ys) rest
      → Wrote us n ys m vs → Filling xs a whole vs m rest
  filling_on {vs} {m} ys rest e w =
      let left = fitting (length us - n - length ys) rest in
      let l = ap length e ∙ length-append ys left in
      let r = f.writing.room in
      let s : length vs ≡ length us = wrote_length (omega arith) w in
      let k : length us - n - length ys ≡ length vs - m = omega (arith, w.next) in
      record {
        inside = omega (arith, w.next);
        writing = writing_as (ap (λ (j : ℕ). fitting j rest) k) (writing_run ys left (writing_as e f.writing) w);
      }

  -- nothing is left
  pub filling_ends : fitting (length us - n) bs ≡ [] → (n ≤ length us) × Wrote xs a whole n us
  filling_ends e = (f.inside, writing_done (writing_as e f.writing))
