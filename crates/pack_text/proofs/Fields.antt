-- A line, written field by field: what is left of it, and the last field ends it.
use mathlib.Core.Path.{◌≡◌, sym, ap}
use mathlib.Core.List.{List, [], ◌∷◌, ◌++◌, append_assoc}
use Prim.Native.Nat.{ℕ, ◌+◌, ◌<◌, ◌≤◌}
use native.Mathlib.Omega.{arith}
use lib.ListN.{length, length-append}
use Rattle.runs.specs.Over.{Wrote}
use Rattle.runs.proofs.Writing.{Writing, writing_as, writing_begins, writing_run, writing_last}
use Rattle.figures.specs.Fields.{FieldPut}
use Rattle.pack_text.specs.Text.{line}
use Rattle.pack_text.specs.Fields.{sizes}

-- a line is as long as its fields
pub line_size : (left : List (List ℕ)) → 0 < length left → length (line left) ≡ sizes left
unfolding line
line_size [] h = absurd (omega arith)
line_size (x ∷ []) h = omega (arith, length-append x (10 ∷ []))
line_size (x ∷ y ∷ r) h = omega (arith, length-append x (32 ∷ line (y ∷ r)), line_size (y ∷ r) (omega arith))

-- so where it has room, they have
pub line_room : {l : List ℕ} (at n : ℕ) (left : List (List ℕ)) → 0 < length left → l ≡ line left → at + length l ≤ n → at + sizes left ≤ n
line_room at n left some e h = omega (arith, ap length e, line_size left some)

-- `whole` is to be written into xs from a on; us is the buffer so far, and the line of the fields that are left comes at `at`
pub record Fields (xs : List ℕ) (a : ℕ) (whole us : List ℕ) (at : ℕ) (left : List (List ℕ)) : Type 0 where
  pub writing : Writing xs a whole us at (line left)

pub first_field : (xs : List ℕ) (a : ℕ) (left : List (List ℕ)) → 0 < length left → a + sizes left ≤ length xs → Fields xs a (line left) xs a left
first_field xs a left some h = record { writing = writing_begins xs a (line left) (omega (arith, line_size left some)) }

module _ {xs whole us : List ℕ} {a at : ℕ} where
  pub next_field : {x y vs : List ℕ} {r : List (List ℕ)} {n : ℕ} → Fields xs a whole us at (x ∷ y ∷ r) → FieldPut us at x 32 n vs
      → Fields xs a whole vs n (y ∷ r)
  unfolding line
  next_field {x} {y} {vs} {r} w p = record {
    writing = writing_run (x ++ (32 ∷ [])) (line (y ∷ r)) (writing_as (sym (append_assoc x (32 ∷ []) (line (y ∷ r)))) w.writing) p.wrote;
  }

  pub last_field : {x vs : List ℕ} {n : ℕ} → Fields xs a whole us at (x ∷ []) → FieldPut us at x 10 n vs → Wrote xs a whole n vs
  unfolding line
  last_field {x} w p = writing_last (x ++ (10 ∷ [])) w.writing p.wrote
