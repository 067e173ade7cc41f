-- The bytes of each write, and what a loop over the writes keeps.
use mathlib.Core.Path.{◌≡◌, sym, ap, subst, ◌∙◌}
use mathlib.Core.List.{List, [], ◌∷◌, ◌++◌}
use Rattle.std.specs.Prelude.{Option, Some, None}
use Prim.Native.Nat.{ℕ, ◌+◌, ◌-◌, ◌<◌, ◌≤◌}
use native.Mathlib.Omega.{arith}
use native.Mathlib.Numerals.{add-one}
use lib.ListN.{length, take, drop, get_or, length-append, drop_of_length-le}
use lib.Seq.{drop-cons}
use Rattle.runs.specs.Digits.{digits}
use Rattle.runs.specs.Over.{Wrote}
use Rattle.runs.specs.Those.{Each}
use Rattle.runs.proofs.Writing.{Writing, writing_begins, writing_as, writing_run, writing_done, room_for}
use Rattle.runs.proofs.Digits.{length_digits}
use Rattle.runs.proofs.Stands.{part_length, part_lent}
use Rattle.numbers.specs.Tags.{tag_bytes}
use Rattle.numbers.specs.Lengths.{length_bytes}
use Rattle.scrub_ops.specs.declared.Op.{Op}
use Rattle.scrub_ops.specs.declared.Op.TheVariants.{Put, Open}
use Rattle.scrub_ops.specs.Ops.{op_bytes, some_bytes, ops_bytes, OpFits, SomeFits}

pub put_begins : (s : List ℕ) (t v l : ℕ) (out : List ℕ) (at : ℕ) → at + length (op_bytes s (Put t v l)) ≤ length out
    → Writing out at (op_bytes s (Put t v l)) out at (tag_bytes t ++ (length_bytes l ++ take (v + l - v) (drop v s)))
unfolding op_bytes
put_begins s t v l out at h =
    writing_as (ap (λ (x : List ℕ). tag_bytes t ++ (length_bytes l ++ x)) (sym (part_lent s v l))) (writing_begins out at (op_bytes s (Put t v l)) h)

pub open_begins : (n o d : ℕ) (out : List ℕ) (at : ℕ) → at + length (op_bytes [] (Open n o d)) ≤ length out
    → Writing out at (op_bytes [] (Open n o d)) out at (tag_bytes 2 ++ (length_bytes (4 + n) ++ (digits 256 2 o ++ digits 256 2 d)))
unfolding op_bytes
open_begins n o d out at h = writing_begins out at (op_bytes [] (Open n o d)) h

-- sizes
pub put_size : (s : List ℕ) (t v l : ℕ) → v + l ≤ length s → length (op_bytes s (Put t v l)) ≡ length (tag_bytes t) + (length (length_bytes l) + l)
unfolding op_bytes
put_size s t v l h =
    length-append (tag_bytes t) _
    ∙ ap (λ (n : ℕ). length (tag_bytes t) + n) (length-append (length_bytes l) _ ∙ ap (λ (n : ℕ). length (length_bytes l) + n) (part_length s v l h))

pub open_size : (s : List ℕ) (n o d : ℕ) → length (op_bytes s (Open n o d)) ≡ length (tag_bytes 2) + (length (length_bytes (4 + n)) + 4)
unfolding op_bytes
open_size s n o d =
    length-append (tag_bytes 2) _
    ∙ ap (λ (m : ℕ). length (tag_bytes 2) + m)
    (length-append (length_bytes (4 + n)) _
    ∙ ap (λ (m : ℕ). length (length_bytes (4 + n)) + m)
    (let a = length-append (digits 256 2 o) (digits 256 2 d) in let b = length_digits 256 2 o in let c = length_digits 256 2 d in omega arith))

-- a matched write
module _ (s out : List ℕ) (at : ℕ) {x : Op} (y : Op) (e : x ≡ y) where
  pub op_asks : at + length (op_bytes s x) ≤ length out → OpFits s x → (at + length (op_bytes s y) ≤ length out) × OpFits s y
  op_asks h f = (subst (λ (o : Op). at + length (op_bytes s o) ≤ length out) e h, subst (OpFits s) e f)

  pub op_gives : {r : ℕ} {z : List ℕ} → Wrote out at (op_bytes s y) r z → Wrote out at (op_bytes s x) r z
  op_gives w = rw e w

-- the loop: what is left of the writes
pub record Left (s : List ℕ) (all : List (Option Op)) (xs : List ℕ) (a : ℕ) (us : List ℕ) (i at : ℕ) : Type 0 where
  pub fits : Each (SomeFits s) (drop i all)
  pub writing : Writing xs a (ops_bytes s all) us at (ops_bytes s (drop i all))

pub left_begins : (s : List ℕ) (all : List (Option Op)) (xs : List ℕ) (a : ℕ) → a + length (ops_bytes s all) ≤ length xs → Each (SomeFits s) all → Left s all xs a xs 0 a
left_begins s all xs a h f = record { fits = f; writing = writing_begins xs a (ops_bytes s all) h }

module _ {s : List ℕ} {all : List (Option Op)} {xs : List ℕ} {a : ℕ} {us : List ℕ} {i at : ℕ} (g : Left s all xs a us i at) where
  module _ (d : Option Op) (h : i < length all) where
    left_here : drop i all ≡ get_or all i d ∷ drop (i + 1) all
    left_here = drop-cons all i d h ∙ ap (λ (k : ℕ). get_or all i d ∷ drop k all) (sym (add-one i))

    left_both : SomeFits s (get_or all i d) × Each (SomeFits s) (drop (i + 1) all)
    left_both = subst (Each (SomeFits s)) left_here g.fits

    -- the place that comes next, as it was read
    module _ {o : Option Op} (e : get_or all i d ≡ o) where
      left_writing : Writing xs a (ops_bytes s all) us at (some_bytes s o ++ ops_bytes s (drop (i + 1) all))
      unfolding ops_bytes
      left_writing = writing_as (ap (ops_bytes s) left_here ∙ ap (λ (q : Option Op). some_bytes s q ++ ops_bytes s (drop (i + 1) all)) e) g.writing

      left_fits : SomeFits s o
      left_fits = subst (SomeFits s) e left_both.0

    -- which holds no write
    pub left_none : get_or all i d ≡ None → Left s all xs a us (i + 1) at
    unfolding some_bytes
    left_none e = record { fits = left_both.1; writing = left_writing e }

    -- or one
    module _ (o : Op) (e : get_or all i d ≡ Some o) where
      pub left_room : (at + length (op_bytes s o) ≤ length us) × OpFits s o
      unfolding some_bytes
      left_room = (room_for (op_bytes s o) (ops_bytes s (drop (i + 1) all)) (left_writing e), left_fits e)

      pub left_step : {m : ℕ} {vs : List ℕ} → Wrote us at (op_bytes s o) m vs → Left s all xs a vs (i + 1) m
      unfolding some_bytes
      left_step p = record { fits = left_both.1; writing = writing_run (op_bytes s o) (ops_bytes s (drop (i + 1) all)) (left_writing e) p }

  pub left_ends : length all ≤ i → Wrote xs a (ops_bytes s all) at us
  unfolding ops_bytes
  left_ends h = writing_done (writing_as (ap (ops_bytes s) (drop_of_length-le all {i = i} h)) g.writing)
