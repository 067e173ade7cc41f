-- PMD reading refuses with refusals of document 01 alone, whose numbers are below 20.
use mathlib.Core.List.{List, [], ◌∷◌}
use Prim.Native.Nat.{ℕ, zero, suc, ◌+◌, ◌*◌, ◌<◌}
use lib.ListN.{length, take, drop}
use lib.Dec.{eqb, ltb, lit<}
use Rattle.std.specs.Prelude.{Some}
use Rattle.runs.specs.Digits.{number}
use Rattle.runs.proofs.Cases.{split}
use Rattle.refusals.specs.Outcomes.{Outcome, fine, refused, and_then}
use Rattle.refusals.specs.Lent.{prepend}
use Rattle.refusals.specs.Refusals.{number_of}
use Rattle.bits.specs.Bits.{bits}
use Rattle.pmd.specs.declared.Kind.{Kind}
use Rattle.pmd.specs.Table.{Part, record_of}
use Rattle.pmd.specs.Records.{width, takes, after, opened, first_record}
use Rattle.pmd.specs.Reading.{ended, padding, read_from, read_as}

abbrev pub Early : Outcome (List ℕ) → Type 0
Early (fine xs) = Unit
Early (refused why place) = number_of why < 20

prepend_early : (xs : List ℕ) (o : Outcome (List ℕ)) → Early o → Early (prepend xs o)
unfolding and_then
prepend_early xs (fine ys) h = search
prepend_early xs (refused why place) h = h

padding_early : (bs : List ℕ) (at : ℕ) → Early (padding bs at)
unfolding padding
padding_early bs at = split (eqb (number 2 bs) 0) (λ z. rw z tt) (λ z. rw z (lit< tt))

from_early : (k : ℕ) (again left : List Part) (bs : List ℕ) (at : ℕ) → Early (read_from k again left bs at)
unfolding read_from
from_early zero again left bs at = lit< tt
from_early (suc k) again left bs at =
    split (ended left bs) (λ s. rw s (padding_early bs at))
    (λ s. split (ltb (length bs) w) (λ l. rw (s, l) (lit< tt))
    (λ l. split (takes next v)
    (λ t. rw (s, l, t) (prepend_early (v ∷ []) (read_from k again (after next v) (drop w bs) (at + w)) (from_early k again (after next v) (drop w bs) (at + w))))
    (λ t. rw (s, l, t) (lit< tt))))
  where
    next : List Part
    next = opened again left

    w : ℕ
    w = width next

    v : ℕ
    v = number 2 (take w bs)

pub read_early : (kind : Kind) (s : List ℕ) → Early (read_as (Some kind) s)
unfolding read_as
read_early kind s =
    split (ltb 4096 (length s)) (λ l. rw l (lit< tt))
    (λ l. rw l (from_early (suc (8 * length s)) (record_of kind) (first_record kind) (bits s) 0))
