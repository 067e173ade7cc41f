-- What is read by the kind's number, and what is delivered of a value that was counted.
use Prim.Native.Nat.{ℕ, suc, ◌*◌, ◌<◌, ◌≤◌}
use mathlib.Core.Path.{◌≡◌, sym, ap, ap₂, ◌∙◌}
use mathlib.Core.Bool.{Bool}
use mathlib.Core.List.{List}
use native.Mathlib.Omega.{arith}
use lib.ListN.{length}
use borrow.Author.Tests.{lt-ltb, le-ltb}
use Rattle.std.specs.Prelude.{Option, Some, None, Ok, Err}
use Rattle.bits.specs.Bits.{bits}
use Rattle.refusals.specs.Outcomes.{Outcome, refused, answered, Answer}
use Rattle.refusals.specs.Refusals.{refused_at}
use Rattle.refusals.specs.Lent.{within, lent, Delivered}
use Rattle.refusals.specs.declared.Refusal.TheVariants as R
use Rattle.refusals.proofs.Lent.{done_was}
use Rattle.pmd.specs.declared.Kind.{Kind}
use Rattle.pmd.specs.declared.Shape.{Shape}
use Rattle.pmd.specs.Table.{Part, kind_of}
use Rattle.pmd.specs.Reading.{read_from, read_as, fields_read}
use Rattle.pmd.specs.Shapes.{Roomy}
use Rattle.pmd.proofs.Shapes.{ShapeFor}
use Rattle.pmd.proofs.Answers.{delivers_noroom, delivers_all}
use Rattle.pmd_read.specs.ByShape.{read_shape}

module _ (kind : ℕ) (s : List ℕ) where
  as_named : {o : Option Kind} → kind_of kind ≡ o → fields_read kind s ≡ read_as o s
  as_named k = ap (λ (o : Option Kind). read_as o s) k

  pub read_unknown : kind_of kind ≡ None → fields_read kind s ≡ refused R.Kind 0
  unfolding read_as
  read_unknown k = as_named k

  module _ {known : Kind} (k : kind_of kind ≡ Some known) where
    pub read_big : 4096 < length s → fields_read kind s ≡ refused R.Big 0
    unfolding read_as
    read_big l = as_named k ∙ simp (lt-ltb _ _ l)

    pub read_shape_lem : {turns : Bool} {shape : Shape} → length s ≤ 4096 → ShapeFor turns known shape → fields_read kind s ≡ read_shape turns shape s
    unfolding read_as
    read_shape_lem l holds =
        as_named k
        ∙ simp (le-ltb _ _ l) (sym (ap₂ (λ (again first : List Part). read_from (suc (8 * length s)) again first (bits s) 0) holds.again holds.first))

-- n numbers were counted
module _ (o : Outcome (List ℕ)) {counted : Answer} {n : ℕ} (c : counted ≡ answered length o) (done : counted ≡ Ok n) where
  pub counted_noroom : {before : List ℕ} {r : Answer} → length before < n → r ≡ Err (refused_at R.NoRoom 0) → Delivered (within (length before) o) before r before
  counted_noroom l h = let x = done_was length c done in delivers_noroom x.1 (omega (arith, x.2)) h

  pub counted_roomy : (room : ℕ) → n ≤ room → Roomy o room
  counted_roomy room l = let x = done_was length c done in record { list = x.0; is = x.1; fits = omega (arith, x.2) }

  pub counted_all : {before after : List ℕ} → n ≤ length before → after ≡ lent before o → Delivered (within (length before) o) before (Ok n) after
  counted_all l w = let x = done_was length c done in delivers_all x.1 (omega (arith, x.2)) (record { told = sym done ∙ c; run = w })
