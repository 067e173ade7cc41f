-- What is written by the kind's number, and what is delivered of numbers that were weighed.
use Prim.Native.Nat.{ℕ, ◌+◌, ◌*◌, ◌/◌, ◌<◌, ◌≤◌}
use mathlib.Core.Path.{◌≡◌, sym, ap, subst, ◌∙◌}
use mathlib.Core.List.{List}
use native.Mathlib.Omega.{arith}
use lib.Dec.{leb}
use lib.ListN.{length}
use borrow.Author.Tests.{leb-false}
use Rattle.runs.proofs.Cases.{split}
use Rattle.refusals.specs.Outcomes.{Outcome, fine, refused, and_then, answered, Answer}
use Rattle.refusals.specs.Lent.{within, Delivered}
use Rattle.refusals.specs.declared.Refusal.TheVariants as R
use Rattle.refusals.specs.Refusals.{refused_at}
use Rattle.refusals.specs.declared.Refused.{Refused}
use Rattle.std.specs.Prelude.{Option, Some, None, Ok, Err}
use Rattle.refusals.proofs.Lent.{fine_within, none_within, refused_was, done_was}
use Rattle.pmd.specs.declared.Kind.{Kind}
use Rattle.pmd.specs.Table.{record_of, kind_of}
use Rattle.pmd.specs.Records.{first_record}
use Rattle.pmd.specs.Writing.{bytes_of_bits, packed, packing, write_all, write_as, fields_written}
use Rattle.pmd.specs.Shapes.{Roomy}
use Rattle.pmd.proofs.Packed.{length_packed}
use Rattle.pmd.proofs.Trip.{write_below}
use Rattle.pmd.proofs.Answers.{delivers_none, delivers_noroom, delivers_all}
use Rattle.pmd_write.specs.ByShape.{weight}

abbrev pub limited : Outcome (List ℕ) → Outcome (List ℕ)
limited o = within 4096 (packing o)

module _ (kind : ℕ) (vs : List ℕ) where
  as_named : {o : Option Kind} → kind_of kind ≡ o → fields_written kind vs ≡ write_as o vs
  as_named k = ap (λ (o : Option Kind). write_as o vs) k

  pub write_unknown : kind_of kind ≡ None → fields_written kind vs ≡ refused R.Kind 0
  unfolding write_as
  write_unknown k = as_named k

  pub write_known : {known : Kind} → kind_of kind ≡ Some known → fields_written kind vs ≡ limited (write_all known vs)
  unfolding write_as
  write_known k = as_named k

-- a weight that a value may have is that of the bits, and one that is too much is that of bits that are too many
weight_is : (vs bs : List ℕ) (total : ℕ) → weight vs bs ≡ total → total ≤ 32768 → length bs ≡ total
weight_is vs bs total e h =
    split (leb (length vs) 32768) (λ l. simp l at e) (λ l. let most : 32769 ≡ total = simp l at e in absurd (omega arith))

weight_big : (vs bs : List ℕ) (total : ℕ) → length vs ≤ length bs → weight vs bs ≡ total → 32768 < total → 4096 < bytes_of_bits (length bs)
weight_big vs bs total more e h =
    split (leb (length vs) 32768) (λ l. let same : length bs ≡ total = simp l at e in omega arith) (λ l. omega (arith, leb-false (length vs) 32768 l))

-- the numbers were weighed
module _ (kind : Kind) (vs : List ℕ) {weighed : Answer} (c : weighed ≡ answered (weight vs) (write_all kind vs)) where
  abbrev value : Outcome (List ℕ)
  value = limited (write_all kind vs)

  pub weighed_refused : {before : List ℕ} {e : Refused} {r : Answer} → weighed ≡ Err e → r ≡ Err e → Delivered (within (length before) value) before r before
  unfolding and_then
  weighed_refused h k = delivers_none (ap limited (refused_was (weight vs) c h)) k

  module _ {total : ℕ} (done : weighed ≡ Ok total) where
    pub weighed_big : {before : List ℕ} {r : Answer} → 32768 < total → r ≡ Err (refused_at R.NoRoom 0) → Delivered (within (length before) value) before r before
    unfolding and_then
    weighed_big l =
        let x = done_was (weight vs) c done in
        let more = (write_below (record_of kind) (first_record kind) vs 0 x.0 x.1).1 in
        delivers_none (ap limited x.1 ∙ none_within 4096 (packed x.0) (omega (arith, length_packed x.0, weight_big vs x.0 total more x.2 l)))

    module _ (small : total ≤ 32768) where
      bytes : (bs : List ℕ) × (write_all kind vs ≡ fine bs) × (length bs ≡ total)
      bytes = let x = done_was (weight vs) c done in (x.0, x.1, weight_is vs x.0 total x.2 small)

      size : length (packed bytes.0) ≡ (total + 7) / 8
      size = length_packed bytes.0 ∙ ap bytes_of_bits bytes.2

      all : value ≡ fine (packed bytes.0)
      unfolding and_then
      all = ap limited bytes.1 ∙ fine_within 4096 (packed bytes.0) (omega (arith, size))

      pub weighed_roomy : (room : ℕ) → (total + 7) / 8 ≤ room → Roomy (write_all kind vs) (8 * room)
      weighed_roomy room l = let x = bytes in record { list = x.0; is = x.1; fits = omega (arith, x.2) }

      module _ {before : List ℕ} {r : Answer} where
        pub weighed_noroom : length before < (total + 7) / 8 → r ≡ Err (refused_at R.NoRoom 0) → Delivered (within (length before) value) before r before
        weighed_noroom l h = delivers_noroom all (omega (arith, size)) h

        pub weighed_all : {after : List ℕ} → (total + 7) / 8 ≤ length before → Delivered (packing (write_all kind vs)) before r after → Delivered (within (length before) value) before r after
        unfolding and_then
        weighed_all {after} l d =
            delivers_all all (omega (arith, size)) (subst (λ (p : Outcome (List ℕ)). Delivered p before r after) (ap packing bytes.1 ∙ sym all) d)
