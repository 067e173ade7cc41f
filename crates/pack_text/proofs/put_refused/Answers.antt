-- `pack_text::put_refused` meets its contract: one field after the other.
use Prim.Native.Nat.{ℕ}
use mathlib.Core.Path.{subst}
use native.Mathlib.Omega.{arith}
use Rattle.refusals.specs.Refusals.{number_of}
use Rattle.figures.specs.Figures.{decimal}
use Rattle.figures.specs.Fields.{FieldPut}
use Rattle.pack_text.specs.Text.{refused_fields}
use Rattle.pack_text.proofs.Fields.{first_field, next_field, last_field}
use Rattle.pack_text.proofs.put_refused.Goals as goal

pub returns : goal.returns
returns c =
    let a = c.args in
    let left = next_field (first_field a.out.now a.at (refused_fields (number_of a.refused.why) a.refused.place) (omega arith) c.requires) c.put_word-number_at.ensures in
    last_field (next_field left (subst (λ (n : ℕ). FieldPut c.put_word-number_at.new.out c.put_word-number_at.result (decimal n) 32 c.put_decimal-place_at.result c.put_decimal-place_at.new.out) c.number-number.ensures c.put_decimal-place_at.ensures)) c.put_decimal.ensures
