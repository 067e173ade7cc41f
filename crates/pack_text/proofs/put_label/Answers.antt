-- `pack_text::put_label` meets its contract: one field after the other.
use native.Mathlib.Omega.{arith}
use Rattle.pack_text.specs.Text.{label_fields}
use Rattle.pack_text.proofs.Fields.{first_field, next_field, last_field}
use Rattle.pack_text.proofs.put_label.Goals as goal

pub returns : goal.returns
returns c =
    let a = c.args in
    let left = next_field (first_field a.out.now a.at (label_fields a.payload.start a.label.now a.payload.value_len a.payload.total) (omega arith) c.requires) c.put_word-start_at.ensures in
    let left = next_field (next_field left c.put_decimal-label_at.ensures) c.put_hex-len_at.ensures in
    last_field (next_field left c.put_decimal-total_at.ensures) c.put_signed32.ensures
