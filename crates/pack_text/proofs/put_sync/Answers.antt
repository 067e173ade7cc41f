-- `pack_text::put_sync` meets its contract: one field after the other.
use native.Mathlib.Omega.{arith}
use Rattle.pack_text.specs.Text.{sync_fields}
use Rattle.pack_text.proofs.Fields.{first_field, next_field, last_field}
use Rattle.pack_text.proofs.put_sync.Goals as goal

pub returns : goal.returns
returns c =
    let a = c.args in
    let left = first_field a.out.now a.at (sync_fields a.head) (omega arith) c.requires in
    let left = next_field (next_field left c.put_word-start_at.ensures) c.put_decimal-offset_at.ensures in
    last_field (next_field (next_field left c.put_signed-duration_at.ensures) c.put_decimal-inside_at.ensures) c.put_decimal.ensures
