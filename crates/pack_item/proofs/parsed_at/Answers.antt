-- `pack_item::parsed_at` meets its contract: what the tag and the length were found to be is put into the definition.
use Rattle.std.specs.Prelude.{Err}
use mathlib.Core.Path.{sym, ap, ◌∙◌}
use borrow.Author.Tests.{lt-leb, le-leb}
use Rattle.numbers.proofs.Lengths.{length_next}
use Rattle.pack.specs.Payloads.{payload_at, tag_found, value_found}
use Rattle.pack_item.proofs.parsed_at.Goals as goal

pub returns-in-Err-Form : goal.returns-in-Err-Form
unfolding payload_at tag_found value_found
returns-in-Err-Form c = simp (sym c.read_tag.ensures, c.in-Err-Form.is ∙ ap Err c.in-Err-Form.field-0-is)

pub returns-in-Err-Cut : goal.returns-in-Err-Cut
unfolding payload_at tag_found value_found
returns-in-Err-Cut c = simp (sym c.read_tag.ensures, c.in-Err-Cut.is ∙ ap Err c.in-Err-Cut.field-0-is)

pub returns-in-Err-Form-read_length : goal.returns-in-Err-Form-read_length
unfolding payload_at tag_found value_found
returns-in-Err-Form-read_length c =
    simp (sym c.read_tag.ensures, c.in-Ok.is, sym c.read_length.ensures, c.in-Err-Form-read_length.is ∙ ap Err c.in-Err-Form-read_length.field-0-is)

pub returns-in-Err-Cut-read_length : goal.returns-in-Err-Cut-read_length
unfolding payload_at tag_found value_found
returns-in-Err-Cut-read_length c =
    simp (sym c.read_tag.ensures, c.in-Ok.is, sym c.read_length.ensures, c.in-Err-Cut-read_length.is ∙ ap Err c.in-Err-Cut-read_length.field-0-is)

pub overflow_sub-p : goal.overflow_sub-p
overflow_sub-p c = (length_next _ _ _ _ (sym c.read_length.ensures ∙ c.in-Ok-read_length.is)).1

pub returns-then-p-start : goal.returns-then-p-start
unfolding payload_at tag_found value_found
returns-then-p-start c = simp (sym c.read_tag.ensures, c.in-Ok.is, sym c.read_length.ensures, c.in-Ok-read_length.is, lt-leb _ _ c.if-p-start.true)

pub returns : goal.returns
unfolding payload_at tag_found value_found
returns c = simp (sym c.read_tag.ensures, c.in-Ok.is, sym c.read_length.ensures, c.in-Ok-read_length.is, le-leb _ _ c.if-p-start.false)
