-- `demands::write_and_read` meets its contract: fields come back from their value.
use Rattle.pmd.specs.Writing.{fields_written}
use Rattle.demands.proofs.Calls.{write_refused, write_then_read}
use Rattle.demands.proofs.Parts.{lent_part}
use Rattle.demands.proofs.write_and_read.Goals as goal

pub returns-then-first-ne0 : goal.returns-then-first-ne0
returns-then-first-ne0 c =
    write_refused c.args.kind _ c.bw_pmd_write-first.ensures c.if-first-ne0.true

pub slice_bounds-bw_pmd_read-end : goal.slice_bounds-bw_pmd_read-end
slice_bounds-bw_pmd_read-end c =
    let a = c.args in
    lent_part (fields_written a.kind a.numbers.now) c.bw_pmd_write-first.ensures c.if-first-ne0.false

pub returns : goal.returns
returns c =
    let a = c.args in
    write_then_read a.kind a.numbers.now c.bw_pmd_write-first.ensures c.if-first-ne0.false c.bw_pmd_read-second.ensures
