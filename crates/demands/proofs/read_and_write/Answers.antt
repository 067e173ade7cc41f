-- `demands::read_and_write` meets its contract: a value comes back from its fields.
use Rattle.pmd.specs.Reading.{fields_read}
use Rattle.demands.proofs.Calls.{read_refused, read_then_write}
use Rattle.demands.proofs.Parts.{lent_part}
use Rattle.demands.proofs.read_and_write.Goals as goal

pub returns-then-first-ne0 : goal.returns-then-first-ne0
returns-then-first-ne0 c =
    read_refused c.args.kind _ c.bw_pmd_read-first.ensures c.if-first-ne0.true

pub slice_bounds-bw_pmd_write-end : goal.slice_bounds-bw_pmd_write-end
slice_bounds-bw_pmd_write-end c =
    let a = c.args in
    lent_part (fields_read a.kind a.value.now) c.bw_pmd_read-first.ensures c.if-first-ne0.false

pub returns : goal.returns
returns c =
    let a = c.args in
    read_then_write a.kind a.value.now c.bw_pmd_read-first.ensures (λ k. (c.type_inv.value k).fits) c.if-first-ne0.false c.bw_pmd_write-second.ensures
