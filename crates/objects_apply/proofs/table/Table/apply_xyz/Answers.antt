-- A short value has few numbers.
use Rattle.objects_pmd.proofs.Records.{xyz_few, xyz_short}
use Rattle.objects_apply.proofs.table.Table.apply_xyz.Goals as goal

pub apply_few-requires-clause-few : goal.apply_few-requires-clause-few
apply_few-requires-clause-few c = λ xs e. xyz_short _ xs e c.if-value-le-FEW_BYTES.true

pub apply_few-requires-else-value-le-FEW_BYTES-clause-few : goal.apply_few-requires-else-value-le-FEW_BYTES-clause-few
apply_few-requires-else-value-le-FEW_BYTES-clause-few c = λ xs e. xyz_few _ xs e
