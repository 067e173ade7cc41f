-- `pack_rows::payload_row` meets its contract. By the payload's name.
use Rattle.pack.proofs.Slots.{label_fits}
use Rattle.pack_rows.proofs.Laws.{row_number, row_label}
use Rattle.pack_rows.proofs.payload_row.Goals as goal

pub returns-in-Number : goal.returns-in-Number
returns-in-Number c =
    let a = c.args in
    row_number a.places.now a.form a.x.start a.x.value_start a.x.value_len a.x.total _ c.in-Number.is

pub bounds-places-i : goal.bounds-places-i
bounds-places-i c = label_fits _ c.in-Label.is c.requires

pub returns-in-Label : goal.returns-in-Label
returns-in-Label c =
    let a = c.args in
    row_label a.places.now a.form a.x.start a.x.value_start a.x.value_len a.x.total _ c.in-Label.is
