-- `pack_rows::put_row` meets its contract: eight stores, one after the other.
use borrow.Author.Rules.{rules}
use Rattle.pack_rows.proofs.Laws.{row_stored}
use Rattle.pack_rows.proofs.put_row.Goals as goal

pub returns : goal.returns
returns c =
    let a = c.args in
    row_stored a.out.now a.at a.row (search rules) c.requires
