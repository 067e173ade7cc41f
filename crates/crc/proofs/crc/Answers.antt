-- `crc::crc` meets its contract: the near table passes the two tests of its rule.
use mathlib.Core.Path.{refl}
use lib.Dec.{lit≤}
use Rattle.crc.specs.Crc.{bit_in, register}
use Rattle.crc.specs.Tables.{shifts}
use Rattle.crc.proofs.Entries.{first_entry, later_entry, table_rule}
use Rattle.crc.proofs.crc.Goals as goal

pub invariant_of-crc_by_length : goal.invariant_of-crc_by_length
unfolding first_entry later_entry shifts register bit_in
invariant_of-crc_by_length c = record { rule = table_rule 4 0 _ tt tt; narrow = lit≤ tt; word = refl; full = lit≤ tt }
