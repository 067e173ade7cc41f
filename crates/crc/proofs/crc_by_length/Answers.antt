-- `crc::crc_by_length` meets its contract: the far table passes the two tests of its rule.
use mathlib.Core.Path.{refl}
use lib.Dec.{lit≤}
use Rattle.crc.specs.Crc.{bit_in, register, crc_of}
use Rattle.crc.specs.Tables.{shifts}
use Rattle.crc.proofs.Entries.{first_entry, later_entry, table_rule}
use Rattle.crc.proofs.crc_by_length.Goals as goal

pub returns-then-s-lt-MIDDLE : goal.returns-then-s-lt-MIDDLE
unfolding crc_of
returns-then-s-lt-MIDDLE c = c.bytes_in.ensures

pub invariant_of-crc_by_both : goal.invariant_of-crc_by_both
unfolding first_entry later_entry shifts register bit_in
invariant_of-crc_by_both c = record { rule = table_rule 4 16 _ tt tt; narrow = lit≤ tt; word = refl; full = lit≤ tt }
