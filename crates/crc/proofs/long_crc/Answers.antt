-- `crc::long_crc` meets its contract: the tables of bytes follow the rule because those of nibbles do.
use mathlib.Core.Path.{refl}
use native.Mathlib.Omega.{arith}
use lib.Dec.{lit≤}
use Rattle.crc.proofs.Wider.{wider_rule}
use Rattle.crc.proofs.long_crc.Goals as goal

pub invariant_of-near_lines : goal.invariant_of-near_lines
invariant_of-near_lines c =
    let w = c.widened-near_bytes.ensures in
    record { rule = wider_rule 0 c.args.near.rule c.requires.0 w; narrow = lit≤ tt; word = refl; full = omega (arith, w.full) }

pub invariant_of-far_lines : goal.invariant_of-far_lines
invariant_of-far_lines c =
    let w = c.widened-far_bytes.ensures in
    record { rule = wider_rule 8 c.args.far.rule c.requires.1 w; narrow = lit≤ tt; word = refl; full = omega (arith, w.full) }
