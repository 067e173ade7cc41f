-- `crc::word_at` meets its contract.
use mathlib.Core.Path.{◌∙◌}
use native.Mathlib.Omega.{arith}
use Rattle.crc.proofs.Slices.{word_of}
use Rattle.crc.proofs.word_at.Goals as goal

pub returns : goal.returns
returns c = (omega (arith, c.from.ensures, c.from-2.ensures, c.from-3.ensures, c.from-4.ensures)) ∙ word_of c.args.s.now c.args.i c.requires
