-- `Pen::close` meets its contract: it puts the bits that the last byte lacks.
use mathlib.Core.Path.{◌∙◌}
use Rattle.bits.specs.Pen.{lacking, last_byte}
use Rattle.bits.proofs.Penned.{pen_at}
use Rattle.bits.proofs.Pen.close.Goals as goal

pub returns : goal.returns
unfolding lacking last_byte
returns c =
    let p = c.args.self in
    let e = c.put.ensures in
    record { next = e.at ∙ pen_at p (lacking p) 0; buffer = e.buffer }
