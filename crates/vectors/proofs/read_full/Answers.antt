use Rattle.std.proofs.Common.{◌-◌, rules, length}
use Rattle.vectors.proofs.Reading.{read_more}
use Rattle.vectors.proofs.read_full.Goals as goal

pub loop-n-preserved : goal.loop-n-preserved
loop-n-preserved g c =
    let l = c.loop-n in
    let got = c.in_ok-more.ensures in
    (search rules, search rules, read_more l.n c.in_ok-more.more (length l.buf - l.n) l.buf c.read.new.buf _ _ _ l.invariant.1 got.bound.0 l.invariant.2 got.bytes.0)
