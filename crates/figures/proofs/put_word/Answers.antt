-- `figures::put_word` meets its contract: a run, and one byte after it.
use Prim.Native.Nat.{◌<◌}
use mathlib.Core.List.{[], ◌∷◌}
use native.Mathlib.Omega.{arith}
use lib.ListN.{length}
use Rattle.runs.proofs.Over.{wrote_byte, wrote_then}
use Rattle.figures.proofs.Fields.{field_put}
use Rattle.figures.proofs.put_word.Goals as goal
use Rattle.figures.proofs.put_word.Goals.{After-copy-next}

-- there is room for the byte after the run
room : (c : After-copy-next) → c.copy-next.result < length c.copy-next.new.out
room c = let k = c.copy-next in omega (arith, k.auto.out, k.ensures.next)

pub returns : goal.returns
returns c =
    let a = c.args in
    let k = c.copy-next in
    field_put a.word.now a.end (wrote_then a.word.now (a.end ∷ []) (omega arith) k.ensures (wrote_byte k.new.out k.result a.end (room (goal.at.returns c).After-copy-next)))
