-- `labels::word` meets its contract: each byte weighs 256 times the one before it.
use Prim.Native.Nat.{◌+◌}
use native.Mathlib.Omega.{arith}
use lib.ListN.{drop}
use Rattle.labels.proofs.Words.{low_here, low_none}
use Rattle.labels.proofs.word.Goals as goal

pub returns : goal.returns
returns c =
    let s = c.args.s.now in
    let i = c.args.at in
    omega (
      arith,
      c.from_le_bytes.ensures,
      low_none (drop (i + 8) s),
      low_here s 7 i (i + 1) (omega arith) (omega arith),
      low_here s 6 (i + 1) (i + 2) (omega arith) (omega arith),
      low_here s 5 (i + 2) (i + 3) (omega arith) (omega arith),
      low_here s 4 (i + 3) (i + 4) (omega arith) (omega arith),
      low_here s 3 (i + 4) (i + 5) (omega arith) (omega arith),
      low_here s 2 (i + 5) (i + 6) (omega arith) (omega arith),
      low_here s 1 (i + 6) (i + 7) (omega arith) (omega arith),
      low_here s 0 (i + 7) (i + 8) (omega arith) (omega arith),
    )
