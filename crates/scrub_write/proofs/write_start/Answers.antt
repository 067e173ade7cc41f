-- `scrub_write::write_start` meets its contract. Key and length are written one after the other.
use Prim.Native.Nat.{◌+◌, ◌≤◌}
use native.Mathlib.Omega.{arith}
use lib.ListN.{length}
use Rattle.runs.proofs.Over.{wrote_then}
use Rattle.numbers.specs.Lengths.{length_bytes}
use Rattle.pack.specs.Fixed.{key}
use Rattle.scrub_write.proofs.write_start.Goals as goal

pub returns : goal.returns
unfolding key
returns c =
    let h = c.requires.0 in
    wrote_then key (length_bytes c.args.size) (let z : 0 + 16 ≤ length c.args.out.now = omega arith in z) c.copy-at.ensures c.write_length.ensures
