-- `Lines::byte_in` meets its contract: a byte and the top of the register are two nibbles.
use Prim.Native.Nat.{◌≤◌}
use native.Mathlib.Omega.{arith}
use lib.ListN.{length}
use Rattle.crc.proofs.Words.{byte_up}
use Rattle.crc.proofs.Lines+4+0.byte_in.Goals as goal

pub returns : goal.returns
returns c =
    let a = c.args in
    let long : 32 ≤ length a.self.entries.now = omega (arith, a.self.full) in
    byte_up a.self.rule long a.c a.b c.ranges.c.fits c.ranges.b.fits c.from.ensures c.looked_up.ensures
