-- `Lines::looked_up` meets its contract. The loop's invariant: the entries so far and those of the digits that are left make the whole sum.
use Prim.Native.Nat.{◌+◌, ◌-◌, ◌^◌}
use mathlib.Core.Path.{◌≡◌}
use lib.Bits.{bit_xor}
use Rattle.crc.specs.Tables.{looked_up}
use Rattle.crc.proofs.Lines.looked_up.Given as goal

abbrev pub invariant-loop-k : goal.invariant-loop-k
invariant-loop-k g l = bit_xor l.r (looked_up l.self.entries.now (2 ^ g.row.BITS) l.k (l.line + l.count - l.k) l.v) ≡ looked_up l.self.entries.now (2 ^ g.row.BITS) l.line l.count l.w
