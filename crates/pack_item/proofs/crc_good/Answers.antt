-- `pack_item::crc_good` meets its contract: the number there, and the CRC of the part before it.
use Prim.Native.Nat.{ℕ, ◌-◌}
use mathlib.Core.Path.{◌≡◌, ap, ap₂, ◌∙◌}
use native.Mathlib.Omega.{arith}
use lib.Dec.{eqb}
use lib.ListN.{take}
use Rattle.crc.specs.Crc.{crc_of}
use Rattle.pack_item.proofs.crc_good.Goals as goal

pub returns : goal.returns
returns c =
    let a = c.args in
    let e : a.at - 0 ≡ a.at = omega arith in
    ap₂ eqb c.be32.ensures (c.crc.ensures ∙ ap (λ (n : ℕ). crc_of (take n a.s.now)) e)
