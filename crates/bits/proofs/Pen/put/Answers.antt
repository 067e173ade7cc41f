-- `Pen::put` meets its contract: no bit is shifted out, so the numbers of the code are those of the definitions.
use Prim.Native.Nat.{ℕ, ◌+◌, ◌/◌, ◌%◌, ◌^◌}
use mathlib.Core.Path.{refl, ap, ap₂, ◌∙◌}
use native.Mathlib.Omega.{arith}
use Rattle.bits.specs.Pen.{full_bytes}
use Rattle.bits.proofs.Stored.{stored, one_shifted, shifted}
use Rattle.bits.proofs.Pen.put.Goals as goal

pub returns : goal.returns
unfolding full_bytes
returns c =
    let a = c.args in
    let full = (a.self.now.count + a.w) / 8 in
    let left = (a.self.now.count + a.w) % 8 in
    let e = shifted c.requires in
    record {
      at = refl;
      count = refl;
      held = ap₂ (λ (x m : ℕ). x % m) e (one_shifted left (omega arith));
      buffer = c.store.ensures ∙ ap (λ (x : ℕ). stored a.out.now a.self.now.at (x / 2 ^ left) full) e;
    }
