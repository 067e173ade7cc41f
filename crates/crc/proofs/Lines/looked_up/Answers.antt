-- `Lines::looked_up` meets its contract: the laws of a turn and of the end, for the base 2 ^ BITS.
use Prim.Native.Nat.{ℕ, ◌+◌, ◌-◌, ◌*◌, ◌/◌, ◌%◌, ◌^◌, ◌<◌, ◌≤◌}
use mathlib.Core.Path.{◌≡◌, sym, subst}
use native.Mathlib.Omega.{arith}
use lib.Bits.{bit_xor}
use lib.ListN.{length, get_or}
use lib.Pow.{pow_pos}
use Rattle.crc.specs.Tables.{looked_up}
use Rattle.crc.proofs.Lookup.{base_of, lookup_turn, lookup_done, lookup_index}
use Rattle.crc.proofs.Lines.looked_up.Goals as goal

pub bounds-self-k : goal.bounds-self-k
bounds-self-k g c =
    let t = c.args.self.entries.now in
    let l = c.loop-k in
    let total = c.args.line + c.args.count in
    let more : l.k < total = omega arith in
    subst (λ (b : ℕ). l.k * b + l.v % b < length t) (sym (base_of g.row.BITS c.args.self.narrow))
    (lookup_index t (2 ^ g.row.BITS) total l.k l.v more c.requires (pow_pos g.row.BITS))

pub loop-k-preserved : goal.loop-k-preserved
loop-k-preserved g c =
    let a = c.args in
    let t = a.self.entries.now in
    let l = c.loop-k in
    let total = a.line + a.count in
    let base = 2 ^ g.row.BITS in
    let whole = looked_up t base a.line a.count a.w in
    let more : l.k < total = omega arith in
    subst (λ (b : ℕ). bit_xor (bit_xor l.r (get_or t (l.k * b + l.v % b) 0)) (looked_up t base (l.k + 1) (total - (l.k + 1)) (l.v / b)) ≡ whole)
    (sym (base_of g.row.BITS a.self.narrow)) (lookup_turn t base total l.k l.r l.v whole more l.invariant)

pub returns : goal.returns
returns g c =
    let a = c.args in
    let t = a.self.entries.now in
    let l = c.loop-k in
    let total = a.line + a.count in
    let whole = looked_up t (2 ^ g.row.BITS) a.line a.count a.w in
    let end : total ≤ l.k = omega arith in
    lookup_done t (2 ^ g.row.BITS) total l.k l.r l.v whole end l.invariant
