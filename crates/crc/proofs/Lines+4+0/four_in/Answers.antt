-- `Lines::four_in` meets its contract: four bytes are one word.
use mathlib.Core.Path.{refl, ap, ◌∙◌}
use mathlib.Core.List.{List}
use Prim.Native.Nat.{ℕ}
use Rattle.runs.specs.Digits.{Bytes}
use Rattle.bits.specs.Bits.{bits}
use Rattle.crc.specs.Crc.{register}
use Rattle.crc.proofs.Slices.{of_all}
use Rattle.crc.proofs.Words.{four_up}
use borrow.Author.Rules.{rules}
use Rattle.crc.proofs.Lines+4+0.four_in.Goals as goal

pub returns : goal.returns
returns c =
    let a = c.args in
    let s = a.s.now in
    let bytes : Bytes s = λ k. search rules in
    four_up 4 8 refl a.self.rule a.self.full s bytes a.c 0 c.ranges.c.fits (search rules) c.word_at.ensures c.looked_up.ensures
    ∙ ap (λ (t : List ℕ). register a.c (bits t)) (of_all 4 s (search rules))
