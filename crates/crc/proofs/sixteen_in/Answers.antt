-- `crc::sixteen_in` meets its contract: sixteen bytes are four words.
use mathlib.Core.Path.{ap, subst, ◌∙◌}
use mathlib.Core.List.{List}
use Prim.Native.Nat.{ℕ, ◌/◌}
use Rattle.runs.specs.Digits.{Bytes}
use Rattle.bits.specs.Bits.{bits}
use Rattle.crc.specs.Crc.{register}
use Rattle.crc.specs.Tables.{TableFor}
use Rattle.crc.proofs.Slices.{of_all}
use Rattle.crc.proofs.Words.{sixteen_up}
use borrow.Author.Rules.{rules}
use Rattle.crc.proofs.sixteen_in.Goals as goal

pub returns : goal.returns
returns g c =
    let a = c.args in
    let s = a.s.now in
    let bytes : Bytes s = λ k. search rules in
    sixteen_up g.row.BITS (32 / g.row.BITS) a.near.word a.near.rule a.near.full s bytes a.c 0 c.ranges.c.fits
    (subst (λ (n : ℕ). TableFor g.row.BITS n a.far.entries.now) c.requires a.far.rule) a.far.full (search rules)
    c.word_at.ensures c.word_at-2.ensures c.word_at-3.ensures c.word_at-4.ensures
    c.looked_up.ensures c.looked_up-2.ensures c.looked_up-3.ensures c.looked_up-4.ensures
    ∙ ap (λ (t : List ℕ). register a.c (bits t)) (of_all 16 s (search rules))
