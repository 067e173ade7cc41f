-- `pack_text::put_pack` meets its contract: one field after the other; the word for the CRC is the one that the test tells.
use Prim.Native.Nat.{ℕ}
use mathlib.Core.Path.{◌≡◌, refl, subst}
use mathlib.Core.Bool.{Bool, true, false}
use mathlib.Core.List.{List, [], ◌∷◌}
use native.Mathlib.Omega.{arith}
use lib.ListN.{length}
use Rattle.runs.specs.Over.{Wrote}
use Rattle.figures.specs.Fields.{FieldPut}
use Rattle.pack_text.specs.Text.{line, crc_word, pack_fields}
use Rattle.pack_text.proofs.Fields.{Fields, first_field, next_field, last_field}
use Rattle.pack_text.proofs.put_pack.Goals as goal
use Rattle.pack_text.proofs.put_pack.Goals.{After-put_decimal-crc_at}

crc_four : (crc : Bool) → length (crc_word crc) ≡ 4
crc_four true = refl
crc_four false = refl

-- the word for the CRC, which the test told, ends the line
ends : (d : After-put_decimal-crc_at) (crc : Bool) {n : ℕ} {us : List ℕ}
    → let a = d.args in a.crc ≡ crc → FieldPut d.put_decimal-crc_at.new.out d.put_decimal-crc_at.result (crc_word crc) 10 n us
    → Wrote a.out.now a.at (line (pack_fields a.offset a.count a.crc)) n us
ends d crc e p =
    let a = d.args in
    let fields = pack_fields a.offset a.count a.crc in
    let left = next_field (first_field a.out.now a.at fields (omega arith) d.requires) d.put_word-offset_at.ensures in
    let left = next_field (next_field left d.put_signed-count_at.ensures) d.put_decimal-crc_at.ensures in
    last_field (subst (λ (x : Bool). Fields a.out.now a.at (line fields) d.put_decimal-crc_at.new.out d.put_decimal-crc_at.result (crc_word x ∷ [])) e left) p

pub put_word-requires : goal.put_word-requires
put_word-requires c = omega (arith, crc_four c.args.crc)

pub returns-then-crc : goal.returns-then-crc
returns-then-crc c = ends (goal.at.returns-then-crc c).After-put_decimal-crc_at true c.if-crc.true c.put_word.ensures

pub returns-else-crc : goal.returns-else-crc
returns-else-crc c = ends (goal.at.returns-else-crc c).After-put_decimal-crc_at false c.if-crc.false c.put_word-else-crc.ensures
