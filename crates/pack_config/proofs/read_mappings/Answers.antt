-- `pack_config::read_mappings` meets its contract. The loop keeps what is left (proofs/Maps), whatever the fuel that the definition is given, if it is enough.
use Rattle.std.specs.Prelude.{Err}
use mathlib.Core.Path.{refl, sym, ap, ◌∙◌}
use native.Mathlib.Omega.{arith}
use lib.ListN.{length}
use Rattle.numbers.proofs.Tags.{tag_next}
use Rattle.pack.proofs.Turns.{mapping_count, mapping_bad, mapping_cut, mapping_short}
use Rattle.pack_config.proofs.Maps.{sofar_begins, sofar_judging, sofar_ends, sofar_stops, room, sofar_clash, sofar_free, sofar_more}
use Rattle.pack_config.proofs.read_mappings.Goals as goal

pub loop-at-init : goal.loop-at-init
loop-at-init c = λ k h. sofar_begins _ _ _ k c.requires.1 h

pub returns-then-maps-ge-MAPPING_CAP : goal.returns-then-maps-ge-MAPPING_CAP
returns-then-maps-ge-MAPPING_CAP c =
    λ k h. let g = c.loop-at.invariant k h in sofar_stops g c.loop-at-test.true (mapping_count _ _ _ _ (omega (arith, g.tables.counted, c.if-maps-ge-MAPPING_CAP.true))) (ap Err c.at.ensures)

pub returns-in-Err-Form : goal.returns-in-Err-Form
returns-in-Err-Form c =
    λ k h.
    let g = c.loop-at.invariant k h in
    sofar_stops g c.loop-at-test.true (mapping_bad _ _ _ _ (room g c.loop-at-test.true c.if-maps-ge-MAPPING_CAP.false) (sym c.read_tag.ensures ∙ c.in-Err-Form.is ∙ ap Err c.in-Err-Form.field-0-is))
    (ap Err c.at-in-Err-Form.ensures)

pub returns-in-Err-Cut : goal.returns-in-Err-Cut
returns-in-Err-Cut c =
    λ k h.
    let g = c.loop-at.invariant k h in
    sofar_stops g c.loop-at-test.true (mapping_cut _ _ _ _ (room g c.loop-at-test.true c.if-maps-ge-MAPPING_CAP.false) (sym c.read_tag.ensures ∙ c.in-Err-Cut.is ∙ ap Err c.in-Err-Cut.field-0-is))
    (ap Err c.at-in-Err-Cut.ensures)

pub overflow_sub-c : goal.overflow_sub-c
overflow_sub-c c = (tag_next _ _ _ _ (sym c.read_tag.ensures ∙ c.in-Ok.is)).1

pub returns-then-c-next-lt16 : goal.returns-then-c-next-lt16
returns-then-c-next-lt16 c =
    λ k h.
    let g = c.loop-at.invariant k h in
    sofar_stops g c.loop-at-test.true (mapping_short _ _ _ _ (room g c.loop-at-test.true c.if-maps-ge-MAPPING_CAP.false) _ _ (sym c.read_tag.ensures ∙ c.in-Ok.is) c.if-c-next-lt16.true)
    (ap Err c.at-then-c-next-lt16.ensures)

pub clashes-requires : goal.clashes-requires
clashes-requires c =
    let n = tag_next _ _ _ _ (sym c.read_tag.ensures ∙ c.in-Ok.is) in
    sofar_judging (c.loop-at.invariant (length c.args.c.now) (omega arith)) c.in-Ok.tag.1 (omega (arith, n, c.if-c-next-lt16.false)) c.digest-digest.ensures.0 refl

pub returns-then-clashes : goal.returns-then-clashes
returns-then-clashes c =
    λ k h.
    let g = c.loop-at.invariant k h in
    sofar_stops g c.loop-at-test.true (sofar_clash g c.loop-at-test.true c.if-maps-ge-MAPPING_CAP.false (sym c.read_tag.ensures ∙ c.in-Ok.is) c.if-c-next-lt16.false c.clashes.ensures c.if-clashes.true)
    (ap Err c.at-then-clashes.ensures)

pub add-requires : goal.add-requires
add-requires c =
    let n = tag_next _ _ _ _ (sym c.read_tag.ensures ∙ c.in-Ok.is) in
    let g = c.loop-at.invariant (length c.args.c.now) (omega arith) in (
      c.if-maps-ge-MAPPING_CAP.false,
      omega (arith, n, c.requires.0),
      sofar_free g c.loop-at-test.true c.if-maps-ge-MAPPING_CAP.false (sym c.read_tag.ensures ∙ c.in-Ok.is) c.if-c-next-lt16.false c.clashes.ensures c.if-clashes.false,
    )

pub loop-at-smaller : goal.loop-at-smaller
loop-at-smaller c = let n = tag_next _ _ _ _ (sym c.read_tag.ensures ∙ c.in-Ok.is) in omega (arith, n, c.loop-at-test.true)

pub loop-at-preserved : goal.loop-at-preserved
loop-at-preserved c =
    λ k h.
    sofar_more (c.loop-at.invariant k h) c.loop-at-test.true c.if-maps-ge-MAPPING_CAP.false (sym c.read_tag.ensures ∙ c.in-Ok.is) c.if-c-next-lt16.false c.clashes.ensures c.if-clashes.false
    c.digest-digest.ensures.0 c.digest-digest.ensures.1 c.add.new.self.wide.2 c.add.ensures

pub returns : goal.returns
returns c = λ k h. sofar_ends (c.loop-at.invariant k h) c.loop-at-test.false
