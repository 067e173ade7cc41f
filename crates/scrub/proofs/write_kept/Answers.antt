-- `scrub::write_kept` meets its contract. The room is asked for before anything is written.
use mathlib.Core.Path.{sym}
use mathlib.Core.Logic.{inl, inr}
use native.Mathlib.Omega.{arith}
use lib.Seq.{length-take-le}
use borrow.Author.Rules.{rules}
use Rattle.numbers.proofs.Lengths.{length_small}
use Rattle.scrub.proofs.Accepting.{few_items}
use Rattle.scrub.proofs.Outcome.{packs, no_room, wrote}
use Rattle.scrub.proofs.write_kept.Goals as goal

pub overflow_cast-size : goal.overflow_cast-size
overflow_cast-size c = let p = packs c.args.sheet.now c.args.out.now c.requires c.prepare-measured.ensures.ready in let s = p.small in omega arith

pub overflow_add-whole : goal.overflow_add-whole
overflow_add-whole c = omega (arith, c.length_size.ensures, length_small c.prepare-measured.result.size)

pub overflow_add-whole-2 : goal.overflow_add-whole-2
overflow_add-whole-2 c =
    let p = packs c.args.sheet.now c.args.out.now c.requires c.prepare-measured.ensures.ready in
    let s = p.small in
    omega (arith, c.length_size.ensures, length_small c.prepare-measured.result.size)

pub returns-then-whole-out : goal.returns-then-whole-out
returns-then-whole-out c = no_room c.args.sheet.now _ c.requires c.prepare-measured.ensures.ready c.at.ensures (inl (omega (arith, c.length_size.ensures, c.if-whole-out.true)))

pub returns-then-whole-gt-PACK_CAP : goal.returns-then-whole-gt-PACK_CAP
returns-then-whole-gt-PACK_CAP c =
    no_room c.args.sheet.now _ c.requires c.prepare-measured.ensures.ready c.at-then-whole-gt-PACK_CAP.ensures (inr (omega (arith, c.length_size.ensures, c.if-whole-gt-PACK_CAP.true)))

pub slice_bounds-mappings-end : goal.slice_bounds-mappings-end
slice_bounds-mappings-end c = let f = c.prepare-measured.ensures.few in search rules

pub slice_bounds-mappings-end-2 : goal.slice_bounds-mappings-end-2
slice_bounds-mappings-end-2 c = let f = c.prepare-measured.ensures.few in sym (length-take-le _ _ (search rules))

pub slice_bounds-ops-end : goal.slice_bounds-ops-end
slice_bounds-ops-end c = let f = few_items c.requires c.args.sheet.now in search rules

pub slice_bounds-ops-end-2 : goal.slice_bounds-ops-end-2
slice_bounds-ops-end-2 c = let f = few_items c.requires c.args.sheet.now in sym (length-take-le _ _ (search rules))

pub write_pack-requires : goal.write_pack-requires
write_pack-requires c =
    (packs c.args.sheet.now c.args.out.now c.requires c.prepare-measured.ensures.ready, omega (arith, c.length_size.ensures, c.if-whole-out.false))

pub returns : goal.returns
returns c =
    wrote c.args.sheet.now _ c.requires c.prepare-measured.ensures.ready _ _ (omega (arith, c.length_size.ensures, c.if-whole-out.false))
    (omega (arith, c.length_size.ensures, c.if-whole-gt-PACK_CAP.false)) c.write_pack.ensures
