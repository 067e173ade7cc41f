-- `scrub_names::Names::note` meets its contract.
use native.Mathlib.Omega.{arith}
use Rattle.pack.specs.Fits.{ItemFits}
use Rattle.runs.proofs.Those.{each_at}
use Rattle.scrub_names.proofs.Noting.{mark_fits, noting_here, noting_few, noting_ends, noting_on}
use Rattle.scrub_names.proofs.Names.note.Goals as goal

pub add-requires : goal.add-requires
add-requires c =
    let h = c.loop-i-test.true in
    (omega (arith, c.requires.0), noting_few _ _ _ c.loop-i.invariant (omega arith), rw c.mark_item-mark.ensures (mark_fits _ _ _ (each_at ItemFits c.args.items.now _ _ c.requires.1 h)))

pub loop-i-preserved : goal.loop-i-preserved
loop-i-preserved c =
    let h = c.loop-i-test.true in
    noting_on _ _ _ _ _ h c.mark_item-mark.ensures (c.add.ensures _ (noting_here _ _ _ c.loop-i.invariant (omega arith)) c.loop-i.invariant)

pub returns : goal.returns
returns c = noting_ends _ _ _ c.loop-i.invariant c.loop-i-test.false
