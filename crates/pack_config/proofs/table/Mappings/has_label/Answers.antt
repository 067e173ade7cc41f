-- `Mappings::has_label` meets its contract. The loop keeps what is left: the label is among those not yet passed just if it is among all.
use Prim.Native.Nat.{◌+◌, ◌≤◌}
use mathlib.Core.Path.{refl, ◌∙◌}
use mathlib.Core.Bool.{true, false}
use native.Mathlib.Omega.{arith}
use lib.ListN.{length, get_or}
use Rattle.pack.proofs.Labels.{listed_hit, listed_miss, listed_none}
use Rattle.pack_config.specs.declared.table.Mappings.{Mappings}
use Rattle.pack_config.proofs.Standing.{standing_long, standing_at, lies_at}
use Rattle.pack_config.proofs.table.Mappings.has_label.Goals as goal
use Rattle.pack_config.proofs.table.Mappings.has_label.Goals.{In-loop-i}

there : (m : Mappings) → m.count ≤ length m.places
there m = omega (arith, m.few, m.wide)

-- the label looked at is inside the part
place : (c : In-loop-i) → get_or c.args.self.now.places c.loop-i.i 0 + 16 ≤ length c.args.c.now
place c = let m = c.args.self.now in lies_at c.args.c.now m.places m.count c.loop-i.i c.loop-i-test.true (there m) c.requires.1

pub loop-i-init : goal.loop-i-init
loop-i-init c = refl

pub same_label-requires : goal.same_label-requires
same_label-requires c = (place (goal.at.same_label-requires c).In-loop-i, c.requires.0)

pub returns-then-same_label : goal.returns-then-same_label
returns-then-same_label c =
    let m = c.args.self.now in
    let l = c.loop-i in
    let k = standing_long c.args.c.now m.places m.count (there m) in
    listed_hit _ _ l.i (omega (arith, k, c.loop-i-test.true)) (standing_at _ _ _ _ _ _ true c.loop-i-test.true (there m) c.same_label.ensures c.if-same_label.true) ∙ l.invariant

pub loop-i-preserved : goal.loop-i-preserved
loop-i-preserved c =
    let m = c.args.self.now in
    let l = c.loop-i in
    let k = standing_long c.args.c.now m.places m.count (there m) in
    listed_miss _ _ l.i (omega (arith, k, c.loop-i-test.true)) (standing_at _ _ _ _ _ _ false c.loop-i-test.true (there m) c.same_label.ensures c.if-same_label.false) ∙ l.invariant

pub returns : goal.returns
returns c =
    let m = c.args.self.now in
    let k = standing_long c.args.c.now m.places m.count (there m) in
    listed_none _ _ c.loop-i.i (omega (arith, k, c.loop-i-test.false)) ∙ c.loop-i.invariant
