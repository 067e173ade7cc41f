-- `Mappings::search` meets its contract. The loop keeps what is left: the name among the tags not yet passed is the name among all.
use Prim.Native.Nat.{◌≤◌}
use mathlib.Core.Path.{refl, ◌∙◌}
use native.Mathlib.Omega.{arith}
use lib.ListN.{length}
use Rattle.pack_config.specs.declared.table.Mappings.{Mappings}
use Rattle.pack_config.proofs.Names.{name_hit, name_miss, name_none}
use Rattle.pack_config.proofs.table.Mappings.search.Goals as goal

there : (m : Mappings) → m.count ≤ length m.tags
there m = omega (arith, m.few, m.wide)

pub loop-i-init : goal.loop-i-init
loop-i-init c = refl

pub returns-then-self-i : goal.returns-then-self-i
returns-then-self-i c = name_hit _ _ _ _ c.loop-i-test.true (there c.args.self.now) c.if-self-i.true ∙ c.loop-i.invariant

pub loop-i-preserved : goal.loop-i-preserved
loop-i-preserved c = name_miss _ _ _ _ c.loop-i-test.true (there c.args.self.now) c.if-self-i.false ∙ c.loop-i.invariant

pub returns : goal.returns
returns c = name_none _ _ _ _ c.loop-i-test.false (there c.args.self.now) ∙ c.loop-i.invariant
