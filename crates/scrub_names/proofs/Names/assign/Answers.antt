-- `scrub_names::Names::assign` meets its contract.
use mathlib.Core.Path.{◌≡◌, sym, ap, ◌∙◌}
use Prim.Native.Nat.{ℕ}
use native.Mathlib.Omega.{arith}
use lib.ListN.{length, take}
use lib.Seq.{length-take-le, get_or-take}
use borrow.Author.Rules.{rules}
use Rattle.pack.specs.Fixed.{item_cap}
use Rattle.pack.specs.Slots.{padded}
use Rattle.scrub_names.specs.Given.{given, unmapped, mapped}
use Rattle.scrub_names.proofs.Naming.{giving_step, giving_ends}
use Rattle.scrub_names.proofs.Names.assign.Goals as goal

pub loop-k-preserved : goal.loop-k-preserved
loop-k-preserved c =
    let l : length c.args.self.now.order ≡ 64 = search rules in
    let few = c.requires.0 in
    let n = length-take-le c.args.self.now.labels c.args.self.now.order (omega arith) in
    let h = c.loop-k-test.true in
    rw c.place_of.ensures
    (giving_step c.loop-k.invariant _ _ (omega arith) (omega arith) c.clear_from-free.ensures.near c.clear_from-free.ensures.place
    (sym (get_or-take c.args.self.now.labels c.args.self.now.order c.loop-k.k 0 h)))

pub returns : goal.returns
returns c =
    let l : length c.args.self.now.order ≡ 64 = search rules in
    let few = c.requires.0 in
    let n = length-take-le c.args.self.now.labels c.args.self.now.order (omega arith) in
    let h = c.loop-k-test.false in
    giving_ends c.loop-k.invariant (omega arith)
    ∙ ap (λ (m : ℕ). padded item_cap unmapped (mapped c.args.places.now (take c.args.self.now.labels c.args.self.now.order) (given c.args.self.now.taken 0 m))) n
