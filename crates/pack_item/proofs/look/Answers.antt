-- `pack_item::look` meets its contract: its tests are those of the definition.
use Prim.Native.Nat.{◌+◌, ◌≤◌}
use mathlib.Core.Path.{◌≡◌, ◌∙◌}
use native.Mathlib.Omega.{arith}
use borrow.Author.Tests.{lt-ltb, le-ltb, lt-leb, le-leb, ne_eqb}
use Rattle.pack_item.specs.Quick.{glance_after, glance_at}
use Rattle.pack_item.proofs.Glances.{glance_short, glance_long}
use Rattle.pack_item.proofs.look.Goals as goal
use Rattle.pack_item.proofs.look.Goals.{Joined-form-gt127, then-form-gt127+else-form, else-form-gt127}

-- what the two forms make of the rest
told : (c : Joined-form-gt127)
    → let a = c.args in glance_after a.p.now a.at c.if-form-gt127.size c.if-form-gt127.len ≡ glance_at a.p.now a.at
told c =
    elim c.if-form-gt127.branch [
      | then-form-gt127+else-form w ↦
          glance_long _ _ c.if-left-lt4.false c.if-tag-le3.false c.if-tag-gt127.false w.if-form.false w.size-is (w.len-is ∙ w.be16-len.ensures)
      | else-form-gt127 w ↦ glance_short _ _ c.if-left-lt4.false c.if-tag-le3.false c.if-tag-gt127.false w.if-form-gt127.false w.size-is w.len-is
    ]

few : (c : Joined-form-gt127) → c.if-form-gt127.size ≤ 4
few c = elim c.if-form-gt127.branch [ then-form-gt127+else-form w ↦ omega arith | else-form-gt127 w ↦ omega arith ]

pub returns-then-left-lt4 : goal.returns-then-left-lt4
unfolding glance_at
returns-then-left-lt4 c = simp (lt-ltb _ _ c.if-left-lt4.true)

pub returns-then-tag-le3 : goal.returns-then-tag-le3
unfolding glance_at
returns-then-tag-le3 c = simp (le-ltb _ _ c.if-left-lt4.false, le-leb _ _ c.if-tag-le3.true)

pub returns-then-tag-gt127 : goal.returns-then-tag-gt127
unfolding glance_at
returns-then-tag-gt127 c = simp (le-ltb _ _ c.if-left-lt4.false, lt-leb _ _ c.if-tag-le3.false, lt-ltb _ _ c.if-tag-gt127.true)

pub overflow_cast-len : goal.overflow_cast-len
overflow_cast-len c = omega (arith, c.type_inv.p (c.args.at + 1))

pub returns-then-form : goal.returns-then-form
unfolding glance_at
returns-then-form c = simp (le-ltb _ _ c.if-left-lt4.false, lt-leb _ _ c.if-tag-le3.false, le-ltb _ _ c.if-tag-gt127.false, lt-ltb _ _ c.if-form-gt127.true, ne_eqb _ _ c.if-form.true)

pub overflow_sub-left-2 : goal.overflow_sub-left-2
overflow_sub-left-2 c = let f = few (goal.at.overflow_sub-left-2 c).Joined-form-gt127 in omega arith

pub returns-then-left-size : goal.returns-then-left-size
unfolding glance_after
returns-then-left-size c = simp (lt-ltb _ _ c.if-left-size.true) at (told (goal.at.returns-then-left-size c).Joined-form-gt127)

pub returns : goal.returns
unfolding glance_after
returns c = simp (le-ltb _ _ c.if-left-size.false) at (told (goal.at.returns c).Joined-form-gt127)
