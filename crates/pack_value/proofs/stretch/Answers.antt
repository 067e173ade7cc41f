-- `pack_value::stretch` meets its contract: where the stretch does not lie in the pack, and where it does.
use Prim.Native.Nat.{◌+◌, ◌-◌, ◌<◌, ◌≤◌}
use mathlib.Core.Path.{◌≡◌}
use native.Mathlib.Omega.{arith}
use lib.ListN.{length}
use borrow.Author.Tests.{lt-leb, le-leb}
use Rattle.pack.specs.Meaning.{stretch_in}
use Rattle.pack_value.proofs.stretch.Goals as goal

pub returns-then-pack-start : goal.returns-then-pack-start
unfolding stretch_in
returns-then-pack-start c =
    let a = c.args in
    let h : length a.pack.now < a.place.start + a.place.len = omega arith in
    simp (lt-leb _ _ h)

pub returns-then-pack-start-2 : goal.returns-then-pack-start-2
unfolding stretch_in
returns-then-pack-start-2 c =
    let a = c.args in
    let h : length a.pack.now < a.place.start + a.place.len = omega arith in
    simp (lt-leb _ _ h)

pub returns : goal.returns
unfolding stretch_in
returns c =
    let a = c.args in
    let h : a.place.start + a.place.len ≤ length a.pack.now = omega arith in
    let e : a.place.start + a.place.len - a.place.start ≡ a.place.len = omega arith in
    simp (le-leb _ _ h, e)
