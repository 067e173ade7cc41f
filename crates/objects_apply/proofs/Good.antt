-- What is good of a used entry: each of its fields, one after the other, and an element below 4096.
use mathlib.Core.Path.{◌≡◌}
use mathlib.Core.Bool.{true, ◌&&◌, and-true}
use Rattle.std.proofs.Math.Bool.{and_assoc}
use Prim.Native.Nat.{◌<◌}
use lib.Dec.{ltb}
use borrow.Author.Tests.{ltb-true}
use Rattle.runs.proofs.Bools.{and_both}
use Rattle.pmd.specs.declared.Field.TheVariants as F
use Rattle.pmd.specs.Table.{may_hold, typed}
use Rattle.pmd.specs.Records.{takes, fits}
use Rattle.objects.specs.declared.Object.{Object}
use Rattle.objects_pmd.specs.Values.{taken, good}

module _ (o : Object) where
  -- in the order in which code looks at them
  pub good_fields : fits F.Element o.element && fits F.Class o.class && fits F.Dynamic o.dynamic && fits F.Coordinate o.x
      && fits F.Coordinate o.y && fits F.Coordinate o.z && fits F.Size o.size && fits F.Size3d o.size3d
      && fits F.Diverge o.diverge && fits F.Source o.source && fits F.Gain o.gain ≡ good o
  unfolding good taken takes
  good_fields = rw (and-true (fits F.Gain o.gain)) (simp and_assoc)

  pub good_small : good o ≡ true → o.element < 4096
  unfolding good taken takes
  good_small h = ltb-true o.element 4096 (and_both (ltb o.element 4096) (may_hold (typed F.Element o.element)) (and_both (fits F.Element o.element) _ h).0).0
