-- `sound` meets its contract: the fields one after the other.
use mathlib.Core.Path.{sym}
use Rattle.objects_apply.proofs.Good.{good_fields}
use Rattle.objects_apply.proofs.sound.Goals as goal

pub returns : goal.returns
returns c =
    rw (
      c.takes.ensures,
      c.takes-2.ensures,
      c.takes-3.ensures,
      c.takes-4.ensures,
      c.takes-5.ensures,
      c.takes-6.ensures,
      c.takes-7.ensures,
      c.takes-8.ensures,
      c.takes-9.ensures,
      c.takes-10.ensures,
      c.takes-11.ensures,
    ) (good_fields c.args.o)
