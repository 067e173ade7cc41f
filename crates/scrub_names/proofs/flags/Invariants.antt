-- `scrub_names::flags` meets its contract. The loop fills the array with the answers.
use mathlib.Core.Path.{◌≡◌}
use mathlib.Core.Bool.{false}
use lib.ListN.{take}
use Rattle.pack.specs.Fixed.{mapping_cap}
use Rattle.pack.specs.Slots.{padded}
use Rattle.scrub_names.specs.Marks.{flags_of}
use Rattle.scrub_names.proofs.flags.Given as goal

abbrev pub invariant-loop-i : goal.invariant-loop-i
invariant-loop-i l = l.kept ≡ padded mapping_cap false (flags_of l.sheet l.p (take l.i l.places))
