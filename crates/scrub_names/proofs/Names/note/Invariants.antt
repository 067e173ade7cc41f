-- `scrub_names::Names::note` meets its contract. The loop keeps what is noted of the items that it has passed.
use lib.ListN.{take}
use Rattle.scrub_names.specs.Marks.{marks_of, Noted}
use Rattle.scrub_names.proofs.Names.note.Given as goal

abbrev pub invariant-loop-i : goal.invariant-loop-i
invariant-loop-i l = Noted (marks_of l.flags l.sheet (take l.i l.items)) l.self
