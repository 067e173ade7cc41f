-- `figures::put_hex` meets its contract. The loop keeps what is left to write: the digits of the bytes left, and the byte after them.
use mathlib.Core.List.{[], ◌∷◌, ◌++◌}
use lib.ListN.{drop}
use Rattle.runs.proofs.Writing.{Writing}
use Rattle.figures.specs.Figures.{hex}
use Rattle.figures.proofs.put_hex.Given as goal

abbrev pub invariant-loop-byte : goal.invariant-loop-byte
invariant-loop-byte l = Writing l.initial.out l.at (hex l.bytes ++ (l.end ∷ [])) l.out l.next (hex (drop l.byte-index l.bytes) ++ (l.end ∷ []))
