-- `figures::put_decimal` meets its contract. The loop keeps that the last figures stand there, and what is left of the number before them.
use Prim.Native.Nat.{◌≤◌}
use Rattle.figures.proofs.Figures.{Standing}
use Rattle.figures.proofs.put_decimal.Given as goal

abbrev pub invariant-loop-i : goal.invariant-loop-i
invariant-loop-i l = (l.at ≤ l.i) × Standing l.initial.out l.out l.next l.i l.n l.left
