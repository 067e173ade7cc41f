-- Trusted. What reading a tag or a length comes to.
use Rattle.std.specs.Prelude.{Result, Ok, Err, ℕ}
use Rattle.numbers.specs.declared.Fault.{Fault}
use Rattle.numbers.specs.declared.Fault.TheVariants as F

abbrev pub Reads : Type 0
Reads = Result (ℕ × ℕ) Fault

-- a number, and the place after it
pattern abbrev pub read : ℕ → ℕ → Reads
read n next = Ok (n, next)

-- a forbidden form
pattern abbrev pub malformed : Reads
malformed = Err F.Form

-- the bytes end
pattern abbrev pub cut : Reads
cut = Err F.Cut
