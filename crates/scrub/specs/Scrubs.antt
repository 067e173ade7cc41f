-- Inner. What a scrub promises.
use Rattle.std.specs.Prelude.{List, ℕ, length}
use Rattle.refusals.specs.Outcomes.{Outcome, and_then, Answer}
use Rattle.refusals.specs.Lent.{Lends, itself}
use Rattle.pack.specs.Reading.{Read, reading}
use Rattle.pack.specs.Meaning.{meant}
use Rattle.scrub_kept.specs.Sheet.{Sheet}
use Rattle.scrub_kept.specs.Kept.{kept}
use Rattle.scrub_kept.specs.Written.{written}
use Rattle.scrub_kept.specs.Scrubbed.{room_for, scrubbed, leaves}

-- the pack that is written of what this sheet keeps of the pack s, into a buffer of `room` bytes
unfoldable pub kept_pack : Sheet → List ℕ → ℕ → Outcome (List ℕ)
kept_pack sheet s room = and_then (reading s) (λ (r : Read). room_for room (written (kept sheet (meant s r))))

-- the answer and the buffer are those of what this sheet keeps of the pack s
abbrev pub Writes : Sheet → List ℕ → List ℕ → Answer → List ℕ → Type 0
Writes sheet s before r after = Lends itself leaves (kept_pack sheet s (length before)) before r after

-- the answer and the buffer are those of the scrub of the pack s by the bytes of a sheet
abbrev pub Scrubs : List ℕ → List ℕ → List ℕ → Answer → List ℕ → Type 0
Scrubs sheet s before r after = Lends itself leaves (scrubbed sheet s (length before)) before r after
