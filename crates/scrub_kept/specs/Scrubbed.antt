-- Trusted. The scrub of a pack by a sheet into a lent buffer: SHEET, then the pack's refusals, then NOROOM.
use Rattle.std.specs.Prelude.{◌≡◌, List, ◌++◌, true, cond, ◌&&◌, ℕ, ◌-◌, leb, length, replicate}
use Rattle.runs.specs.Digits.{Bytes}
use Rattle.refusals.specs.declared.Refusal.TheVariants as R
use Rattle.refusals.specs.Outcomes.{Outcome, fine, refused, and_then}
use Rattle.pack.specs.Fixed.{pack_cap}
use Rattle.pack.specs.Said.{Said}
use Rattle.pack.specs.Reading.{Read, reading}
use Rattle.pack.specs.Meaning.{meant}
use Rattle.scrub_kept.specs.Sheet.{sheet_of}
use Rattle.scrub_kept.specs.Kept.{kept}
use Rattle.scrub_kept.specs.Written.{written}

-- NOROOM exactly when the pack exceeds the buffer or the cap
unfoldable pub room_for : ℕ → List ℕ → Outcome (List ℕ)
room_for room b = cond (leb (length b) room && leb (length b) pack_cap) (fine b) (refused R.NoRoom 0)

-- the pack that the scrub of the bytes s by the bytes of a sheet writes into a buffer of `room` bytes, or its refusal
unfoldable pub scrubbed : List ℕ → List ℕ → ℕ → Outcome (List ℕ)
scrubbed sheet s room =
    and_then (sheet_of sheet) (λ sh. and_then (reading s) (λ r. room_for room (written (kept sh (meant s r)))))

-- the buffer afterwards: the pack and 0 to the end; after a refusal what it held before
unfoldable pub leaves : List ℕ → Outcome (List ℕ) → List ℕ
leaves before (fine b) = b ++ replicate (length before - length b) 0
leaves before (refused why place) = before

-- what reading a written pack finds: bytes that are accepted, say k, and hold a good CRC
pub record ReadsAs (b : List ℕ) (k : Said) : Type 0 where
  pub bytes : Bytes b
  pub read : Read
  pub accepted : reading b ≡ fine read
  pub says : meant b read ≡ k
  pub crc : read.body.crc ≡ true
