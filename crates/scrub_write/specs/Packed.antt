-- Inner. A pack, as it is written.
use Rattle.std.specs.Prelude.{◌≡◌, List, [], ◌∷◌, ◌++◌, Option, ℕ, ◌+◌, ◌<◌, ◌≤◌, length}
use Rattle.runs.specs.Digits.{digits}
use Rattle.runs.specs.Those.{Each}
use Rattle.refusals.specs.Outcomes.{fine}
use Rattle.numbers.specs.Lengths.{length_bytes}
use Rattle.crc.specs.Crc.{crc_of}
use Rattle.pack.specs.Fixed.{key}
use Rattle.scrub_kept.specs.Scrubbed.{leaves}
use Rattle.scrub_ops.specs.declared.Op.{Op}
use Rattle.scrub_ops.specs.Ops.{ops_bytes, SomeFits}
use Rattle.scrub_config.specs.declared.Mapping.{Mapping}
use Rattle.scrub_config.specs.Entries.{config_at, MappingFits}

-- key, length, content, and the CRC's tag and length
abbrev pub framed : List ℕ → List ℕ
framed content = key ++ (length_bytes (length content + 6) ++ (content ++ (3 ∷ 4 ∷ [])))

-- the CRC of what stands before it
abbrev pub sealed : List ℕ → List ℕ
sealed b = b ++ digits 256 4 (crc_of b)

-- what writing a whole pack promises: the buffer holds b, and 0 to its end
pub record Packed (before b : List ℕ) (answer : ℕ) (after : List ℕ) : Type 0 where
  pub size : answer ≡ length b
  pub buffer : after ≡ leaves before (fine b)

-- what stands between the pack's length and its CRC
abbrev pub content_at : List ℕ → ℕ → List Mapping → List (Option Op) → List ℕ
content_at s offset ms ops = config_at s offset ms ++ ops_bytes s ops

-- a pack that can be written: its parts can, and its size is known
pub record Packs (s : List ℕ) (offset : ℕ) (ms : List Mapping) (ops : List (Option Op)) (size : ℕ) : Type 0 where
  pub few : length ms ≤ 64
  pub mappings : Each (MappingFits s) ms
  pub writes : Each (SomeFits s) ops
  pub counted : size ≡ length (content_at s offset ms ops) + 6
  pub small : size < 4000000
