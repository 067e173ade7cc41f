-- Inner. The writes of a scrub, one after the other, and their bytes.
use Rattle.std.specs.Prelude.{List, [], ◌∷◌, ◌++◌, Option, Some, None, ℕ, ◌+◌, ◌<◌, ◌≤◌, ◌^◌, length, take, drop}
use Rattle.runs.specs.Digits.{digits}
use Rattle.numbers.specs.Tags.{tag_bytes}
use Rattle.numbers.specs.Lengths.{length_bytes}
use Rattle.scrub_ops.specs.declared.Op.{Op}
use Rattle.scrub_ops.specs.declared.Op.TheVariants.{Put, Open}

-- a payload whose value is a stretch of the pack s; a Sync up to its first payload, before n bytes of payloads
unfoldable pub op_bytes : List ℕ → Op → List ℕ
op_bytes s (Put t v l) = tag_bytes t ++ (length_bytes l ++ take l (drop v s))
op_bytes s (Open n o d) = tag_bytes 2 ++ (length_bytes (4 + n) ++ (digits 256 2 o ++ digits 256 2 d))

-- a place may hold no write
unfoldable pub some_bytes : List ℕ → Option Op → List ℕ
some_bytes s None = []
some_bytes s (Some x) = op_bytes s x

unfoldable pub ops_bytes : List ℕ → List (Option Op) → List ℕ
ops_bytes s [] = []
ops_bytes s (x ∷ r) = some_bytes s x ++ ops_bytes s r

-- a tag that can be written, a value that lies in the pack, a size that fits
abbrev pub OpFits : List ℕ → Op → Type 0
OpFits s (Put t v l) = (t < 128 ^ 4) × (v + l ≤ length s)
OpFits s (Open n o d) = 4 + n < 2 ^ 32

abbrev pub SomeFits : List ℕ → Option Op → Type 0
SomeFits s None = Unit
SomeFits s (Some x) = OpFits s x
