-- Inner. What the passes of a scrub hand on: an accepted pack, and what is ready before it writes.
use Rattle.std.specs.Prelude.{◌≡◌, List, Option, ℕ}
use Rattle.runs.specs.Digits.{Bytes}
use Rattle.refusals.specs.Outcomes.{fine}
use Rattle.pack.specs.declared.Item.{Item}
use Rattle.pack.specs.Config.{places_of}
use Rattle.pack.specs.Said.{Said}
use Rattle.pack.specs.Reading.{Read, reading}
use Rattle.pack.specs.Slots.{slots}
use Rattle.scrub_kept.specs.Written.{content_of}
use Rattle.scrub_ops.specs.declared.Op.{Op}
use Rattle.scrub_config.specs.declared.Mapping.{Mapping}
use Rattle.scrub.specs.declared.Accepted.{Accepted}
use Rattle.scrub_write.specs.Packed.{content_at, Packs}

-- the pack of the bytes s is accepted: its offset, where its labels stand, and its items and inner payloads
pub record Accepts (s : List ℕ) (offset : ℕ) (places : List ℕ) (items : List Item) : Type 0 where
  pub bytes : Bytes s
  pub read : Read
  pub is : reading s ≡ fine read
  pub starts : offset ≡ read.offset
  pub stand : places ≡ places_of read.mappings
  pub hold : items ≡ slots read.body.parts

abbrev pub IsAccepted : Accepted → Type 0
IsAccepted p = Accepts p.bytes.now p.offset p.places.now p.items.now

-- a pack of this offset with these mappings and writes can be written, and is what is kept, k
pub record Ready (k : Said) (s : List ℕ) (offset : ℕ) (ms : List Mapping) (ops : List (Option Op)) (size : ℕ) : Type 0 where
  pub packs : Packs s offset ms ops size
  pub content : content_at s offset ms ops ≡ content_of k
