-- Inner. What the steps of a reading make.
use Rattle.std.specs.Prelude.{◌≡◌, List, [], map, Result, ℕ, ◌≤◌, length}
use Rattle.std.proofs.lemmas.List.Edits.{sets}
use Rattle.refusals.specs.declared.Refused.{Refused}
use Rattle.refusals.specs.Outcomes.{Outcome, fine, refused, answered, Answer}
use Rattle.pack.specs.Fixed.{item_cap}
use Rattle.pack.specs.Payloads.{Ground, inners_from}
use Rattle.pack.specs.Config.{Mapping}
use Rattle.pack.specs.Items.{Body, count_of}
use Rattle.pack.specs.Reading as R
use Rattle.pack.specs.Inside.{InsideTold}
use Rattle.pack.specs.Slots.{slots, blank, padded}
use Rattle.pack.specs.declared.Payload.{Payload}
use Rattle.pack.specs.declared.Item.{Item}
use Rattle.pack.specs.declared.Item.TheVariants as I
use Rattle.pack_config.specs.declared.table.Mappings.{Mappings}
use Rattle.pack_config.specs.Tables.{Tables}
use Rattle.pack_read.specs.declared.Outline.{Outline}
use Rattle.pack_read.specs.declared.Opening.{Opening}

-- the payloads of an inside q are told, and stand in the slots from `used` on
pub record InsideRead (q : List ℕ) (grounds : Ground) (base used : ℕ) (r : Answer) (before after : List Item) : Type 0 where
  pub inside : InsideTold q grounds base used r
  pub full : (k : ℕ) (xs : List Payload) → length q ≤ k → inners_from k q grounds base 0 used ≡ fine xs → after ≡ sets before used (map (λ (x : Payload). I.Inner x) xs)

-- what is told of the items of a pack with this offset
abbrev pub outline : ℕ → Body → Outline
outline offset b = record { count = count_of b.parts; offset = offset; crc = b.crc }

-- the items of a pack are told, and where they are accepted they stand in the slots
pub record BodyTold (offset : ℕ) (o : Outcome Body) (r : Result Outline Refused) (items : List Item) : Type 0 where
  pub told : r ≡ answered (outline offset) o
  pub full : (b : Body) → o ≡ fine b → items ≡ padded item_cap blank (slots b.parts)

-- an opening as the code has it: its offset and where the items start
abbrev pub opened : R.Opening → Opening
opened o = record { offset = o.offset; next = o.next }

-- and its mappings, of which there are none where it is refused
abbrev pub opens_with : Outcome R.Opening → List Mapping
opens_with (fine o) = o.mappings
opens_with (refused why place) = []

pub record Opens (o : Outcome R.Opening) (r : Result Opening Refused) (maps : Mappings) : Type 0 where
  pub told : r ≡ answered opened o
  pub tables : Tables (opens_with o) maps
