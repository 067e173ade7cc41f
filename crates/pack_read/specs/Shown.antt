-- Inner. What is read of a pack into lent arrays: the outline of the reading, and what the arrays hold.
use Rattle.std.specs.Prelude.{◌≡◌, List, [], Result, ℕ, replicate}
use Rattle.refusals.specs.declared.Refused.{Refused}
use Rattle.refusals.specs.Outcomes.{Outcome, fine, refused, answered}
use Rattle.pack.specs.Fixed.{item_cap}
use Rattle.pack.specs.Config.{Mapping}
use Rattle.pack.specs.Reading.{Read, reading}
use Rattle.pack.specs.Slots.{slots, blank, padded}
use Rattle.pack.specs.declared.Item.{Item}
use Rattle.pack_config.specs.declared.table.Mappings.{Mappings}
use Rattle.pack_config.specs.Tables.{Tables}
use Rattle.pack_read.specs.Steps.{outline}
use Rattle.pack_read.specs.declared.Outline.{Outline}

-- what is told of a reading
abbrev pub outline_of : Read → Outline
outline_of r = outline r.offset r.body

-- its items in their slots and its mappings, of which there are none where it is refused
abbrev pub items_of : Outcome Read → List Item
items_of (fine r) = padded item_cap blank (slots r.body.parts)
items_of (refused why place) = replicate item_cap blank

abbrev pub mappings_of : Outcome Read → List Mapping
mappings_of (fine r) = r.mappings
mappings_of (refused why place) = []

pub record Outlined (s : List ℕ) (r : Result Outline Refused) (items : List Item) (maps : Mappings) : Type 0 where
  pub told : r ≡ answered outline_of (reading s)
  pub held : items ≡ items_of (reading s)
  pub tables : Tables (mappings_of (reading s)) maps
