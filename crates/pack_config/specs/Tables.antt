-- Inner. What reading the mappings of a Config gives.
use Rattle.std.specs.Prelude.{◌≡◌, List, [], length}
use Rattle.refusals.specs.Outcomes.{Outcome, fine, refused, answered, Answer}
use Rattle.pack.specs.Fixed.{mapping_cap}
use Rattle.pack.specs.Config.{Mapping, tags_of, places_of}
use Rattle.pack.specs.Slots.{padded}
use Rattle.pack_config.specs.Index.{Knows}
use Rattle.pack_config.specs.declared.table.Mappings.{Mappings}

-- the arrays hold these mappings
pub record Tables (ms : List Mapping) (m : Mappings) : Type 0 where
  pub counted : m.count ≡ length ms
  pub tagged : m.tags ≡ padded mapping_cap 0 (tags_of ms)
  pub placed : m.places ≡ padded mapping_cap 0 (places_of ms)
  pub index : Knows (tags_of ms) m.known
  pub indexes : length m.known ≡ 128

-- what the walk over the mappings gives: how many there are, or the refusal; and where it comes to their end, the arrays hold them
pub record MapsWalked (o : Outcome (List Mapping)) (answer : Answer) (m : Mappings) : Type 0 where
  pub count : answer ≡ answered length o
  pub tables : (ms : List Mapping) → o ≡ fine ms → Tables ms m

-- the mappings that are read: none where they are refused
abbrev pub maps_of : Outcome (List Mapping) → List Mapping
maps_of (fine ms) = ms
maps_of (refused why place) = []

-- what reading mappings gives: how many there are, or the refusal; and the arrays hold those that are read
pub record MapsRead (o : Outcome (List Mapping)) (answer : Answer) (m : Mappings) : Type 0 where
  pub count : answer ≡ answered length o
  pub tables : Tables (maps_of o) m
