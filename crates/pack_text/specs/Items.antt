-- Inner. The lines of a reading's items, as the loop over them goes, and what it asks of them.
use Rattle.std.specs.Prelude.{List, ℕ, ◌+◌, ◌<◌, ◌≤◌, length, get_or}
use Rattle.runs.specs.Those.{Each}
use Rattle.pack.specs.Fixed.{mapping_cap}
use Rattle.pack.specs.Made.{made}
use Rattle.pack.specs.declared.Name.{Name}
use Rattle.pack.specs.declared.Name.TheVariants.{Label, Number}
use Rattle.pack.specs.declared.Item.{Item}
use Rattle.pack.specs.declared.Item.TheVariants.{Single, Sync, Inner}
use Rattle.pack_text.specs.Text.{line, sync_fields, payload_line}

-- the line of an item: a payload inside a Sync has the same line as one outside
abbrev pub item_line : List ℕ → List ℕ → Item → List ℕ
item_line s places (Single x) = payload_line s places x
item_line s places (Sync h) = line (sync_fields h)
item_line s places (Inner x) = payload_line s places x

abbrev pub item_lines : List ℕ → List ℕ → List Item → List ℕ
item_lines s places ws = made (item_line s places) ws

-- a label is one of the places, and its 16 bytes stand in the pack
abbrev pub NameStands : List ℕ → List ℕ → Name → Type 0
NameStands s places (Label i) = (i < mapping_cap) × (get_or places i 0 + 16 ≤ length s)
NameStands s places (Number t) = Unit

abbrev pub ItemStands : List ℕ → List ℕ → Item → Type 0
ItemStands s places (Single x) = NameStands s places x.name
ItemStands s places (Sync h) = Unit
ItemStands s places (Inner x) = NameStands s places x.name

abbrev pub ItemsStand : List ℕ → List ℕ → List Item → Type 0
ItemsStand s places ws = Each (ItemStands s places) ws
