-- Trusted. How the struct `Reading` shows a reading: its mappings as two arrays, and its items and inner payloads in order.
use Rattle.std.specs.Prelude.{List, [], ◌∷◌, ◌++◌, map, ℕ, ◌-◌, length, replicate}
use Rattle.pack.specs.Fixed.{mapping_cap, item_cap}
use Rattle.pack.specs.Config.{tags_of, places_of}
use Rattle.pack.specs.Items.{Part, one, many, count_of}
use Rattle.pack.specs.Reading.{Read}
use Rattle.pack.specs.declared.Name.TheVariants.{Number}
use Rattle.pack.specs.declared.Payload.{Payload}
use Rattle.pack.specs.declared.Item.{Item}
use Rattle.pack.specs.declared.Item.TheVariants as I
use Rattle.pack.specs.declared.Reading.{Reading}

-- the items and inner payloads of a reading, each in a slot of its own
unfoldable pub slots : List Part → List Item
slots [] = []
slots (one x ∷ r) = I.Single x ∷ slots r
slots (many h xs ∷ r) = I.Sync h ∷ (map (λ (x : Payload). I.Inner x) xs ++ slots r)

-- what an unused slot holds
abbrev pub blank : Item
blank = I.Single (record { name = Number 0; start = 0; value_start = 0; value_len = 0; total = 0 })

-- a list in an array of n places, the rest of which holds one value
abbrev pub padded : {A : Type 0} → ℕ → A → List A → List A
padded n d xs = xs ++ replicate (n - length xs) d

unfoldable pub shown : Read → Reading
shown r = record {
  count = count_of r.body.parts;
  offset = r.offset;
  crc = r.body.crc;
  mapped = length r.mappings;
  tags = padded mapping_cap 0 (tags_of r.mappings);
  labels = padded mapping_cap 0 (places_of r.mappings);
  items = padded item_cap blank (slots r.body.parts);
}
