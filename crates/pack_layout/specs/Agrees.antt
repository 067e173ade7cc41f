-- Trusted. What it is for reading and making to agree: on a pack that is read, and on a description that is laid out.
use Rattle.std.specs.Prelude.{◌≡◌, List, ℕ}
use Rattle.refusals.specs.Outcomes.{fine}
use Rattle.pack.specs.Reading.{Read, reading}
use Rattle.pack.specs.Meaning.{meant}
use Rattle.pack_layout.specs.Layout.{Description, layout, crc_mark, says}
use Rattle.pack_layout.specs.Well.{WellFormed}

-- the pack s, read as r, is the layout of a well-formed description that says what s means by r and has a CRC where one was found
pub record Sound (s : List ℕ) (r : Read) : Type 0 where
  pub description : Description
  pub well : WellFormed description
  pub gives : layout description ≡ s
  pub means : says description ≡ meant s r
  pub marks : crc_mark description.last ≡ r.body.crc

-- the layout of d is read, it means what d says, and it is found to have a CRC where d has one
pub record Complete (d : Description) : Type 0 where
  pub read : Read
  pub reads : reading (layout d) ≡ fine read
  pub means : meant (layout d) read ≡ says d
  pub marks : read.body.crc ≡ crc_mark d.last
