-- Trusted. Where a reading says that a payload starts it stands: its tag, its length in some accepted form, and its value, the very stretch of the pack.
use Rattle.std.specs.Prelude.{◌≡◌, List, ◌++◌, ℕ, ◌+◌, length, drop}
use Rattle.runs.specs.Those.{Each}
use Rattle.numbers.specs.Big.{big_at}
use Rattle.pack.specs.declared.Payload.{Payload}
use Rattle.pack.specs.declared.Head.{Head}
use Rattle.pack.specs.Payloads.{name_of}
use Rattle.pack.specs.Config.{Mapping, tags_of}
use Rattle.pack.specs.Items.{Part, one, many}
use Rattle.pack.specs.Reading.{Read}
use Rattle.pack.specs.Meaning.{stretch, value_of, label_at}
use Rattle.pack_layout.specs.Layout.{element}
use Rattle.pack_layout.specs.Well.{FormFits}

-- an element with the tag t, from `start` on, whose value runs l bytes from v on
pub record Stands (s : List ℕ) (t start v l : ℕ) : Type 0 where
  pub form : ℕ
  pub fits : FormFits form (length (stretch s v l))
  pub bytes : drop start s ≡ element t form (stretch s v l) ++ drop (v + l) s

-- a payload: its name is that of its tag, by the mapped tags, and `value` of crates/pack_value gives the stretch that is meant
pub record PayloadStands (s tags : List ℕ) (x : Payload) : Type 0 where
  pub tag : ℕ
  pub named : x.name ≡ name_of tags tag
  pub stands : Stands s tag x.start x.value_start x.value_len
  pub value : value_of s x ≡ stretch s x.value_start x.value_len

-- a Sync: its two numbers are the first four bytes of its value
pub record SyncStands (s : List ℕ) (h : Head) : Type 0 where
  pub stands : Stands s 2 h.start h.value_start h.value_len
  pub offset : h.offset ≡ big_at s h.value_start 2
  pub duration : h.duration ≡ big_at s (h.value_start + 2) 2

abbrev pub PartStands : List ℕ → List ℕ → Part → Type 0
PartStands s tags (one x) = PayloadStands s tags x
PartStands s tags (many h xs) = SyncStands s h × Each (PayloadStands s tags) xs

-- all of a reading: its parts, and the labels of its mappings, which `label` of crates/pack_value gives
pub record AllStand (s : List ℕ) (r : Read) : Type 0 where
  pub parts : Each (PartStands s (tags_of r.mappings)) r.body.parts
  pub labels : Each (λ (m : Mapping). label_at s m.place ≡ m.stands) r.mappings
