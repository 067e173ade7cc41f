-- Trusted. What is wrong with a pack that is refused, in the words of the layout: what stands before the place is laid out well, and what stands there is
-- not. What could still become a tag, a length or an element if more bytes followed runs past the end; what could not is wrong as it stands.
use Rattle.std.specs.Prelude.{◌≡◌, List, [], ◌++◌, map, true, ℕ, ◌+◌, ◌-◌, ◌<◌, ◌≤◌, ◌^◌, length, take}
use Rattle.runs.specs.Digits.{digits}
use Rattle.refusals.specs.declared.Refusal.{Refusal}
use Rattle.refusals.specs.declared.Refusal.TheVariants as R
use Rattle.numbers.specs.Tags.{tag_bytes}
use Rattle.numbers.specs.Lengths.{form_bytes}
use Rattle.crc.specs.Crc.{crc_of}
use Rattle.pack.specs.Fixed.{key, pack_cap, item_cap, mapping_cap}
use Rattle.pack.specs.Config.{clashes}
use Rattle.pack_layout.specs.Layout.{Element, Chunk, Entry, ConfigLaid, element, group_bytes, chunks_bytes, entries_bytes, config_bytes}
use Rattle.pack_layout.specs.Well.{FormFits, WellElements, WellChunks, WellEntries, WellConfig, chunks_count}

-- a tag that can be written
abbrev pub TagFits : ℕ → Type 0
TagFits t = (0 < t) × (t < 128 ^ 4)

-- w does not begin with a tag, whatever may follow it
abbrev pub NoTag : List ℕ → Type 0
NoTag w = (t : ℕ) (more rest : List ℕ) → TagFits t → w ++ more ≡ tag_bytes t ++ rest → ⊥

-- nor with a length in an accepted form
abbrev pub NoLength : List ℕ → Type 0
NoLength w = (form n : ℕ) (more rest : List ℕ) → FormFits form n → w ++ more ≡ form_bytes form n ++ rest → ⊥

-- w begins with an element of the tag t and the value v, before `rest`
pub record Has (w : List ℕ) (t : ℕ) (v rest : List ℕ) : Type 0 where
  pub form : ℕ
  pub tagged : TagFits t
  pub fits : FormFits form (length v)
  pub is : w ≡ element t form v ++ rest

-- w, which is not empty, lacks some bytes to be what `whole` is
pub record Lacks (w whole : List ℕ) : Type 0 where
  pub more : List ℕ
  pub some : 0 < length w
  pub missing : 0 < length more
  pub is : w ++ more ≡ whole

-- no element begins w: CUT, TAG or LENGTH
pub data NoElement (w : List ℕ) : Refusal → Type 0 where
  runs_out : (t form : ℕ) (v : List ℕ) → TagFits t → FormFits form (length v) → Lacks w (element t form v) → NoElement w R.Cut
  bad_tag : NoTag w → NoElement w R.Tag
  bad_length : (t : ℕ) (z : List ℕ) → TagFits t → w ≡ tag_bytes t ++ z → NoLength z → NoElement w R.Length

-- no item begins w, where `used` payloads and Syncs came before, after the start of the pack and this content: PLACE, COUNT, then CRC and SYNC by their content
pub data NoItem (start content w : List ℕ) (used : ℕ) : Refusal → Type 0 where
  item_broken : {why : Refusal} → NoElement w why → NoItem start content w used why
  late_config : (v rest : List ℕ) → Has w 1 v rest → 0 < length content → NoItem start content w used R.Place
  early_crc : (v rest : List ℕ) → Has w 3 v rest → 0 < length rest → NoItem start content w used R.Place
  item_too_many : (t : ℕ) (v rest : List ℕ) → Has w t v rest → (t ≡ 1 → ⊥) → (t ≡ 3 → ⊥) → item_cap ≤ used → NoItem start content w used R.Count
  long_crc : (v : List ℕ) → Has w 3 v [] → (length v ≡ 4 → ⊥) → NoItem start content w used R.Crc
  wrong_crc : (v : List ℕ) (h : Has w 3 v []) → length v ≡ 4 → (v ≡ digits 256 4 (crc_of (start ++ (content ++ (tag_bytes 3 ++ form_bytes h.form 4)))) → ⊥)
      → NoItem start content w used R.Crc
  empty_sync : (v rest : List ℕ) → Has w 2 v rest → used < item_cap → length v ≤ 4 → NoItem start content w used R.Sync

-- no payload of a Sync begins z: PLACE, COUNT
pub data NoInner (z : List ℕ) (used : ℕ) : Refusal → Type 0 where
  inner_broken : {why : Refusal} → NoElement z why → NoInner z used why
  inner_fixed : (t : ℕ) (v rest : List ℕ) → Has z t v rest → t ≤ 3 → NoInner z used R.Place
  inner_too_many : (t : ℕ) (v rest : List ℕ) → Has z t v rest → 3 < t → item_cap ≤ used → NoInner z used R.Count

-- no mapping begins z, after those of ms: COUNT, TAG, CONFIG, MAP
pub data NoEntry (ms : List Entry) (z : List ℕ) : Refusal → Type 0 where
  entry_too_many : 0 < length z → mapping_cap ≤ length ms → NoEntry ms z R.Count
  entry_bad_tag : length ms < mapping_cap → NoTag z → NoEntry ms z R.Tag
  entry_runs_out : length ms < mapping_cap → (t : ℕ) (label : List ℕ) → TagFits t → length label ≡ 16 → Lacks z (tag_bytes t ++ label) → NoEntry ms z R.Config
  entry_taken : length ms < mapping_cap → (t : ℕ) (label rest : List ℕ) → TagFits t → length label ≡ 16 → z ≡ tag_bytes t ++ (label ++ rest)
      → clashes (map (λ (m : Entry). m.tag) ms) (map (λ (m : Entry). m.stands) ms) t label ≡ true → NoEntry ms z R.Map

-- the value c is no Config's: under two bytes, or wrong after the mappings ms
pub data NoConfig (c : List ℕ) : Refusal → Type 0 where
  config_short : length c < 2 → NoConfig c R.Config
  config_entry : {why : Refusal} (o : ℕ) (ms : List Entry) (z : List ℕ) → o < 65536 → WellEntries ms → c ≡ digits 256 2 o ++ (entries_bytes ms ++ z)
      → NoEntry ms z why → NoConfig c why

-- s has a pack's start, and the value that its length says
pub record Framed (s start value : List ℕ) : Type 0 where
  pub small : length s ≤ pack_cap
  pub form : ℕ
  pub fits : FormFits form (length value)
  pub begins : start ≡ key ++ form_bytes form (length value)
  pub is : s ≡ start ++ value

-- content that may stand at the front of a pack's value, with so many payloads and Syncs
pub record Front (content : List ℕ) (used : ℕ) : Type 0 where
  pub first : ConfigLaid
  pub chunks : List Chunk
  pub opening : WellConfig first
  pub items : WellChunks chunks
  pub count : chunks_count chunks ≡ used
  pub few : used ≤ item_cap
  pub is : content ≡ config_bytes first ++ chunks_bytes chunks

-- s is refused, for this reason and at this place: BIG, SHORT, KEY, LENGTH, SHORT again and TRAIL at its start, then in its Config, at an item, inside
-- a Sync
pub data Refused (s : List ℕ) : Refusal → ℕ → Type 0 where
  too_big : pack_cap < length s → Refused s R.Big 0
  too_short : length s < 16 → Refused s R.Short 0
  other_key : length s ≤ pack_cap → 16 ≤ length s → (take 16 s ≡ key → ⊥) → Refused s R.Key 0
  pack_bad_length : length s ≤ pack_cap → (z : List ℕ) → s ≡ key ++ z → NoLength z → Refused s R.Length 16
  pack_runs_out : length s ≤ pack_cap → 16 ≤ length s → (form : ℕ) (v : List ℕ) → FormFits form (length v) → Lacks s (key ++ (form_bytes form (length v) ++ v))
      → Refused s R.Short 0
  pack_trails : length s ≤ pack_cap → (form : ℕ) (v more : List ℕ) → FormFits form (length v) → 0 < length more
      → s ≡ key ++ (form_bytes form (length v) ++ (v ++ more)) → Refused s R.Trail 0
  in_config : {why : Refusal} (start value c rest : List ℕ) → Framed s start value → Has value 1 c rest → NoConfig c why → Refused s why (length start)
  at_item : {why : Refusal} {used : ℕ} (start content w : List ℕ) → Framed s start (content ++ w) → Front content used → NoItem start content w used why
      → Refused s why (length (start ++ content))
  in_sync : {why : Refusal} {used : ℕ} (start content w rest : List ℕ) (o d : ℕ) (xs : List Element) (z : List ℕ) → Framed s start (content ++ w) → Front content used
      → o < 65536 → d < 65536 → WellElements xs → used + 1 + length xs ≤ item_cap → Has w 2 (group_bytes o d xs ++ z) rest → NoInner z (used + 1 + length xs) why
      → Refused s why (length s - length (z ++ rest))
