-- Inner. The items of a reading, marked: what stays, and under which name.
use Rattle.std.specs.Prelude.{◌≡◌, List, [], ◌∷◌, map, Bool, false, cond, Option, Some, None, ℕ, ◌+◌, ◌<◌, ◌≤◌, length, take, drop, get_or}
use Rattle.runs.specs.Same.{among}
use Rattle.pack.specs.declared.Name.{Name}
use Rattle.pack.specs.declared.Name.TheVariants as N
use Rattle.pack.specs.declared.Item.{Item}
use Rattle.pack.specs.declared.Item.TheVariants as I
use Rattle.pack.specs.Fixed.{item_cap}
use Rattle.pack.specs.Said.{label, number}
use Rattle.pack.specs.Slots.{padded}
use Rattle.scrub_kept.specs.Sheet.{Sheet}
use Rattle.scrub_kept.specs.Kept.{keeps}
use Rattle.scrub_names.specs.declared.Names.{Names}

-- for each label of the pack s whether the sheet keeps it; `places` says where they stand
abbrev pub flags_of : Sheet → List ℕ → List ℕ → List Bool
flags_of sheet s places = map (λ (p : ℕ). keeps sheet (label (take 16 (drop p s)))) places

-- a label stays by its flag, a number by the sheet
abbrev pub stays : List Bool → Sheet → Name → Bool
stays flags sheet (N.Label i) = get_or flags i false
stays flags sheet (N.Number t) = keeps sheet (number t)

unfoldable pub mark_name : List Bool → Sheet → Name → Option Name
mark_name flags sheet n = cond (stays flags sheet n) (Some n) None

-- a Sync has no name
unfoldable pub mark_item : List Bool → Sheet → Item → Option Name
mark_item flags sheet (I.Single x) = mark_name flags sheet x.name
mark_item flags sheet (I.Inner x) = mark_name flags sheet x.name
mark_item flags sheet (I.Sync h) = None

abbrev pub marks_of : List Bool → Sheet → List Item → List (Option Name)
marks_of flags sheet xs = map (mark_item flags sheet) xs

-- the numbers that stay
unfoldable pub kept_numbers : List (Option Name) → List ℕ
kept_numbers [] = []
kept_numbers (None ∷ r) = kept_numbers r
kept_numbers (Some (N.Number t) ∷ r) = t ∷ kept_numbers r
kept_numbers (Some (N.Label i) ∷ r) = kept_numbers r

-- the labels that stay, as indices of mappings, in order of first appearance, but for those of `seen`
unfoldable pub kept_labels : List ℕ → List (Option Name) → List ℕ
kept_labels seen [] = []
kept_labels seen (None ∷ r) = kept_labels seen r
kept_labels seen (Some (N.Number t) ∷ r) = kept_labels seen r
kept_labels seen (Some (N.Label i) ∷ r) = cond (among i seen) (kept_labels seen r) (i ∷ kept_labels (i ∷ seen) r)

-- what is noted of the marks: they themselves, the labels in order, how many and which, and which numbers from 64 to 127 are taken
pub record Noted (ms : List (Option Name)) (r : Names) : Type 0 where
  pub marks : r.marks ≡ padded item_cap None ms
  pub order : r.order ≡ padded item_cap 0 (kept_labels [] ms)
  pub labels : r.labels ≡ length (kept_labels [] ms)
  pub listed : (n : ℕ) → n < 32 → get_or r.listed n false ≡ among n (kept_labels [] ms)
  pub long : length r.listed ≡ 32
  pub taken : (n : ℕ) → n < 64 → get_or r.taken n false ≡ among (64 + n) (kept_numbers ms)
  pub wide : length r.taken ≡ 64

-- a label stands at this place of the pack
abbrev pub HasLabel : List ℕ → ℕ → Type 0
HasLabel s p = p + 16 ≤ length s
