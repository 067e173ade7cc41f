-- The line of a payload by its name, and the room and the label of an item's line.
use mathlib.Core.Path.{◌≡◌, sym, ap, subst, ◌∙◌}
use mathlib.Core.List.{List, ◌∷◌, ◌++◌}
use Prim.Native.Nat.{ℕ, ◌+◌, ◌-◌, ◌<◌, ◌≤◌}
use native.Mathlib.Omega.{arith}
use native.Mathlib.Numerals.{add-one}
use lib.ListN.{length, get_or, drop}
use lib.Seq.{drop-cons}
use Rattle.pack.specs.Made.{made}
use Rattle.pack.specs.Meaning.{stretch}
use Rattle.pack.specs.declared.Name.{Name}
use Rattle.pack.specs.declared.Name.TheVariants.{Label, Number}
use Rattle.pack.specs.declared.Item.{Item}
use Rattle.pack_text.specs.Text.{line, label_fields, number_fields, named_line}
use Rattle.pack_text.specs.Items.{item_line, item_lines, NameStands, ItemStands}

-- what a payload's line is, by its name
module _ (s places : List ℕ) {n : Name} (start len total : ℕ) where
  -- the label is lent as the stretch from its place p on to p + 16
  pub line_label : {i : ℕ} → n ≡ Label i
      → let p = get_or places i 0 in named_line s places n start len total ≡ line (label_fields start (stretch s p (p + 16 - p)) len total)
  unfolding named_line
  line_label {i} e = let p = get_or places i 0 in let z : p + 16 - p ≡ 16 = omega arith in rw (e, z)

  pub line_number : {t : ℕ} → n ≡ Number t → named_line s places n start len total ≡ line (number_fields start t len total)
  unfolding named_line
  line_number e = rw e

pub label_stands : (s places : List ℕ) {n : Name} {i : ℕ} → n ≡ Label i → NameStands s places n → NameStands s places (Label i)
label_stands s places e h = subst (NameStands s places) e h

-- the room for an item's line and its label, by the item
pub item_is : (s places : List ℕ) (at n : ℕ) {y z : Item} → y ≡ z → (at + length (item_line s places y) ≤ n) × ItemStands s places y
    → (at + length (item_line s places z) ≤ n) × ItemStands s places z
item_is s places at n e h = subst (λ (x : Item). (at + length (item_line s places x) ≤ n) × ItemStands s places x) e h

-- the line of the item at i, then those of the items after it
pub lines_next : (s places : List ℕ) (ws : List Item) (i : ℕ) (d : Item) → i < length ws
    → item_lines s places (drop i ws) ≡ item_line s places (get_or ws i d) ++ item_lines s places (drop (i + 1) ws)
unfolding made
lines_next s places ws i d h =
    ap (item_lines s places) (drop-cons ws i d h ∙ ap (λ (n : ℕ). get_or ws i d ∷ drop n ws) (sym (add-one i)))
