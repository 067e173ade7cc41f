-- The rows of a reading: each has eight numbers, what fills up the places changes none, and how the code makes one.
use mathlib.Core.Path.{◌≡◌, refl, sym, ap, ◌∙◌}
use mathlib.Core.List.{List, [], ◌∷◌, ◌++◌}
use Prim.Native.Nat.{ℕ, suc, ◌+◌, ◌*◌, ◌<◌, ◌≤◌}
use native.Mathlib.Omega.{arith}
use lib.ListN.{length, get_or, set, drop, replicate, length-append}
use lib.Seq.{drop-cons}
use Rattle.std.proofs.Math.ListN.{drop_of_length-le}
use Rattle.runs.specs.Over.{over, Wrote}
use Rattle.runs.proofs.Over.{stores_at}
use Rattle.numbers.specs.Big.{extended}
use Rattle.pack.specs.Made.{made}
use Rattle.pack.specs.declared.Name.{Name}
use Rattle.pack.specs.declared.Name.TheVariants.{Label, Number}
use Rattle.pack.specs.declared.Item.{Item}
use Rattle.pack.specs.declared.Item.TheVariants.{Single, Sync, Inner}
use Rattle.pack.specs.declared.Head.{Head}
use Rattle.pack.proofs.Made.{place_padded}
use Rattle.pack_rows.specs.Rows.{payload_row, sync_row, item_row}

-- LENGTHS

payload_eight : (places : List ℕ) (form : ℕ) (n : Name) (start v l total : ℕ) → length (payload_row places form n start v l total) ≡ 8
unfolding payload_row
payload_eight places form (Label i) start v l total = refl
payload_eight places form (Number t) start v l total = refl

pub item_eight : (places : List ℕ) (x : Item) → length (item_row places x) ≡ 8
unfolding item_row sync_row
item_eight places (Single x) = payload_eight places 0 x.name x.start x.value_start x.value_len x.total
item_eight places (Sync h) = refl
item_eight places (Inner x) = payload_eight places 2 x.name x.start x.value_start x.value_len x.total

pub length_rows : (places : List ℕ) (ws : List Item) → length (made (item_row places) ws) ≡ 8 * length ws
unfolding made
length_rows places [] = refl
length_rows places (w ∷ ws) =
    omega (arith, length-append (item_row places w) (made (item_row places) ws), item_eight places w, length_rows places ws)

-- A STORE

-- the numbers of a list from i on, the first of them apart
apart : (row : List ℕ) (i : ℕ) {rest : List ℕ} → i < length row → drop (suc i) row ≡ rest → drop i row ≡ get_or row i 0 ∷ rest
apart row i h e = drop-cons row i 0 h ∙ ap (λ (l : List ℕ). get_or row i 0 ∷ l) e

eight : (row : List ℕ)
    → length row ≡ 8
    → get_or row 0 0 ∷ get_or row 1 0 ∷ get_or row 2 0 ∷ get_or row 3 0 ∷ get_or row 4 0 ∷ get_or row 5 0 ∷ get_or row 6 0 ∷ get_or row 7 0 ∷ [] ≡ row
eight row e =
    sym (
    apart row 0 (omega (arith, e))
    (apart row 1 (omega (arith, e))
    (apart row 2 (omega (arith, e))
    (apart row 3 (omega (arith, e))
    (apart row 4 (omega (arith, e))
    (apart row 5 (omega (arith, e))
    (apart row 6 (omega (arith, e))
    (apart row 7 (omega (arith, e)) (drop_of_length-le row {i = 8} (omega (arith, e))))))))))
    )

-- the numbers of a row, stored one after the other
pub row_stored : (xs : List ℕ) (at : ℕ) (row : List ℕ)
    → length row ≡ 8
    → at + 8 ≤ length xs
    → Wrote xs at row (at + 8)
    (set (set (set (set (set (set (set (set xs at (get_or row 0 0)) (at + 1) (get_or row 1 0)) (at + 2) (get_or row 2 0)) (at + 3) (get_or row 3 0)) (at + 4) (get_or row 4 0)) (at + 5) (get_or row 5 0)) (at + 6) (get_or row 6 0)) (at + 7) (get_or row 7 0))
row_stored xs at row e room =
    record {
      next = ap (λ (n : ℕ). at + n) (sym e);
      buffer = stores_at xs at (get_or row 0 0) (get_or row 1 0 ∷ get_or row 2 0 ∷ get_or row 3 0 ∷ get_or row 4 0 ∷ get_or row 5 0 ∷ get_or row 6 0 ∷ get_or row 7 0 ∷ []) room
          ∙ ap (over xs at) (eight row e);
    }

-- THE PLACES

module _ (places : List ℕ) (k : ℕ) where
  payload_padded : (form : ℕ) (n : Name) (start v l total : ℕ) → payload_row (places ++ replicate k 0) form n start v l total ≡ payload_row places form n start v l total
  unfolding payload_row
  payload_padded form (Label i) start v l total = cc (place_padded k places i)
  payload_padded form (Number t) start v l total = refl

  pub item_padded : (x : Item) → item_row (places ++ replicate k 0) x ≡ item_row places x
  unfolding item_row
  item_padded (Single x) = payload_padded 0 x.name x.start x.value_start x.value_len x.total
  item_padded (Sync h) = refl
  item_padded (Inner x) = payload_padded 2 x.name x.start x.value_start x.value_len x.total

-- BY THE NAME

module _ (places : List ℕ) (form start v l total : ℕ) {n : Name} where
  pub row_number : (t : ℕ) → n ≡ Number t → form ∷ start ∷ 0 ∷ t ∷ v ∷ l ∷ total ∷ 0 ∷ [] ≡ payload_row places form n start v l total
  unfolding payload_row
  row_number t e = ap (λ (m : Name). payload_row places form m start v l total) (sym e)

  pub row_label : (i : ℕ) → n ≡ Label i → form ∷ start ∷ 1 ∷ get_or places i 0 ∷ v ∷ l ∷ total ∷ 0 ∷ [] ≡ payload_row places form n start v l total
  unfolding payload_row
  row_label i e = ap (λ (m : Name). payload_row places form m start v l total) (sym e)

pub row_sync : (h : Head) {o : ℕ} → o ≡ extended h.offset → 1 ∷ h.start ∷ 2 ∷ h.inside ∷ h.value_start ∷ h.value_len ∷ o ∷ h.duration ∷ [] ≡ sync_row h
unfolding sync_row
row_sync h z = ap (λ (o : ℕ). 1 ∷ h.start ∷ 2 ∷ h.inside ∷ h.value_start ∷ h.value_len ∷ o ∷ h.duration ∷ []) z
