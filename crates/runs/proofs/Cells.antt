-- What stands in a cell of an array, and what a store into one changes.
use mathlib.Core.Path.{◌≡◌, refl, sym, ap, ◌∙◌}
use mathlib.Core.List.{List, [], ◌∷◌, ◌++◌}
use mathlib.Core.Logic.{⊎_elim}
use Prim.Native.Nat.{ℕ, zero, suc, ◌+◌, ◌-◌, ◌*◌, ◌<◌, ◌≤◌}
use native.Mathlib.Nat.{add-zero, mul-zero, mul-suc, mul-le-mul_left}
use native.Mathlib.Omega.{arith}
use lib.ListN.{length, get_or, set, take, drop, length-set, get_or-append}
use lib.Seq.{drop-cons, get_or-set_same, get_or-set_other, get_or-take, get_or-drop, get_or-append-add, length-take-le, ext_get_or}
use lib.Dec.{eqb}
use borrow.Author.Tests.{eqb-true, eqb-false}
use Rattle.runs.specs.Over.{over}
use Rattle.runs.specs.Cells.{cells_from, cells}
use Rattle.runs.proofs.Cases.{split, lt_or_ge}
use Rattle.runs.proofs.Over.{drop_over}

-- A NUMBER OF A BUFFER THAT WAS WRITTEN OVER

module _ (xs : List ℕ) (a : ℕ) (ys : List ℕ) (room : a + length ys ≤ length xs) where
  before : (i : ℕ) → i < a → get_or (over xs a ys) i 0 ≡ get_or xs i 0
  unfolding over
  before i h =
      let l = length-take-le a xs (omega arith) in
      get_or-append (take a xs) (ys ++ drop (a + length ys) xs) 0 i (omega arith) ∙ get_or-take a xs i 0 h

  within : (k : ℕ) → k < length ys → get_or (over xs a ys) (a + k) 0 ≡ get_or ys k 0
  unfolding over
  within k h =
      let l = length-take-le a xs (omega arith) in
      ap (λ (m : ℕ). get_or (take a xs ++ (ys ++ drop (a + length ys) xs)) (m + k) 0) (sym l)
      ∙ get_or-append-add (take a xs) (ys ++ drop (a + length ys) xs) k 0
      ∙ get_or-append ys (drop (a + length ys) xs) 0 k h

  after : (i : ℕ) → a + length ys ≤ i → get_or (over xs a ys) i 0 ≡ get_or xs i 0
  after i h =
      let k = i - (a + length ys) in
      let e : a + length ys + k ≡ i = omega arith in
      ap (λ (m : ℕ). get_or (over xs a ys) m 0) (sym e)
      ∙ sym (get_or-drop (a + length ys) (over xs a ys) k 0)
      ∙ ap (λ (l : List ℕ). get_or l k 0) (drop_over xs a ys (omega arith))
      ∙ get_or-drop (a + length ys) xs k 0
      ∙ ap (λ (m : ℕ). get_or xs m 0) e

below : (m n : ℕ) → m ≤ n → (n ≡ m → ⊥) → m < n
below m n h d = ⊎_elim (λ a. a) (λ a. absurd (d (omega arith))) (lt_or_ge m n)

-- THE NUMBERS OF A CELL

-- the numbers at a place, one by one
unfoldable pub window : ℕ → List ℕ → ℕ → ℕ → List ℕ
window zero s at o = []
window (suc w) s at o = get_or s (at + o) 0 ∷ window w s at (suc o)

pub take_window : (w : ℕ) (s : List ℕ) (at o : ℕ) → at + o + w ≤ length s → take w (drop (at + o) s) ≡ window w s at o
unfolding window
take_window zero s at o h = refl
take_window (suc w) s at o h =
    let e : suc (at + o) ≡ at + suc o = omega arith in
    let k : at + o < length s = omega arith in
    rw (drop-cons s (at + o) 0, e) (ap (λ (l : List ℕ). get_or s (at + o) 0 ∷ l) (take_window w s at (suc o) (omega arith)))

-- CELLS

-- what is read of a cell is decided by its numbers
abbrev pub Local : {A : Type 0} → (List ℕ → ℕ → A) → ℕ → Type 0
Local read w = (s t : List ℕ) (a b : ℕ) → ((k : ℕ) → k < w → get_or s (a + k) 0 ≡ get_or t (b + k) 0) → read s a ≡ read t b

-- the first of the numbers
pub local_first : (s t : List ℕ) (a b : ℕ) {w : ℕ} → ((k : ℕ) → k < w → get_or s (a + k) 0 ≡ get_or t (b + k) 0) → 0 < w → get_or s a 0 ≡ get_or t b 0
local_first s t a b h p = ap (λ (i : ℕ). get_or s i 0) (sym (add-zero a)) ∙ h 0 p ∙ ap (λ (i : ℕ). get_or t i 0) (add-zero b)

module _ {A : Type 0} (read : List ℕ → ℕ → A) (w : ℕ) where
  length_from : (k : ℕ) (s : List ℕ) (at : ℕ) → length (cells_from read w k s at) ≡ k
  unfolding cells_from
  length_from zero s at = refl
  length_from (suc k) s at = ap suc (length_from k s (at + w))

  pub length_cells : (k : ℕ) (s : List ℕ) → length (cells read w k s) ≡ k
  length_cells k s = length_from k s 0

  cell_from : (k : ℕ) (s : List ℕ) (at i : ℕ) (d : A) → i < k → get_or (cells_from read w k s at) i d ≡ read s (at + w * i)
  unfolding cells_from
  cell_from zero s at i d h = absurd (omega arith)
  cell_from (suc k) s at zero d h = ap (read s) (let z = mul-zero w in let e : at ≡ at + w * 0 = omega arith in e)
  cell_from (suc k) s at (suc i) d h =
      cell_from k s (at + w) i d (omega arith) ∙ ap (read s) (let m = mul-suc w i in let e : at + w + w * i ≡ at + w * suc i = omega arith in e)

  -- the i-th cell
  pub cell_at : (k : ℕ) (s : List ℕ) (i : ℕ) (d : A) → i < k → get_or (cells read w k s) i d ≡ read s (w * i)
  cell_at k s i d h = cell_from k s 0 i d h ∙ ap (read s) (let e : 0 + w * i ≡ w * i = omega arith in e)

  module _ (near : Local read w) (k : ℕ) (s : List ℕ) (long : w * k ≤ length s) (n : ℕ) (h : n < k) (ys : List ℕ) (wide : length ys ≡ w) where
    fits : w * n + length ys ≤ length s
    fits = let m = mul-le-mul_left w h in let q = mul-suc w n in omega arith

    there : (d : A) → get_or (cells read w k (over s (w * n) ys)) n d ≡ read ys 0
    there d =
        cell_at k (over s (w * n) ys) n d h
        ∙ near (over s (w * n) ys) ys (w * n) 0
        (λ j g. within s (w * n) ys fits j (omega arith) ∙ ap (λ (m : ℕ). get_or ys m 0) (let e : j ≡ 0 + j = omega arith in e))

    apart : (i j : ℕ) → (i ≡ n → ⊥) → j < w → get_or (over s (w * n) ys) (w * i + j) 0 ≡ get_or s (w * i + j) 0
    apart i j d g =
        ⊎_elim
        (λ c. let m = mul-le-mul_left w c in let q = mul-suc w i in before s (w * n) ys fits (w * i + j) (omega arith))
        (λ c. let b : n < i = below n i c d in
        let m = mul-le-mul_left w b in let q = mul-suc w n in after s (w * n) ys fits (w * i + j) (omega arith))
        (lt_or_ge i n)

    elsewhere : (i : ℕ) (d : A) → i < k → (i ≡ n → ⊥) → get_or (cells read w k (over s (w * n) ys)) i d ≡ get_or (cells read w k s) i d
    elsewhere i d g a =
        cell_at k (over s (w * n) ys) i d g
        ∙ near (over s (w * n) ys) s (w * i) (w * i) (λ j b. apart i j a b)
        ∙ sym (cell_at k s i d g)

    -- a store of a cell's numbers changes that cell, and no other
    pub cells_put : A → cells read w k (over s (w * n) ys) ≡ set (cells read w k s) n (read ys 0)
    cells_put d =
        let a = length_cells k (over s (w * n) ys) in
        let b = length_cells k s in
        let c = length-set (cells read w k s) n (read ys 0) in
        ext_get_or d (cells read w k (over s (w * n) ys)) (set (cells read w k s) n (read ys 0)) (omega arith)
        (λ i g. split (eqb i n)
        (λ q. let p : i ≡ n = eqb-true i n q in
        ap (λ (m : ℕ). get_or (cells read w k (over s (w * n) ys)) m d) p ∙ there d
        ∙ sym (ap (λ (m : ℕ). get_or (set (cells read w k s) n (read ys 0)) m d) p ∙ get_or-set_same (cells read w k s) n (read ys 0) d (omega arith)))
        (λ q. let p = eqb-false i n q in
        elsewhere i d (omega arith) p ∙ sym (get_or-set_other (cells read w k s) n i (read ys 0) d p)))
