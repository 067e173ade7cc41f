-- A list made of slots: one slot after the other, and what fills up the places of the labels changes nothing.
use mathlib.Core.Path.{◌≡◌, refl, ap, ap₂}
use mathlib.Core.List.{List, [], ◌∷◌, ◌++◌}
use Prim.Native.Nat.{ℕ, zero, suc, ◌+◌, ◌<◌, ◌≤◌}
use lib.ListN.{length, get_or, take, drop, replicate, drop_of_length-le}
use Rattle.pack.specs.Made.{made}
use Rattle.pack.specs.declared.Item.{Item}
use Rattle.pack.proofs.Slots.{slot_taken}

module _ {A : Type 0} (f : Item → List A) where
  -- of the slot at i of the first `count`, then of those after it
  pub made_first : (ws : List Item) (count i : ℕ) (d : Item) → count ≤ length ws → i < count
      → made f (drop i (take count ws)) ≡ f (get_or ws i d) ++ made f (drop (i + 1) (take count ws))
  unfolding made
  made_first ws count i d m h = ap (made f) (slot_taken ws count i d m h)

  -- of none
  pub made_none : (ws : List Item) (i : ℕ) → length ws ≤ i → made f (drop i ws) ≡ []
  unfolding made
  made_none ws i h = rw (drop_of_length-le ws {i = i} h) refl

  -- the same of each item, the same in all
  pub made_same : (g : Item → List A) → ((y : Item) → f y ≡ g y) → (ws : List Item) → made f ws ≡ made g ws
  unfolding made
  made_same g e [] = refl
  made_same g e (w ∷ ws) = ap₂ (λ (a b : List A). a ++ b) (e w) (made_same g e ws)

filling : (k i : ℕ) → ◌≡◌ {A = ℕ} (get_or (replicate k 0) i 0) 0
filling zero i = refl
filling (suc k) zero = refl
filling (suc k) (suc i) = filling k i

-- what fills up the places of the labels is the place of none
pub place_padded : (k : ℕ) (xs : List ℕ) (i : ℕ) → get_or (xs ++ replicate k 0) i 0 ≡ get_or xs i 0
place_padded k [] i = filling k i
place_padded k (x ∷ xs) zero = refl
place_padded k (x ∷ xs) (suc i) = place_padded k xs i
