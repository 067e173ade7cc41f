-- What a loop that fills an array keeps.
use mathlib.Core.Path.{◌≡◌, sym, ap, ◌∙◌}
use mathlib.Core.List.{List, [], ◌∷◌, ◌++◌, map, map-append}
use Prim.Native.Nat.{ℕ, ◌+◌, ◌<◌, ◌≤◌}
use native.Mathlib.Omega.{arith}
use native.Mathlib.Numerals.{add-one}
use lib.ListN.{length, take, get_or, set, length-map}
use lib.Seq.{take-suc, length-take-le}
use Rattle.pack.specs.Slots.{padded}
use Rattle.pack.proofs.Padded.{set_padded}

-- the elements up to and including the next
pub map_next : {A B : Type 0} (f : A → B) (xs : List A) (i : ℕ) (d : A) → i < length xs
    → map f (take (i + 1) xs) ≡ map f (take i xs) ++ (f (get_or xs i d) ∷ [])
map_next f xs i d h = ap (λ (n : ℕ). map f (take n xs)) (add-one i) ∙ ap (map f) (take-suc xs i d h) ∙ map-append f (take i xs) (get_or xs i d ∷ [])

-- one more element in an array of those before
pub filling_step : {A B : Type 0} (f : A → B) (n : ℕ) (d : B) (xs : List A) (ys : List B) (i : ℕ) (z : A) (y : B) → ys ≡ padded n d (map f (take i xs))
    → i < length xs → length xs ≤ n → y ≡ f (get_or xs i z) → set ys i y ≡ padded n d (map f (take (i + 1) xs))
filling_step {A} {B} f n d xs ys i z y g h m e =
    let l : length (map f (take i xs)) ≡ i = length-map (take i xs) f ∙ length-take-le i xs (omega arith) in
    ap (λ (x : List B). set x i y) g ∙ set_padded n d (map f (take i xs)) i l y (omega arith)
    ∙ ap (padded n d) (ap (λ (x : B). map f (take i xs) ++ (x ∷ [])) e ∙ sym (map_next f xs i z h))
