-- The labels that stand at the first places of a table.
use Prim.Native.Nat.{ℕ, zero, suc, ◌+◌, ◌<◌, ◌≤◌}
use mathlib.Core.Path.{◌≡◌, refl, sym, ap, ◌∙◌, subst}
use mathlib.Core.List.{List, [], ◌∷◌, map}
use mathlib.Core.Bool.{Bool}
use native.Mathlib.Omega.{arith}
use lib.ListN.{length, take, drop, get_or, length-map}
use lib.Seq.{get_or-take, length-take-le}
use Rattle.runs.specs.Same.{same}
use Rattle.runs.proofs.Those.{each_at}
use Rattle.pack_config.specs.Index.{standing, LabelsLie}

get_d_map : (f : ℕ → List ℕ) (l : List ℕ) (i d : ℕ) → i < length l → get_or (map f l) i [] ≡ f (get_or l i d)
get_d_map f [] i d h = absurd (omega arith)
get_d_map f (x ∷ l) zero d h = refl
get_d_map f (x ∷ l) (suc i) d h = get_d_map f l i d (omega arith)

-- the labels that stand at the first n places of a table
module _ (c places : List ℕ) (n : ℕ) where
  pub standing_long : n ≤ length places → length (standing c (take n places)) ≡ n
  standing_long h = length-map (take n places) (λ (p : ℕ). take 16 (drop p c)) ∙ length-take-le n places h

  pub standing_at : (i : ℕ) (l : List ℕ) (r b : Bool) → i < n → n ≤ length places → r ≡ same (take 16 (drop (get_or places i 0) c)) l → r ≡ b
      → same (get_or (standing c (take n places)) i []) l ≡ b
  standing_at i l r b h g e d =
      let m : length (take n places) ≡ n = length-take-le n places g in
      ap (λ (x : List ℕ). same x l) (get_d_map (λ (p : ℕ). take 16 (drop p c)) (take n places) i 0 (omega arith) ∙ ap (λ (p : ℕ). take 16 (drop p c)) (get_or-take n places i 0 h))
      ∙ sym e ∙ d

pub lies_at : (c places : List ℕ) (n i : ℕ) → i < n → n ≤ length places → LabelsLie c (take n places) → get_or places i 0 + 16 ≤ length c
lies_at c places n i h g f =
    let m : length (take n places) ≡ n = length-take-le n places g in
    subst (λ (x : ℕ). x + 16 ≤ length c) (get_or-take n places i 0 h) (each_at (λ (p : ℕ). p + 16 ≤ length c) (take n places) i 0 f (omega arith))
