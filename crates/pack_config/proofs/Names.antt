-- Names: the search among the first tags of a table, what a mapped tag's name is, and the index of the tags of one byte.
use Prim.Native.Nat.{ℕ, zero, suc, ◌+◌, ◌-◌, ◌<◌, ◌≤◌}
use mathlib.Core.Path.{◌≡◌, refl, sym, ap, ◌∙◌}
use mathlib.Core.List.{List, [], ◌∷◌}
use mathlib.Core.Bool.{Bool, true, false}
use native.Mathlib.Numerals.{add-one}
use native.Mathlib.Omega.{arith}
use lib.Dec.{eqb}
use lib.ListN.{length, get_or, take, drop, drop_of_length-le}
use lib.Seq.{drop-cons, get_or-take, length-take-le}
use borrow.Author.Tests.{eq-eqb, ne_eqb}
use Rattle.runs.specs.Same.{among}
use Rattle.runs.proofs.Cases.{split}
use Rattle.pack.specs.Payloads.{name_from, name_of}
use Rattle.pack_config.specs.Index.{indexed}
use Rattle.pack.specs.declared.Name.{Name}
use Rattle.pack.specs.declared.Name.TheVariants.{Label, Number}

-- the search among the first n tags, at the tag i
module _ (tags : List ℕ) (n i t : ℕ) where
  pub name_hit : i < n → n ≤ length tags → get_or tags i 0 ≡ t → Label i ≡ name_from i (drop i (take n tags)) t
  unfolding name_from
  name_hit h g e =
      let l : length (take n tags) ≡ n = length-take-le n tags g in
      let d : get_or (take n tags) i 0 ≡ t = get_or-take n tags i 0 h ∙ e in
      rw (drop-cons (take n tags) i 0 (omega arith)) (simp (eq-eqb _ _ d))

  pub name_miss : i < n → n ≤ length tags → (get_or tags i 0 ≡ t → ⊥) → name_from (i + 1) (drop (i + 1) (take n tags)) t ≡ name_from i (drop i (take n tags)) t
  unfolding name_from
  name_miss h g e =
      let l : length (take n tags) ≡ n = length-take-le n tags g in
      let d : get_or (take n tags) i 0 ≡ t → ⊥ = λ x. e (sym (get_or-take n tags i 0 h) ∙ x) in
      rw (drop-cons (take n tags) i 0 (omega arith), add-one) (simp (ne_eqb _ _ d))

  pub name_none : n ≤ i → n ≤ length tags → Number t ≡ name_from i (drop i (take n tags)) t
  unfolding name_from
  name_none h g =
      let l : length (take n tags) ≡ n = length-take-le n tags g in
      rw (drop_of_length-le (take n tags) {i = i} (omega arith))

-- a tag is mapped just if its name is a label
mapped : Name → Bool
mapped (Label i) = true
mapped (Number t) = false

among_name : (i : ℕ) (tags : List ℕ) (t : ℕ) → among t tags ≡ mapped (name_from i tags t)
unfolding among name_from mapped
among_name i [] t = refl
among_name i (x ∷ tags) t = split (eqb x t) (λ e. simp e) (λ e. simp e (among_name (suc i) tags t))

pub among_label : (tags : List ℕ) (t i : ℕ) → name_of tags t ≡ Label i → true ≡ among t tags
unfolding mapped
among_label tags t i e = sym (among_name 0 tags t ∙ ap mapped e)

pub among_number : (tags : List ℕ) (t u : ℕ) → name_of tags t ≡ Number u → false ≡ among t tags
unfolding mapped
among_number tags t u e = sym (among_name 0 tags t ∙ ap mapped e)

-- what an entry of the index tells
pub index_none : (k t : ℕ) → k ≡ 0 → Number t ≡ indexed k t
unfolding indexed
index_none zero t e = refl
index_none (suc k) t e = absurd (omega arith)

pub index_some : (k t : ℕ) → (k ≡ 0 → ⊥) → Label (k - 1) ≡ indexed k t
unfolding indexed
index_some zero t e = absurd (e refl)
index_some (suc k) t e = ap Label (let z : suc k - 1 ≡ k = omega arith in z)
