-- The loops that find clear marks, give tags and place them by index.
use mathlib.Core.Path.{◌≡◌, sym, ap, ap₂, ◌∙◌}
use mathlib.Core.List.{List, [], ◌∷◌, ◌++◌, append_assoc, append-nil}
use mathlib.Core.Bool.{Bool, true, false}
use Prim.Native.Nat.{ℕ, suc, ◌+◌, ◌-◌, ◌*◌, ◌<◌, ◌≤◌}
use native.Mathlib.Omega.{arith}
use native.Mathlib.Numerals.{add-one}
use lib.ListN.{length, drop, get_or, set, length-append, drop_of_length-le}
use lib.Seq.{drop-cons}
use Rattle.pack.specs.Fixed.{item_cap}
use Rattle.pack.specs.Slots.{padded}
use Rattle.pack.proofs.Padded.{set_padded}
use Rattle.scrub_config.specs.declared.Mapping.{Mapping}
use Rattle.scrub_names.specs.Given.{clear_from, clear_at, given, unmapped, mapped, by_index}

-- the next clear mark
module _ (taken : List Bool) (n : ℕ) where
  pub clear_here : n < 64 → get_or taken n false ≡ false → n ≡ clear_at taken n
  unfolding clear_from
  clear_here h e = let k = 64 - n - 1 in let p : 64 - n ≡ suc k = omega arith in rw (p, e)

  pub clear_next : n < 64 → get_or taken n false ≡ true → clear_at taken n ≡ clear_at taken (n + 1)
  unfolding clear_from
  clear_next h e =
      let k = 64 - n - 1 in
      let p : 64 - n ≡ suc k = omega arith in
      let q : 64 - (n + 1) ≡ k = omega arith in
      rw (p, e) (ap₂ (λ (a b : ℕ). clear_from a taken b) (sym q) (sym (add-one n)))

  pub clear_end : 64 ≤ n → n ≡ clear_at taken n
  unfolding clear_from
  clear_end h = let p : 64 - n ≡ 0 = omega arith in rw p

-- labels that are mapped: `done` so far, and those that are left, whose tags are given from the mark `next` on
pub record Giving (places order : List ℕ) (taken : List Bool) (mappings : List Mapping) (next k : ℕ) : Type 0 where
  pub done : List Mapping
  pub full : mappings ≡ padded item_cap unmapped done
  pub size : length done ≡ k
  pub near : next ≤ 65 * k
  pub whole : done ++ mapped places (drop k order) (given taken next (length order - k)) ≡ mapped places order (given taken 0 (length order))

module _ {places order : List ℕ} {taken : List Bool} {mappings : List Mapping} {next k : ℕ} (g : Giving places order taken mappings next k) where
  pub giving_step : (n i : ℕ) → length order ≤ 64 → k < length order → n ≤ next + 64 → n ≡ clear_at taken next → i ≡ get_or order k 0
      → Giving places order taken (set mappings k (record { index = i; place = get_or places i 0; tag = 64 + n })) (n + 1) (k + 1)
  unfolding given mapped
  giving_step n i m h b e f =
      let j = length order - k - 1 in
      let p : length order - k ≡ suc j = omega arith in
      let q : length order - (k + 1) ≡ j = omega arith in
      let here : drop k order ≡ i ∷ drop (k + 1) order = drop-cons order k 0 h ∙ ap₂ (λ (x n : ℕ). x ∷ drop n order) (sym f) (sym (add-one k)) in
      let x : Mapping = record { index = i; place = get_or places i 0; tag = 64 + n } in
      let rest = mapped places (drop (k + 1) order) (given taken (n + 1) (length order - (k + 1))) in
      let z = g.size in
      let y = g.near in
      record {
        done = g.done ++ (x ∷ []);
        full = ap (λ (l : List Mapping). set l k x) g.full ∙ set_padded item_cap unmapped g.done k g.size x (omega arith);
        size = omega (arith, length-append g.done (x ∷ []));
        near = omega arith;
        whole =
            append_assoc g.done (x ∷ []) rest
            ∙ ap (λ (l : List Mapping). g.done ++ l)
            (ap₂ (λ (a c : ℕ). x ∷ mapped places (drop (k + 1) order) (given taken a c)) (add-one n) q
            ∙ ap (λ (a : ℕ). mapped places (i ∷ drop (k + 1) order) ((64 + a) ∷ given taken (suc a) j)) e
            ∙ ap₂ (λ (l : List ℕ) (c : ℕ). mapped places l (given taken next c)) (sym here) (sym p))
            ∙ g.whole;
      }

  pub giving_ends : length order ≤ k → mappings ≡ padded item_cap unmapped (mapped places order (given taken 0 (length order)))
  unfolding mapped
  giving_ends h =
      let e : drop k order ≡ [] = drop_of_length-le order {i = k} h in
      g.full
      ∙ ap (padded item_cap unmapped) (sym (append-nil g.done) ∙ ap (λ (l : List ℕ). g.done ++ mapped places l (given taken next (length order - k))) (sym e) ∙ g.whole)

-- tags that are placed by index, from the last mapping to the first
pub placing_step : (ms : List Mapping) (index : List ℕ) (k : ℕ) (d : Mapping) → index ≡ by_index (drop k ms) → 0 < k → k ≤ length ms
    → set index (get_or ms (k - 1) d).index (get_or ms (k - 1) d).tag ≡ by_index (drop (k - 1) ms)
unfolding by_index
placing_step ms index k d e some most =
    let j = k - 1 in
    let m = get_or ms j d in
    let here : drop j ms ≡ m ∷ drop k ms = drop-cons ms j d (omega arith) ∙ ap (λ (n : ℕ). m ∷ drop n ms) (let z : suc j ≡ k = omega arith in z) in
    ap (λ (x : List ℕ). set x m.index m.tag) e ∙ sym (ap by_index here)
