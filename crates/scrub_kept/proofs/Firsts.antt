-- Order of first appearance, of whatever is told apart by a test: one more at the end comes to the end, unless it is there.
use mathlib.Core.Path.{◌≡◌, refl, ap, ◌∙◌}
use mathlib.Core.List.{List, [], ◌∷◌, ◌++◌, append-nil}
use mathlib.Core.Bool.{Bool, true, false, cond, ◌||◌}
use mathlib.Core.Logic.{◌⊎◌, inl, inr}
use Rattle.runs.proofs.Cases.{split}
use Rattle.scrub_kept.proofs.Listed.{or_moved}

-- a name of nothing that is listed
abbrev pub Silent : {A N : Type 0} → (List A → List N → List A) → N → Type 0
Silent {A} {N} order n = (seen : List A) (r : List N) → order seen (n ∷ r) ≡ order seen r

-- `order seen ns` lists what the names ns are of, each where it first appears, but for those of `seen`
pub record Firsts {A N : Type 0} (same : A → A → Bool) (has : A → List A → Bool) (named : A → N) (order : List A → List N → List A) : Type 0 where
  pub has_none : (x : A) → has x [] ≡ false
  pub has_more : (x y : A) (ys : List A) → has x (y ∷ ys) ≡ cond (same y x) true (has x ys)
  pub ends : (seen : List A) → order seen [] ≡ []
  pub first : (seen : List A) (x : A) (r : List N) → order seen (named x ∷ r) ≡ cond (has x seen) (order seen r) (x ∷ order (x ∷ seen) r)
  pub each : (n : N) → ((x : A) × (n ≡ named x)) ⊎ Silent order n

module _ {A N : Type 0} {same : A → A → Bool} {has : A → List A → Bool} {named : A → N} {order : List A → List N → List A} (f : Firsts same has named order) where
  -- names at the end, where what they add goes by what was seen or listed
  module _ (t : List N) (add : List A → List A → List A) (moved : (y : A) (seen o : List A) → add (y ∷ seen) o ≡ add seen (y ∷ o)) where
    added_more : (m : N) (r : List N) (seen : List A) → ((s : List A) → order s (r ++ t) ≡ order s r ++ add s (order s r))
        → ((x : A) × (m ≡ named x)) ⊎ Silent order m → order seen (m ∷ (r ++ t)) ≡ order seen (m ∷ r) ++ add seen (order seen (m ∷ r))
    added_more m r seen i (inr p) = rw (p seen (r ++ t), p seen r) (i seen)
    added_more m r seen i (inl (y, e)) =
        let o = order (y ∷ seen) r in
        rw (e, f.first seen y (r ++ t), f.first seen y r)
        (split (has y seen) (λ g. rw g (i seen)) (λ g. rw g (ap (λ (l : List A). y ∷ l) (i (y ∷ seen) ∙ ap (λ (l : List A). o ++ l) (moved y seen o)))))

    added : ((seen : List A) → order seen t ≡ add seen []) → (seen : List A) (ns : List N) → order seen (ns ++ t) ≡ order seen ns ++ add seen (order seen ns)
    added h seen [] = rw (f.ends seen) (h seen)
    added h seen (m ∷ r) = added_more m r seen (λ s. added h s r) (f.each m)

  pub silent_last : (n : N) → Silent order n → (ns : List N) → order [] (ns ++ (n ∷ [])) ≡ order [] ns
  silent_last n p ns = added (n ∷ []) (λ seen o. []) (λ y seen o. refl) (λ seen. p seen [] ∙ f.ends seen) [] ns ∙ append-nil (order [] ns)

  pub named_last : (x : A) (ns : List N) → order [] (ns ++ (named x ∷ [])) ≡ cond (has x (order [] ns)) (order [] ns) (order [] ns ++ (x ∷ []))
  named_last x ns =
      let add : List A → List A → List A = λ seen o. cond (has x seen || has x o) [] (x ∷ []) in
      let moved : (y : A) (seen o : List A) → add (y ∷ seen) o ≡ add seen (y ∷ o) =
      λ y seen o. simp f.has_more (ap (λ (b : Bool). cond b [] (x ∷ [])) (or_moved (same y x) (has x seen) (has x o))) in
      let begins : (seen : List A) → order seen (named x ∷ []) ≡ add seen [] =
      λ seen. split (has x seen) (λ e. simp (f.first, f.ends, e)) (λ e. simp (f.first, f.ends, f.has_none, e)) in
      let i = added (named x ∷ []) add moved begins [] ns in
      split (has x (order [] ns))
      (λ e. rw e ((simp (f.has_none, e) at i) ∙ append-nil (order [] ns)))
      (λ e. rw e (simp (f.has_none, e) at i))
