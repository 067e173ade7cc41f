-- What was found first: of one list after another, of a payload by its tag, and of one part of a pack more.
use mathlib.Core.Path.{◌≡◌, refl, sym, ap, ap₂, ◌∙◌}
use mathlib.Core.List.{List, [], ◌∷◌, ◌++◌, append_assoc, append-nil}
use mathlib.Core.Bool.{Bool, true, false}
use Prim.Native.Nat.{ℕ}
use borrow.Author.Tests.{eq-eqb, ne_eqb}
use Rattle.std.specs.Prelude.{Option, Some, None, cond}
use Rattle.std.specs.Option.{option_or, unwrap_or}
use Rattle.runs.specs.Those.{those}
use Rattle.runs.proofs.Cases.{split}
use Rattle.runs.proofs.Those.{those_append}
use Rattle.pack.specs.Payloads.{Ground, payload}
use Rattle.pack.specs.Items.{Part, one, many}
use Rattle.pack.specs.declared.Name.{Name}
use Rattle.pack.specs.declared.Payload.{Payload}
use Rattle.pack.specs.declared.Head.{Head}
use Rattle.lookup.specs.Lookup.{payloads_of}
use Rattle.lookup.specs.Sought.{spot_of, first_at, first_in, is_wanted, of_tag, Tells}
use Rattle.lookup.specs.declared.Spot.{Spot}

first_append : (xs ys : List Payload) → first_at (xs ++ ys) ≡ option_or (first_at xs) (first_at ys)
first_append [] ys = refl
first_append (x ∷ xs) ys = refl

pub or_none : (x : Option Spot) → x ≡ option_or x None
or_none None = refl
or_none (Some x) = refl

-- a payload's tag, which is not Config's, is the one that is sought, or is not
pub tag_same : (wanted : Option ℕ) (t : ℕ) → (t ≡ 1 → ⊥) → t ≡ unwrap_or wanted 1 → is_wanted wanted t ≡ true
tag_same None t other e = absurd (other e)
tag_same (Some tag) t other e = eq-eqb _ _ (sym e)

pub tag_other : (wanted : Option ℕ) (t : ℕ) → (t ≡ unwrap_or wanted 1 → ⊥) → is_wanted wanted t ≡ false
tag_other None t e = refl
tag_other (Some tag) t e = ne_eqb _ _ (λ x. e (sym x))

-- what was found before, or else a payload, by the test of its tag
module _ (wanted : Option ℕ) (t start len total : ℕ) {b : Bool} (e : is_wanted wanted t ≡ b) where
  pub or_tag : (first : Option Spot) {next : Option Spot} → next ≡ option_or first (cond b (Some (spot_of start len total)) None) → next ≡ option_or first (of_tag wanted t start len total)
  unfolding of_tag
  or_tag first is = is ∙ sym (ap (λ (x : Bool). option_or first (cond x (Some (spot_of start len total)) None)) e)

module _ (test : Name → Bool) where
  in_append : (xs ys : List Payload) → first_in test (xs ++ ys) ≡ option_or (first_in test xs) (first_in test ys)
  in_append xs ys =
      let passes : Payload → Bool = λ x. test x.name in
      ap first_at (those_append passes xs ys) ∙ first_append (those passes xs) (those passes ys)

  -- one payload more
  pub payload_more : (grounds : Ground) (wanted : Option ℕ) → Tells grounds.tags test wanted → (xs : List Payload) {first next : Option Spot} (start t v l : ℕ)
      → first ≡ first_in test xs → next ≡ option_or first (of_tag wanted t v l grounds.total) → next ≡ first_in test (xs ++ (payload grounds start t v l ∷ []))
  unfolding those of_tag
  payload_more grounds wanted tells xs start t v l found is =
      let one : of_tag wanted t v l grounds.total ≡ first_in test (payload grounds start t v l ∷ []) =
      split (is_wanted wanted t) (λ e. simp (tells t ∙ e, e)) (λ e. simp (tells t ∙ e, e)) in
      is ∙ ap₂ option_or found one ∙ sym (in_append xs (payload grounds start t v l ∷ []))

  -- one part more
  more : (ps : List Part) (x : Part) → payloads_of (ps ++ (x ∷ [])) ≡ payloads_of ps ++ payloads_of (x ∷ [])
  unfolding payloads_of
  more [] x = refl
  more (one y ∷ ps) x = ap (λ (xs : List Payload). y ∷ xs) (more ps x)
  more (many h ys ∷ ps) x = ap (λ (xs : List Payload). ys ++ xs) (more ps x) ∙ sym (append_assoc ys (payloads_of ps) (payloads_of (x ∷ [])))

  pub plain_more : (grounds : Ground) (wanted : Option ℕ) → Tells grounds.tags test wanted → (ps : List Part) {first next : Option Spot} (start t v l : ℕ)
      → first ≡ first_in test (payloads_of ps) → next ≡ option_or first (of_tag wanted t v l grounds.total)
      → next ≡ first_in test (payloads_of (ps ++ (one (payload grounds start t v l) ∷ [])))
  unfolding payloads_of
  plain_more grounds wanted tells ps start t v l found is =
      payload_more grounds wanted tells (payloads_of ps) start t v l found is ∙ sym (ap (first_in test) (more ps (one (payload grounds start t v l))))

  pub sync_more : (ps : List Part) (h : Head) (xs : List Payload) {first inside next : Option Spot} → first ≡ first_in test (payloads_of ps) → inside ≡ first_in test xs
      → next ≡ option_or first inside → next ≡ first_in test (payloads_of (ps ++ (many h xs ∷ [])))
  unfolding payloads_of
  sync_more ps h xs found inner is =
      is ∙ ap₂ option_or found (inner ∙ sym (ap (first_in test) (append-nil xs)))
      ∙ sym (ap (first_in test) (more ps (many h xs)) ∙ in_append (payloads_of ps) (payloads_of (many h xs ∷ [])))
