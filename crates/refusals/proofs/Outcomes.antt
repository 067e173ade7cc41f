-- Laws of outcomes one after the other, and of the answers that tell them.
use mathlib.Core.Path.{◌≡◌, refl, sym, ap, ◌∙◌}
use Prim.Native.Nat.{ℕ}
use Rattle.runs.proofs.Cases.{absurd_eq}
use Rattle.std.specs.Prelude.{Result, Ok, Err}
use Rattle.refusals.specs.declared.Refusal.{Refusal}
use Rattle.refusals.specs.declared.Refused.{Refused}
use Rattle.refusals.specs.Refusals.{refused_at}
use Rattle.refusals.specs.Outcomes.{Outcome, fine, refused, and_then, answered}

-- ONE AFTER THE OTHER

pub then_fine : {X Y : Type 0} {o : Outcome X} {x : X} (f : X → Outcome Y) → o ≡ fine x → and_then o f ≡ f x
unfolding and_then
then_fine f e = ap (λ (p : Outcome _). and_then p f) e

pub then_refused : {X Y : Type 0} {o : Outcome X} {why : Refusal} {p : ℕ} (f : X → Outcome Y) → o ≡ refused why p → and_then o f ≡ refused why p
unfolding and_then
then_refused f e = ap (λ (p : Outcome _). and_then p f) e

pub then_then : {X Y Z : Type 0} (o : Outcome X) (f : X → Outcome Y) (g : Y → Outcome Z) → and_then (and_then o f) g ≡ and_then o (λ x. and_then (f x) g)
unfolding and_then
then_then (fine x) f g = refl
then_then (refused why p) f g = refl

pub then_same : {X Y : Type 0} (f g : X → Outcome Y) → ((x : X) → f x ≡ g x) → (o : Outcome X) → and_then o f ≡ and_then o g
unfolding and_then
then_same f g h (fine x) = h x
then_same f g h (refused why p) = refl

-- a result that is handed on as it is
pub then_id : {X : Type 0} (f : X → Outcome X) → ((x : X) → f x ≡ fine x) → (o : Outcome X) → and_then o f ≡ o
unfolding and_then
then_id f h (fine x) = h x
then_id f h (refused why p) = refl

-- a result of two steps came of a result of the first
pub then_was : {X Y : Type 0} (o : Outcome X) (f : X → Outcome Y) {y : Y} → and_then o f ≡ fine y → (x : X) × (o ≡ fine x) × (f x ≡ fine y)
unfolding and_then
then_was (fine x) f h = (x, refl, h)
then_was (refused why p) f h = absurd_eq (cc)

-- a refusal of two steps is the first one's, or the second one's after a result of the first
pub then_stops : {P X Y : Type 0} (o : Outcome X) (f : X → Outcome Y) {why : Refusal} {p : ℕ} → and_then o f ≡ refused why p → (o ≡ refused why p → P)
    → ((x : X) → o ≡ fine x → f x ≡ refused why p → P) → P
unfolding and_then
then_stops (fine x) f h first second = second x refl h
then_stops (refused w p) f h first second = first (cc)

-- a refusal stands before a result that is handed on
pub then_kept : {X Y : Type 0} (o : Outcome X) (f : X → Y) {why : Refusal} {p : ℕ} → and_then o (λ x. fine (f x)) ≡ refused why p → o ≡ refused why p
unfolding and_then
then_kept (fine x) f h = absurd_eq (cc)
then_kept (refused w p) f h = cc

-- ANSWERS

-- the answer of an outcome that is known
pub answered_fine : {X B : Type 0} (f : X → B) {o : Outcome X} {x : X} → o ≡ fine x → Ok (f x) ≡ answered f o
unfolding answered
answered_fine f e = sym (ap (answered f) e)

pub answered_refused : {X B : Type 0} (f : X → B) {o : Outcome X} {why : Refusal} {p : ℕ} {r : Result B Refused} → o ≡ refused why p → r ≡ Err (refused_at why p) → r ≡ answered f o
unfolding answered
answered_refused f e q = q ∙ sym (ap (answered f) e)

-- the outcome of an answer that is known
pub done_of_lem : {X B : Type 0} (f : X → B) (o : Outcome X) {n : B} → Ok n ≡ answered f o → (x : X) × (o ≡ fine x) × (n ≡ f x)
unfolding answered
done_of_lem f (fine x) e = (x, refl, cc)
done_of_lem f (refused why p) e = absurd_eq (cc)

pub refused_of : {X B : Type 0} (f : X → B) (o : Outcome X) {r : Refused} → Err r ≡ answered f o → o ≡ refused r.why r.place
unfolding answered
refused_of f (fine x) e = absurd_eq (cc)
refused_of f (refused why p) e = let q : _ ≡ refused_at why p = cc in ap (λ (x : Refused). refused x.why x.place) (sym q)

-- a number that is its own count
pub number_of : (o : Outcome ℕ) {n : ℕ} → Ok n ≡ answered (λ (m : ℕ). m) o → o ≡ fine n
number_of o e = let d = done_of_lem (λ (m : ℕ). m) o e in d.1 ∙ ap fine (sym d.2)
