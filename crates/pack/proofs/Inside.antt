-- What a loop over the inside of a Sync keeps: the payloads so far, before what is left, are those of the inside.
use Prim.Native.Nat.{ℕ, ◌+◌, ◌-◌, ◌<◌, ◌≤◌}
use mathlib.Core.Path.{◌≡◌, refl, sym, ap, ◌∙◌}
use mathlib.Core.List.{List, [], ◌∷◌, ◌++◌, append_assoc, append-nil}
use native.Mathlib.Nat.{add-zero}
use native.Mathlib.Omega.{arith}
use lib.ListN.{length, length-append}
use Rattle.runs.proofs.Cases.{absurd_eq}
use Rattle.refusals.specs.declared.Refusal.{Refusal}
use Rattle.refusals.specs.Outcomes.{Answer}
use Rattle.std.specs.Prelude.{Ok, Err}
use Rattle.refusals.specs.Refusals.{refused_at}
use Rattle.refusals.specs.Outcomes.{Outcome, fine, refused, and_then}
use Rattle.pack.specs.Payloads.{inner_at, Ground, payload, inners_from}
use Rattle.pack.specs.declared.Payload.{Payload}
use Rattle.pack.specs.Payloads.{Found, whole, wrong}
use Rattle.refusals.proofs.Lent.{answers, counts}
use Rattle.refusals.proofs.Outcomes.{then_fine, then_refused, then_then, then_same, then_id}
use Rattle.pack.proofs.Payloads.{inner_within}
use Rattle.pack.proofs.Turns.{inners_on, inners_end, inners_turn}
use Rattle.pack.specs.Inside.{InsideTold}

abbrev after : {A : Type 0} → List A → List A → Outcome (List A)
after xs ys = fine (xs ++ ys)

pub record WithinSync (q : List ℕ) (grounds : Ground) (base fuel₀ used : ℕ) (xs : List Payload) (k j : ℕ) : Type 0 where
  pub fuel : ℕ
  pub room : k ≤ 64
  pub long : used + length xs ≡ k
  pub within : j ≤ length q
  pub enough : length q ≤ j + fuel
  pub same : and_then (inners_from fuel q grounds base j k) (after xs) ≡ inners_from fuel₀ q grounds base 0 used

pub inside_begins : (q : List ℕ) (grounds : Ground) (base fuel used : ℕ) → used ≤ 64 → length q ≤ fuel → WithinSync q grounds base fuel used [] used 0
inside_begins q grounds base fuel used h g = record {
  fuel = fuel;
  room = h;
  long = add-zero used;
  within = omega arith;
  enough = omega arith;
  same = then_id (after []) (λ x. refl) (inners_from fuel q grounds base 0 used);
}

module _ {q : List ℕ} {grounds : Ground} {base fuel₀ used : ℕ} {xs : List Payload} {k j : ℕ} (g : WithinSync q grounds base fuel₀ used xs k j) where
  pub inside_ends : length q ≤ j → inners_from fuel₀ q grounds base 0 used ≡ fine xs
  inside_ends h = sym g.same ∙ then_fine (after xs) (inners_end q grounds base j k g.fuel h) ∙ ap fine (append-nil xs)

  module _ (h : j < length q) where
    turn : {r : Found} → inner_at q j k ≡ r → inners_from g.fuel q grounds base j k ≡ inners_on q grounds base j k (g.fuel - 1) r
    turn e = inners_turn q grounds base j k (g.fuel - 1) (omega (arith, g.enough)) h e

    pub inside_stops : {why : Refusal} → inner_at q j k ≡ wrong why → inners_from fuel₀ q grounds base 0 used ≡ refused why (base + j)
    inside_stops e = sym g.same ∙ then_refused (after xs) (turn e)

    pub inside_on : {t v l : ℕ} → inner_at q j k ≡ whole t v l → WithinSync q grounds base fuel₀ used (xs ++ (payload grounds (base + j) t (base + v) l ∷ [])) (k + 1) (v + l)
    unfolding and_then
    inside_on {t} {v} {l} e =
        let w = inner_within q j k t v l e in
        let x = payload grounds (base + j) t (base + v) l in
        let left = inners_from (g.fuel - 1) q grounds base (v + l) (k + 1) in
        record {
          fuel = g.fuel - 1;
          room = omega (arith, w.room);
          long = omega (arith, length-append xs (x ∷ []), g.long);
          within = w.inside;
          enough = omega (arith, g.enough, w.later);
          same =
              then_same (after (xs ++ (x ∷ []))) (λ ys. after xs (x ∷ ys)) (λ ys. ap fine (append_assoc xs (x ∷ []) ys)) left
              ∙ sym (then_then left (λ ys. fine (x ∷ ys)) (after xs))
              ∙ ap (λ (o : Outcome (List Payload)). and_then o (after xs)) (sym (turn e))
              ∙ g.same;
        }

-- the same for some payloads
pub record SomeWithin (q : List ℕ) (grounds : Ground) (base fuel used k j : ℕ) : Type 0 where
  pub xs : List Payload
  pub inside : WithinSync q grounds base fuel used xs k j

-- what is told when the loop is through, and where it stops
module _ {q : List ℕ} {grounds : Ground} {base used k j : ℕ} (g : (fuel : ℕ) → length q ≤ fuel → SomeWithin q grounds base fuel used k j) where
  pub inside_done : length q ≤ j → InsideTold q grounds base used (Ok k)
  inside_done z = record {
    told = λ fuel h. let w = (g fuel h).inside in counts (λ (xs : List Payload). used + length xs) (inside_ends w z) (ap Ok (sym w.long));
    few = λ n e. let x : k ≡ n = cc in omega (arith, (g (length q) (omega arith)).inside.room);
  }

  pub inside_refused : j < length q → {why : Refusal} → inner_at q j k ≡ wrong why → {r : Answer} → r ≡ Err (refused_at why (base + j)) → InsideTold q grounds base used r
  inside_refused h e i = record { told = λ fuel l. answers _ (inside_stops (g fuel l).inside h e) i; few = λ n d. absurd_eq (cc) }
