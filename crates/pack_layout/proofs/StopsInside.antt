-- A refusal among the payloads of a Sync says what is wrong: where the reader stops, well-formed payloads stand before, and none stands there.
use mathlib.Core.Path.{◌≡◌, refl, sym, ap, subst, ◌∙◌}
use mathlib.Core.List.{List, [], ◌∷◌, ◌++◌, append_assoc}
use mathlib.Core.Bool.{true}
use Prim.Native.Nat.{ℕ, zero, suc, ◌+◌, ◌-◌, ◌<◌, ◌≤◌}
use native.Mathlib.Omega.{arith}
use lib.Dec.{ltb, leb}
use lib.ListN.{length, drop}
use borrow.Author.Tests.{ltb-true, leb-true, leb-false}
use Rattle.runs.specs.Digits.{Bytes}
use Rattle.runs.proofs.Cases.{split, absurd_eq}
use Rattle.refusals.specs.declared.Refusal.{Refusal}
use Rattle.refusals.specs.Outcomes.{Outcome, fine, refused}
use Rattle.refusals.proofs.Outcomes.{then_kept}
use Rattle.pack.specs.Fixed.{item_cap}
use Rattle.pack.specs.Payloads.{payload_at, inner_at, Ground, payload, inners_from, Found, whole}
use Rattle.std.specs.Prelude.{Ok, Err}
use Rattle.pack.specs.declared.Payload.{Payload}
use Rattle.pack.proofs.Payloads.{payload_within}
use Rattle.pack_layout.specs.Layout.{Element, element, elements_bytes}
use Rattle.pack_layout.specs.Well.{WellElements}
use Rattle.pack_layout.specs.Refused.{NoInner, inner_broken, inner_fixed, inner_too_many}
use Rattle.pack_layout.proofs.Parts.{left_place}
use Rattle.pack_layout.proofs.Elements.{has_laid}
use Rattle.pack_layout.proofs.Accepts.{inner_turn}
use Rattle.pack_layout.proofs.Described.{element_described}
use Rattle.pack_layout.proofs.Broken.{element_broken}

-- the elements that stand from `at` of q on, before what is none
pub record InnersStop (q : List ℕ) (base at used : ℕ) (why : Refusal) (place : ℕ) : Type 0 where
  pub elements : List Element
  pub left : List ℕ
  pub well : WellElements elements
  pub stands : drop at q ≡ elements_bytes elements ++ left
  pub few : used + length elements ≤ item_cap
  pub wrong : NoInner left (used + length elements) why
  pub there : place ≡ base + (length q - length left)

module _ (q : List ℕ) (grounds : Ground) (base : ℕ) (b : Bytes q) where
  -- nothing is right from `at` on
  stop_inner : {why w : Refusal} {place : ℕ} (at used : ℕ) → at < length q → used ≤ item_cap → ◌≡◌ {A = Outcome (List Payload)} (refused w (base + at)) (refused why place)
      → NoInner (drop at q) used w → InnersStop q base at used why place
  unfolding elements_bytes
  stop_inner {why} {w} {place} at used i u h n =
      let same : w ≡ why = cc in
      let there : base + at ≡ place = cc in
      let left = left_place q at i in
      let zero_more : used ≡ used + 0 = omega arith in
      record {
        elements = [];
        left = drop at q;
        well = tt;
        stands = refl;
        few = omega arith;
        wrong = subst (λ (m : ℕ). NoInner (drop at q) m why) zero_more (subst (NoInner (drop at q) used) same n);
        there = omega arith;
      }

  -- one element more before what is none
  more_inner : {why : Refusal} {place : ℕ} (at used t v l : ℕ) → payload_at q at ≡ whole t v l → 3 < t
      → InnersStop q base (v + l) (used + 1) why place → InnersStop q base at used why place
  unfolding elements_bytes
  more_inner {why} at used t v l e h r =
      let d = element_described q at t v l b e h in
      let x = d.one in
      let xs = r.elements in
      let bytes = element x.tag x.form x.value in
      let count : used + 1 + length xs ≡ used + suc (length xs) = omega arith in
      record {
        elements = x ∷ xs;
        left = r.left;
        well = (d.well, r.well);
        stands = d.stands ∙ ap (λ (y : List ℕ). bytes ++ y) r.stands ∙ sym (append_assoc bytes (elements_bytes xs) r.left);
        few = omega (arith, r.few);
        wrong = subst (λ (m : ℕ). NoInner r.left m why) count r.wrong;
        there = r.there;
      }

  -- the payloads from `at` on, with enough steps left
  pub inners_stop : (k at used : ℕ) {why : Refusal} {place : ℕ} → length q ≤ at + k → used ≤ item_cap → inners_from k q grounds base at used ≡ refused why place
      → InnersStop q base at used why place
  unfolding inners_from inner_at
  inners_stop zero at used g u h = absurd_eq (cc)
  inners_stop (suc k) at used {why} {place} g u h =
      split (ltb at (length q))
      (λ a. found (λ m n i r e. inners_stop k m n i r e) (payload_at q at) refl a)
      (λ a. let i : fine [] ≡ refused why place = simp a at h in absurd_eq (cc))
    where
      found : ((m n : ℕ) → length q ≤ m + k → n ≤ item_cap → inners_from k q grounds base m n ≡ refused why place → InnersStop q base m n why place)
          → (f : Found) → payload_at q at ≡ f → ltb at (length q) ≡ true → InnersStop q base at used why place
      found ih (Err w) e a =
          let i : at < length q = ltb-true _ _ a in
          stop_inner at used i u (simp (a, e) at h) (inner_broken (element_broken q at w b i e))
      found ih (Ok x) e a =
          let t = x.tag in
          let v = x.value.start in
          let l = x.value.len in
          let i : at < length q = ltb-true _ _ a in
          let has = has_laid q at t v l b e in
          split (leb t 3)
          (λ x. stop_inner at used i u (simp (a, e, x) at h) (inner_fixed t _ _ has (leb-true _ _ x)))
          (λ x. split (leb item_cap used)
          (λ y. stop_inner at used i u (simp (a, e, x, y) at h) (inner_too_many t _ _ has (leb-false _ _ x) (leb-true _ _ y)))
          (λ y. let above : 3 < t = leb-false _ _ x in
          let room : used < item_cap = leb-false _ _ y in
          let next = payload_within q at t v l e in
          let stops = then_kept (inners_from k q grounds base (v + l) (used + 1)) (λ ys. payload grounds (base + at) t (base + v) l ∷ ys)
          (sym (inner_turn q grounds base k at used t v l i e above room) ∙ h) in
          more_inner at used t v l e above (ih (v + l) (used + 1) (omega arith) (omega arith) stops)))
