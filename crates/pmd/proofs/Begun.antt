-- A list that was begun: xs, before what comes from here on, is the whole outcome. The laws say what a step, a refusal, the end and the room that
-- the whole has make of it.
use Prim.Native.Nat.{ℕ, ◌≤◌}
use mathlib.Core.Path.{◌≡◌, sym, ap, ◌∙◌}
use mathlib.Core.List.{List, [], ◌++◌, append-nil}
use native.Mathlib.Omega.{arith}
use lib.ListN.{length, length-append}
use Rattle.runs.proofs.Cases.{absurd_eq}
use Rattle.refusals.specs.Outcomes.{Outcome, fine, refused, and_then}
use Rattle.refusals.specs.Lent.{prepend}
use Rattle.refusals.specs.declared.Refusal.{Refusal}
use Rattle.refusals.proofs.Lent.{prepend_none, prepend_prepend, prepend_fine}
use Rattle.pmd.specs.Shapes.{Roomy}

pub record Begun (whole : Outcome (List ℕ)) (xs : List ℕ) (rest : Outcome (List ℕ)) : Type 0 where
  pub same : prepend xs rest ≡ whole

pub begun_none : (o : Outcome (List ℕ)) → Begun o [] o
begun_none o = record { same = prepend_none o }

module _ {whole rest : Outcome (List ℕ)} {xs : List ℕ} (b : Begun whole xs rest) where
  pub begun_on : (ys : List ℕ) {next : Outcome (List ℕ)} → rest ≡ prepend ys next → Begun whole (xs ++ ys) next
  begun_on ys {next} e = record { same = prepend_prepend xs ys next ∙ ap (prepend xs) (sym e) ∙ b.same }

  pub begun_as : {other : Outcome (List ℕ)} → rest ≡ other → Begun whole xs other
  begun_as e = record { same = ap (prepend xs) (sym e) ∙ b.same }

  pub begun_refused : {why : Refusal} {place : ℕ} → rest ≡ refused why place → whole ≡ refused why place
  unfolding and_then
  begun_refused e = sym b.same ∙ ap (prepend xs) e

  pub begun_ends : rest ≡ fine [] → whole ≡ fine xs
  unfolding and_then
  begun_ends e = sym b.same ∙ ap (prepend xs) e ∙ ap fine (append-nil xs)

  pub begun_fits : {room : ℕ} → Roomy whole room → length xs ≤ room
  begun_fits roomy = let o = prepend_fine xs rest roomy.list (b.same ∙ roomy.is) in omega (arith, ap length o.2, length-append xs o.0, roomy.fits)

-- an outcome that has room is no refusal
pub roomy_never : {A : Type 0} {o : Outcome (List ℕ)} {room : ℕ} {why : Refusal} {place : ℕ} → Roomy o room → o ≡ refused why place → A
roomy_never {why = why} {place} roomy e = let q : refused why place ≡ fine roomy.list = sym e ∙ roomy.is in absurd_eq (cc)
