-- What is delivered into a lent run that has to have room: nothing of a refusal, nothing of a list that is too long, else the list.
use Prim.Native.Nat.{ℕ, ◌<◌, ◌≤◌}
use mathlib.Core.Path.{◌≡◌, sym, ap, subst, ◌∙◌}
use mathlib.Core.List.{List}
use lib.ListN.{length}
use Rattle.refusals.specs.Outcomes.{Outcome, fine, refused, and_then, Answer}
use Rattle.refusals.specs.declared.Refusal.{Refusal}
use Rattle.refusals.specs.declared.Refusal.TheVariants as R
use Rattle.std.specs.Prelude.{Err}
use Rattle.refusals.specs.Refusals.{refused_at}
use Rattle.refusals.specs.Lent.{within, Delivered}
use Rattle.refusals.proofs.Lent.{fine_within, none_within, delivered_refused}

module _ {o : Outcome (List ℕ)} {before : List ℕ} {r : Answer} where
  pub delivers_none : {why : Refusal} {place : ℕ} → o ≡ refused why place → r ≡ Err (refused_at why place) → Delivered (within (length before) o) before r before
  unfolding and_then
  delivers_none e h = delivered_refused (ap (within (length before)) e) h

  module _ {xs : List ℕ} (e : o ≡ fine xs) where
    pub delivers_noroom : length before < length xs → r ≡ Err (refused_at R.NoRoom 0) → Delivered (within (length before) o) before r before
    delivers_noroom l h = delivered_refused (ap (within (length before)) e ∙ none_within (length before) xs l) h

    pub delivers_all : {after : List ℕ} → length xs ≤ length before → Delivered o before r after → Delivered (within (length before) o) before r after
    delivers_all {after} l d =
        subst (λ (p : Outcome (List ℕ)). Delivered p before r after) (e ∙ sym (ap (within (length before)) e ∙ fine_within (length before) xs l)) d

  -- what is delivered of one outcome is delivered of its equal
  pub delivers_as : {p : Outcome (List ℕ)} {after : List ℕ} → o ≡ p → Delivered (within (length before) p) before r after → Delivered (within (length before) o) before r after
  delivers_as {after = after} e d = subst (λ (q : Outcome (List ℕ)). Delivered (within (length before) q) before r after) (sym e) d
