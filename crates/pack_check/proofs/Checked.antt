-- The answer of a check: the opening is refused, or the items are counted from where they start on.
use Prim.Native.Nat.{ℕ}
use mathlib.Core.Path.{◌≡◌, refl, sym, ap, ◌∙◌}
use mathlib.Core.List.{List}
use lib.ListN.{length}
use Rattle.refusals.specs.declared.Refusal.{Refusal}
use Rattle.std.specs.Prelude.{Err}
use Rattle.refusals.specs.Refusals.{refused_at}
use Rattle.refusals.specs.Outcomes.{Outcome, fine, refused, and_then, answered, Answer}
use Rattle.pack.specs.Payloads.{Ground}
use Rattle.pack.specs.Items.{Body, items_from, count_of}
use Rattle.pack.specs.Reading.{Read, Opening, pack_ground, read_from, checked}
use Rattle.refusals.proofs.Lent.{answers}
use Rattle.refusals.proofs.Outcomes.{then_fine, then_refused}
use Rattle.pack.proofs.Turns.{opening, reading_opens}
use Rattle.pack_check.specs.Counts.{counted}

body_count : (x : Opening) (o : Outcome Body)
    → answered counted o ≡ answered (λ (r : Read). count_of r.body.parts) (and_then o (λ b. fine (record { offset = x.offset; mappings = x.mappings; body = b })))
unfolding answered and_then
body_count x (fine b) = refl
body_count x (refused why p) = refl

module _ (s : List ℕ) where
  pub checked_stops : {why : Refusal} {p : ℕ} → opening s ≡ refused why p → Err (refused_at why p) ≡ checked s
  unfolding checked
  checked_stops e = answers _ (reading_opens s ∙ then_refused (read_from s) e) refl

  -- a count of the items from where they start on, which holds for any ground
  pub checked_next : {o : Opening} {n : ℕ} {a : Answer} → opening s ≡ fine o → n ≡ o.next
      → ((grounds : Ground) → a ≡ answered counted (items_from (length s) s grounds n 0)) → a ≡ checked s
  unfolding checked read_from
  checked_next {o} e next h =
      let grounds = pack_ground o.offset o.mappings in
      h grounds
      ∙ ap (λ (k : ℕ). answered counted (items_from (length s) s grounds k 0)) next
      ∙ body_count o (items_from (length s) s grounds o.next 0)
      ∙ sym (ap (answered (λ (r : Read). count_of r.body.parts)) (reading_opens s ∙ then_fine (read_from s) e))
