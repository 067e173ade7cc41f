-- Two outcomes of a function over the exports that meet its contract on the same input coincide, lent runs included.
use Prim.Native.Nat.{ℕ}
use mathlib.Core.Path.{◌≡◌, sym, ap, ap₂, subst, ◌∙◌}
use mathlib.Core.List.{List}
use lib.Dec.{eqb}
use lib.ListN.{take}
use borrow.Author.Tests.{eqb-true, eqb-false}
use Rattle.runs.proofs.Cases.{split, one}
use Rattle.refusals.proofs.One.{lends_one}
use Rattle.ballastwren.specs.Told.{BwRead, BwScrub, BwPmdRead, BwPmdWrite}
use Rattle.ballastwren.specs.declared.Told.{Told}
use Rattle.ballastwren.specs.declared.ToldFound.{ToldFound}
use Rattle.ballastwren.specs.declared.ToldGain.{ToldGain}
use Rattle.demands.specs.Demands.{InTurn, ScrubTwo, ScrubAndRead, ReadAndWrite, WriteAndRead, CheckAndRead, CheckSheetAndScrub, CheckAndLookUp, TellGain}

-- two calls in turn, each of which has one outcome
in_turn_one : (First : Told → List ℕ → Type 0) (Second : List ℕ → Told → List ℕ → Type 0) {D E : Type 0} {before run xs ys us vs : List ℕ} {a b c d : Told}
    → ((a c : Told) (xs us : List ℕ) → First a xs → First c us → (a ≡ c) × (xs ≡ us))
    → ((part : List ℕ) (b d : Told) (ys vs : List ℕ) → Second part b ys → Second part d vs → (b ≡ d) × (ys ≡ vs))
    → InTurn First Second D before run a xs b ys → InTurn First Second E before run c us d vs → ((a ≡ c) × (xs ≡ us)) × ((b ≡ d) × (ys ≡ vs))
in_turn_one First Second {xs = xs} {ys} {us} {vs} {a} {b} {c} {d} single then p q =
    let same = single a c xs us p.first q.first in
    let number = ap (λ (t : Told). t.number) same.0 in
    let part = ap₂ (λ (t : Told) (l : List ℕ). take t.value l) same.0 same.1 in (
      same,
      split (eqb a.number 0)
          (λ e. let zero = eqb-true a.number 0 e in
          then (take c.value us) b d ys vs (subst (λ (l : List ℕ). Second l b ys) part (p.second zero)) (q.second (sym number ∙ zero)))
          (λ e. let h = eqb-false a.number 0 e in
          let g = q.omitted (λ z. h (number ∙ z)) in
          ((p.omitted h).0 ∙ same.0 ∙ sym g.0, one (p.omitted h).1 g.1)),
    )

pub scrub_two_one : (sheet s t before other us vs xs ys : List ℕ) (a b c d : Told)
    → ScrubTwo sheet s t before other a us b vs → ScrubTwo sheet s t before other c xs d ys → ((a ≡ c) × (us ≡ xs)) × ((b ≡ d) × (vs ≡ ys))
scrub_two_one sheet s t before other us vs xs ys a b c d p q = (lends_one p.first q.first, lends_one p.second q.second)

pub scrub_and_read_one : (sheet s before run us vs xs ys : List ℕ) (a b c d : Told)
    → ScrubAndRead sheet s before run a us b vs → ScrubAndRead sheet s before run c xs d ys → ((a ≡ c) × (us ≡ xs)) × ((b ≡ d) × (vs ≡ ys))
scrub_and_read_one sheet s before run us vs xs ys a b c d p q = in_turn_one (BwScrub sheet s before) (λ part. BwRead part run) (λ a c xs us. lends_one) (λ part b d ys vs. lends_one) p q

pub read_and_write_one : (kind : ℕ) (value before run us vs xs ys : List ℕ) (a b c d : Told)
    → ReadAndWrite kind value before run a us b vs → ReadAndWrite kind value before run c xs d ys → ((a ≡ c) × (us ≡ xs)) × ((b ≡ d) × (vs ≡ ys))
read_and_write_one kind value before run us vs xs ys a b c d p q = in_turn_one (BwPmdRead kind value before) (λ part. BwPmdWrite kind part run) (λ a c xs us. lends_one) (λ part b d ys vs. lends_one) p q

pub write_and_read_one : (kind : ℕ) (numbers before run us vs xs ys : List ℕ) (a b c d : Told)
    → WriteAndRead kind numbers before run a us b vs → WriteAndRead kind numbers before run c xs d ys → ((a ≡ c) × (us ≡ xs)) × ((b ≡ d) × (vs ≡ ys))
write_and_read_one kind numbers before run us vs xs ys a b c d p q = in_turn_one (BwPmdWrite kind numbers before) (λ part. BwPmdRead kind part run) (λ a c xs us. lends_one) (λ part b d ys vs. lends_one) p q

pub check_and_read_one : (pack run us vs : List ℕ) (a b c d : Told)
    → CheckAndRead pack run a b us → CheckAndRead pack run c d vs → (a ≡ c) × ((b ≡ d) × (us ≡ vs))
check_and_read_one pack run us vs a b c d p q = (one p.first q.first, lends_one p.second q.second)

pub check_sheet_and_scrub_one : (sheet s before us vs : List ℕ) (a b c d : Told)
    → CheckSheetAndScrub sheet s before a b us → CheckSheetAndScrub sheet s before c d vs → (a ≡ c) × ((b ≡ d) × (us ≡ vs))
check_sheet_and_scrub_one sheet s before us vs a b c d p q = (one p.first q.first, lends_one p.second q.second)

pub check_and_look_up_one : (main backup l : List ℕ) (c d e f : Told) (a b : ToldFound)
    → CheckAndLookUp main backup l c d a → CheckAndLookUp main backup l e f b → (c ≡ e) × ((d ≡ f) × (a ≡ b))
check_and_look_up_one main backup l c d e f a b p q = (one p.main_checked q.main_checked, (one p.backup_checked q.backup_checked, one p.call q.call))

pub tell_gain_one : (gain : ℕ) (a b : ToldGain) → TellGain gain a → TellGain gain b → a ≡ b
tell_gain_one gain a b p q = one p.call q.call
