-- What is told of a sheet that is judged alone: its entries are as many as its two counts say.
use mathlib.Core.Path.{◌≡◌, refl, ap₂, subst}
use mathlib.Core.List.{List}
use Rattle.std.specs.Prelude.{Ok, Err}
use Prim.Native.Nat.{ℕ, ◌+◌, ◌*◌, ◌≤◌}
use native.Mathlib.Omega.{arith}
use lib.ListN.{length}
use Rattle.refusals.specs.declared.Refused.{Refused}
use Rattle.refusals.specs.Outcomes.{answered}
use Rattle.scrub_kept.specs.Sheet.{entries_on, sheet_checked}
use Rattle.scrub_kept.proofs.Sheets.{labels_long, numbers_long}
use Rattle.scrub_sheet.specs.declared.Asked.{Asked}
use Rattle.scrub_sheet.specs.declared.Asked.TheVariants as K
use Rattle.scrub_sheet.specs.Asked.{sheet_asked, asks, EntriesThere}
use Rattle.scrub_sheet.proofs.Header.{judged_holds, judged_refused, judged_fine}

-- the counts together
abbrev counted : Asked → ℕ
counted K.All = 0
counted K.Nothing = 0
counted (K.These l t) = l + t

entries_counted : (s : List ℕ) (x : Asked) → entries_on (asks s x) ≡ counted x
entries_counted s K.All = refl
entries_counted s K.Nothing = refl
entries_counted s (K.These l t) = ap₂ (λ (m n : ℕ). m + n) (labels_long s 8 l) (numbers_long s (8 + 16 * l) t)

module _ (s : List ℕ) where
  told_ok : {x : Asked} → Ok x ≡ sheet_asked s → Ok (counted x) ≡ sheet_checked s
  unfolding sheet_checked answered
  told_ok {x} e = rw (judged_fine s e, entries_counted s x) refl

  -- where what is asked for is known, so is the answer
  pub told_count : {x : Asked} (y : Asked) → Ok x ≡ sheet_asked s → x ≡ y → Ok (counted y) ≡ sheet_checked s
  told_count y e f = rw (← f) (told_ok e)

  pub told_refused : {r : Refused} → Err r ≡ sheet_asked s → Err r ≡ sheet_checked s
  unfolding sheet_checked answered
  told_refused e = rw (judged_refused s e)

  -- both counts together are no more than the sheet's bytes
  pub counts_fit : {x : Asked} (l t : ℕ) → Ok x ≡ sheet_asked s → x ≡ K.These l t → l + t ≤ length s
  counts_fit l t e f = let h = subst (EntriesThere s) f (judged_holds s e) in omega arith
