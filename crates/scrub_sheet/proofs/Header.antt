-- The header of a sheet, and what a good one says of its length.
use mathlib.Core.Path.{◌≡◌, sym, ap, ◌∙◌}
use Rattle.refusals.specs.Outcomes.{Outcome, fine, refused}
use mathlib.Core.List.{List}
use mathlib.Core.Bool.{true, ◌&&◌}
use Prim.Native.Nat.{ℕ, ◌+◌, ◌*◌, ◌≤◌}
use native.Mathlib.Omega.{arith}
use lib.ListN.{length}
use lib.Dec.{leb, eqb}
use borrow.Author.Tests.{eqb-true, leb-true}
use Rattle.runs.proofs.Bools.{and_both}
use Rattle.runs.proofs.Cases.{split}
use Rattle.numbers.specs.Big.{big_at}
use Rattle.scrub_kept.specs.Sheet.{Sheet, sheet_cap, header_good, keeps_all, labels_good, numbers_good, sheet_labels, sheet_numbers, sheet_of}
use Rattle.scrub_sheet.specs.declared.Asked.{Asked}
use Rattle.scrub_sheet.specs.Asked.{these_asked, sheet_asked, asks, EntriesThere}
use Rattle.std.specs.Prelude.{Result, Ok, Err}
use Rattle.refusals.specs.declared.Refused.{Refused}

-- a good header counts what is there
pub header_counts : (s : List ℕ) → header_good s ≡ true → 8 + 16 * big_at s 0 2 + 4 * big_at s 4 2 ≡ length s
unfolding header_good
header_counts s h =
    let a = and_both (leb 8 (length s)) _ h in
    let b = and_both (leb (big_at s 0 2) sheet_cap) _ a.1 in
    let c = and_both (leb (big_at s 4 2) sheet_cap) _ b.1 in
    let d = and_both (eqb (big_at s 2 2) 8) _ c.1 in
    let e = and_both (eqb (big_at s 6 2) (8 + 16 * big_at s 0 2)) _ d.1 in
    sym (eqb-true (length s) (8 + 16 * big_at s 0 2 + 4 * big_at s 4 2) e.1)

-- nor more numbers than a sheet may have
pub header_few : (s : List ℕ) → header_good s ≡ true → big_at s 4 2 ≤ sheet_cap
unfolding header_good
header_few s h =
    let a = and_both (leb 8 (length s)) _ h in
    let b = and_both (leb (big_at s 0 2) sheet_cap) _ a.1 in
    let c = and_both (leb (big_at s 4 2) sheet_cap) _ b.1 in
    leb-true (big_at s 4 2) sheet_cap c.0

-- what is asked is the sheet that the bytes come to, or they come to none
unfoldable comes : List ℕ → Result Asked Refused → Outcome Sheet
comes s (Err e) = refused e.why e.place
comes s (Ok x) = fine (asks s x)

asked_comes : (s : List ℕ) → sheet_of s ≡ comes s (sheet_asked s)
unfolding comes these_asked sheet_asked sheet_of
asked_comes s =
    split (eqb (length s) 0)
    (λ e. rw e)
    (λ e. split (keeps_all s)
    (λ a. rw (e, a))
    (λ a. split (header_good s && (labels_good (sheet_labels s) && numbers_good (sheet_numbers s))) (λ f. rw (e, a, f)) (λ f. rw (e, a, f))))

pub judged_fine : (s : List ℕ) {x : Asked} → Ok x ≡ sheet_asked s → sheet_of s ≡ fine (asks s x)
unfolding comes
judged_fine s e = asked_comes s ∙ ap (comes s) (sym e)

pub judged_refused : (s : List ℕ) {r : Refused} → Err r ≡ sheet_asked s → sheet_of s ≡ refused r.why r.place
unfolding comes
judged_refused s e = asked_comes s ∙ ap (comes s) (sym e)

-- where something is asked
abbrev AskedThere : List ℕ → Result Asked Refused → Type 0
AskedThere s (Err e) = Unit
AskedThere s (Ok x) = EntriesThere s x

asked_there : (s : List ℕ) → AskedThere s (sheet_asked s)
unfolding these_asked sheet_asked
asked_there s =
    split (eqb (length s) 0)
    (λ e. rw e tt)
    (λ e. split (keeps_all s)
    (λ a. rw (e, a) tt)
    (λ a. split (header_good s && (labels_good (sheet_labels s) && numbers_good (sheet_numbers s)))
    (λ f. rw (e, a, f) (omega (arith, header_counts s (and_both (header_good s) _ f).0)))
    (λ f. rw (e, a, f) tt)))

pub judged_holds : (s : List ℕ) {x : Asked} → Ok x ≡ sheet_asked s → EntriesThere s x
judged_holds s e = rw (← e) at (asked_there s)
