-- What bytes come to as a sheet: which keep none, which keep all, what a count of 65,535 means, and how many entries there are.
use mathlib.Core.Path.{◌≡◌, refl, sym, ap, ap₂, subst, ◌∙◌}
use mathlib.Core.Bool.{true, false, ◌&&◌}
use mathlib.Core.List.{List, [], ◌∷◌, ◌++◌}
use mathlib.Core.Logic.{◌⊎◌, inl, inr}
use Prim.Native.Nat.{ℕ, zero, suc, ◌+◌, ◌*◌, ◌≤◌}
use native.Mathlib.Omega.{arith}
use lib.Dec.{leb, eqb}
use lib.ListN.{length, drop, take-append-drop}
use lib.Seq.{drop-drop, drop-length}
use borrow.Author.Tests.{eqb-true, leb-true}
use Rattle.runs.specs.Digits.{digits, number_from, Bytes}
use Rattle.runs.specs.Same.{among, listed}
use Rattle.runs.specs.Those.{those, Each}
use Rattle.runs.proofs.Bools.{and_both}
use Rattle.runs.proofs.Cases.{split, absurd_eq}
use Rattle.refusals.specs.declared.Refusal.{Refusal}
use Rattle.refusals.specs.declared.Refusal.TheVariants as R
use Rattle.refusals.specs.Outcomes.{Outcome, fine, refused}
use Rattle.numbers.specs.Big.{big_at}
use Rattle.numbers.proofs.Big.{big_canonical}
use Rattle.pack.specs.Said.{SaidName, label, number, SaidPayload, SaidItem, single, sync, Said}
use Rattle.pack.specs.Reading.{Read, reading}
use Rattle.pack.specs.Meaning.{meant}
use Rattle.scrub_kept.specs.Sheet.{Sheet, everything, these, sheet_cap, labels_at, numbers_at, labels_good, numbers_good, header_good, sheet_labels, sheet_numbers, keeps_all, all_sheet, sheet_of, entries_on}
use Rattle.scrub_kept.specs.Kept.{keeps, kept_payloads, kept_sync, kept_items, kept}
use Rattle.scrub_kept.proofs.Sayable.{SayableItem, pack_sayable}

-- THE ENTRIES

-- as many as are counted
pub labels_long : (s : List ℕ) (at n : ℕ) → length (labels_at s at n) ≡ n
unfolding labels_at
labels_long s at zero = refl
labels_long s at (suc n) = ap suc (labels_long s (at + 16) n)

pub numbers_long : (s : List ℕ) (at n : ℕ) → length (numbers_at s at n) ≡ n
unfolding numbers_at
numbers_long s at zero = refl
numbers_long s at (suc n) = ap suc (numbers_long s (at + 4) n)

-- both counts of a good header are within the cap
header_few : (s : List ℕ) → header_good s ≡ true → (big_at s 0 2 ≤ sheet_cap) × (big_at s 4 2 ≤ sheet_cap)
unfolding header_good
header_few s g =
    let a = and_both (leb 8 (length s)) _ g in
    let b = and_both (leb (big_at s 0 2) sheet_cap) _ a.1 in
    let c = and_both (leb (big_at s 4 2) sheet_cap) _ b.1 in
    (leb-true (big_at s 0 2) sheet_cap b.0, leb-true (big_at s 4 2) sheet_cap c.0)

good_few : (s : List ℕ) → header_good s ≡ true → entries_on (these (sheet_labels s) (sheet_numbers s)) ≤ 64
good_few s g =
    let few = header_few s g in
    omega (arith, few.0, few.1, labels_long s 8 (big_at s 0 2), numbers_long s (8 + 16 * big_at s 0 2) (big_at s 4 2))

-- what holds of the sheets of 64 entries at the most, of the one that keeps all and of SHEET holds of whatever some bytes come to
by_cases : (s : List ℕ) (P : Outcome Sheet → Type 0) → ((ls : List (List ℕ)) (ts : List ℕ) → entries_on (these ls ts) ≤ 64 → P (fine (these ls ts))) → (keeps_all s ≡ true → P (fine everything))
    → P (refused R.Sheet 0) → P (sheet_of s)
unfolding sheet_of
by_cases s P named all malformed =
    split (eqb (length s) 0)
    (λ e. rw e (named [] [] (omega arith)))
    (λ e. split (keeps_all s)
    (λ a. rw (e, a) (all a))
    (λ a. split (header_good s && (labels_good (sheet_labels s) && numbers_good (sheet_numbers s)))
    (λ f. rw (e, a, f) (named (sheet_labels s) (sheet_numbers s) (good_few s (and_both (header_good s) _ f).0)))
    (λ f. rw (e, a, f) malformed)))

-- whatever is wrong with a sheet, it is refused as SHEET, place 0
pub sheet_why : (s : List ℕ) (why : Refusal) (place : ℕ) → sheet_of s ≡ refused why place → sheet_of s ≡ refused R.Sheet 0
sheet_why s why place =
    by_cases s (λ (o : Outcome Sheet). o ≡ refused why place → o ≡ refused R.Sheet 0) (λ ls ts few h. absurd_eq (cc)) (λ a h. absurd_eq (cc)) (λ h. refl)

-- no sheet has more than 64 entries
pub entries_few : (s : List ℕ) (sh : Sheet) → sheet_of s ≡ fine sh → entries_on sh ≤ 64
entries_few s sh =
    by_cases s (λ (o : Outcome Sheet). o ≡ fine sh → entries_on sh ≤ 64)
    (λ ls ts few h. let is : these ls ts ≡ sh = (cc) in subst (λ (x : Sheet). entries_on x ≤ 64) is few)
    (λ a h. let is : everything ≡ sh = (cc) in subst (λ (x : Sheet). entries_on x ≤ 64) is (omega arith))
    (λ h. absurd_eq (cc))

-- NONE

pub empty_none : sheet_of [] ≡ fine (these [] [])
unfolding sheet_of
empty_none = refl

pub none_keeps : (n : SaidName) → keeps (these [] []) n ≡ false
unfolding among listed
none_keeps (label l) = refl
none_keeps (number t) = refl

none_payloads : (xs : List SaidPayload) → kept_payloads (these [] []) xs ≡ []
unfolding those
none_payloads [] = refl
none_payloads (x ∷ xs) = rw (none_keeps x.name) (none_payloads xs)

none_items : (xs : List SaidItem) → kept_items (these [] []) xs ≡ []
unfolding kept_items kept_sync
none_items [] = refl
none_items (single x ∷ r) = rw (none_keeps x.name) (none_items r)
none_items (sync o d xs ∷ r) = rw (none_payloads xs) (none_items r)

-- what is kept where nothing is: the pack offset
pub kept_none : (k : Said) → kept (these [] []) k ≡ record { offset = k.offset; items = [] }
unfolding kept
kept_none k = ap (λ (xs : List SaidItem). let out : Said = record { offset = k.offset; items = xs } in out) (none_items k.items)

-- ALL

pub all_is : sheet_of all_sheet ≡ fine everything
unfolding sheet_of keeps_all big_at number_from
all_is = refl

-- a number of two bytes stands where it is read, before what follows it
stands : (s : List ℕ) (at v : ℕ) (r : List ℕ) → Bytes s → at + 2 ≤ length s → big_at s at 2 ≡ v → drop (at + 2) s ≡ r → drop at s ≡ digits 256 2 v ++ r
stands s at v r bytes h e f =
    sym (take-append-drop 2 (drop at s))
    ∙ ap₂ (λ (x y : List ℕ). x ++ y) (sym (big_canonical s at 2 bytes h) ∙ ap (digits 256 2) e) (drop-drop 2 at s ∙ f)

all_only : (s : List ℕ) → Bytes s → keeps_all s ≡ true → s ≡ all_sheet
unfolding keeps_all digits
all_only s bytes h =
    let a = and_both (eqb (length s) 8) _ h in
    let b = and_both (eqb (big_at s 0 2) 65535) _ a.1 in
    let c = and_both (eqb (big_at s 4 2) 65535) _ b.1 in
    let d = and_both (eqb (big_at s 2 2) 8) _ c.1 in
    let l = eqb-true (length s) 8 a.0 in
    let end = subst (λ (n : ℕ). drop n s ≡ []) l (drop-length s) in
    let six = stands s 6 8 [] bytes (omega arith) (eqb-true (big_at s 6 2) 8 d.1) end in
    let four = stands s 4 65535 (0 ∷ 8 ∷ []) bytes (omega arith) (eqb-true (big_at s 4 2) 65535 c.0) six in
    let two = stands s 2 8 (255 ∷ 255 ∷ 0 ∷ 8 ∷ []) bytes (omega arith) (eqb-true (big_at s 2 2) 8 d.0) four in
    stands s 0 65535 (0 ∷ 8 ∷ 255 ∷ 255 ∷ 0 ∷ 8 ∷ []) bytes (omega arith) (eqb-true (big_at s 0 2) 65535 b.0) two

-- the sheet that keeps all, and no other
pub all_exactly : (s : List ℕ) → Bytes s → (sheet_of s ≡ fine everything → s ≡ all_sheet) × (s ≡ all_sheet → sheet_of s ≡ fine everything)
all_exactly s bytes = (
  by_cases s (λ (o : Outcome Sheet). o ≡ fine everything → s ≡ all_sheet) (λ ls ts few h. absurd_eq (cc)) (λ a h. all_only s bytes a) (λ h. absurd_eq (cc)),
  λ e. ap sheet_of e ∙ all_is,
)

all_payloads : (xs : List SaidPayload) → kept_payloads everything xs ≡ xs
unfolding those
all_payloads [] = refl
all_payloads (x ∷ xs) = ap (λ (t : List SaidPayload). x ∷ t) (all_payloads xs)

all_items : (ls : List (List ℕ)) (xs : List SaidItem) → Each (SayableItem ls) xs → kept_items everything xs ≡ xs
unfolding kept_items kept_sync
all_items ls [] h = refl
all_items ls (single x ∷ r) h = ap (λ (t : List SaidItem). single x ∷ t) (all_items ls r h.1)
all_items ls (sync o d [] ∷ r) h = absurd (omega (arith, h.0.some))
all_items ls (sync o d (x ∷ xs) ∷ r) h = ap₂ (kept_sync o d) (all_payloads (x ∷ xs)) (all_items ls r h.1)

-- of an accepted pack all is kept
pub kept_all : (s : List ℕ) (r : Read) → Bytes s → reading s ≡ fine r → kept everything (meant s r) ≡ meant s r
unfolding kept
kept_all s r bytes accepted =
    let p = pack_sayable s r bytes accepted in
    ap (λ (xs : List SaidItem). let out : Said = record { offset = (meant s r).offset; items = xs } in out) (all_items p.0 (meant s r).items p.1.items)

-- A COUNT OF 65,535

abbrev Counts : List ℕ → Type 0
Counts s = (big_at s 0 2 ≡ 65535) ⊎ (big_at s 4 2 ≡ 65535)

-- it is the count of no entries
counts_none : (s : List ℕ) → length s ≡ 0 → Counts s → ⊥
unfolding big_at number_from
counts_none [] e (inl h) = absurd_eq (cc)
counts_none [] e (inr h) = absurd_eq (cc)
counts_none (x ∷ xs) e h = absurd (omega arith)

counts_over : (s : List ℕ) → Counts s → big_at s 0 2 ≤ sheet_cap → big_at s 4 2 ≤ sheet_cap → ⊥
counts_over s (inl h) few less = omega arith
counts_over s (inr h) few less = omega arith

header_bad : (s : List ℕ) → Counts s → header_good s ≡ false
header_bad s h = split (header_good s) (λ g. let few = header_few s g in absurd (counts_over s h few.0 few.1)) (λ g. g)

-- in any sheet but the one that keeps all it is SHEET
pub all_or_refused : (s : List ℕ) → Bytes s → (big_at s 0 2 ≡ 65535) ⊎ (big_at s 4 2 ≡ 65535) → (s ≡ all_sheet → ⊥) → sheet_of s ≡ refused R.Sheet 0
unfolding sheet_of
all_or_refused s bytes h other =
    split (keeps_all s)
    (λ a. absurd (other (all_only s bytes a)))
    (λ a. split (eqb (length s) 0) (λ e. absurd (counts_none s (eqb-true (length s) 0 e) h)) (λ e. simp (e, a, header_bad s h)))
