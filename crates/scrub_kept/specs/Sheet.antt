-- Trusted. The keep sheet (house): a header of counts and offsets, each 16 bits, most significant byte first; then labels of 16 bytes and tag numbers of
-- 32 bits, and nothing after.
use Rattle.std.specs.Prelude.{List, [], ◌∷◌, Bool, true, cond, not, ◌&&◌, ℕ, zero, suc, ◌+◌, ◌*◌, ◌^◌, ltb, leb, eqb, length, take, drop}
use Rattle.runs.specs.Same.{among, listed}
use Rattle.refusals.specs.declared.Refusal.TheVariants as R
use Rattle.refusals.specs.Outcomes.{Outcome, fine, refused, answered, Answer}
use Rattle.numbers.specs.Big.{big_at}
use Rattle.pack.specs.Fixed.{utility_labels}

-- keep all, or what these labels and numbers name
pub data Sheet : Type 0 where
  everything : Sheet
  these : List (List ℕ) → List ℕ → Sheet

-- the most labels, and the most numbers, on a sheet
abbrev pub sheet_cap : ℕ
sheet_cap = 32

-- n labels from `at` on
unfoldable pub labels_at : List ℕ → ℕ → ℕ → List (List ℕ)
labels_at s at zero = []
labels_at s at (suc n) = take 16 (drop at s) ∷ labels_at s (at + 16) n

-- n numbers from `at` on
unfoldable pub numbers_at : List ℕ → ℕ → ℕ → List ℕ
numbers_at s at zero = []
numbers_at s at (suc n) = big_at s at 4 ∷ numbers_at s (at + 4) n

-- a label on a sheet is none of the three, and no label repeats
unfoldable pub labels_good : List (List ℕ) → Bool
labels_good [] = true
labels_good (l ∷ r) = not (listed l utility_labels) && (not (listed l r) && labels_good r)

-- a number on a sheet is from 4 to 268,435,455, and no number repeats
unfoldable pub numbers_good : List ℕ → Bool
numbers_good [] = true
numbers_good (n ∷ r) = leb 4 n && (ltb n (128 ^ 4) && (not (among n r) && numbers_good r))

-- the header: number of labels, offset of labels 8, number of tag numbers, offset of those; and the sheet's length is what they make
unfoldable pub header_good : List ℕ → Bool
header_good s =
    leb 8 (length s)
    && (leb (big_at s 0 2) sheet_cap
    && (leb (big_at s 4 2) sheet_cap
    && (eqb (big_at s 2 2) 8
    && (eqb (big_at s 6 2) (8 + 16 * big_at s 0 2) && eqb (length s) (8 + 16 * big_at s 0 2 + 4 * big_at s 4 2)))))

abbrev pub sheet_labels : List ℕ → List (List ℕ)
sheet_labels s = labels_at s 8 (big_at s 0 2)

abbrev pub sheet_numbers : List ℕ → List ℕ
sheet_numbers s = numbers_at s (8 + 16 * big_at s 0 2) (big_at s 4 2)

-- keep all: exactly a header, with 65,535 in both counts and 8 in both offsets
unfoldable pub keeps_all : List ℕ → Bool
keeps_all s =
    eqb (length s) 8
    && (eqb (big_at s 0 2) 65535 && (eqb (big_at s 4 2) 65535 && (eqb (big_at s 2 2) 8 && eqb (big_at s 6 2) 8)))

-- those 8 bytes
abbrev pub all_sheet : List ℕ
all_sheet = 255 ∷ 255 ∷ 0 ∷ 8 ∷ 255 ∷ 255 ∷ 0 ∷ 8 ∷ []

-- 0 bytes keep none; keep all has a header of its own; else the entries, or SHEET
unfoldable pub sheet_of : List ℕ → Outcome Sheet
sheet_of s =
    cond (eqb (length s) 0)
    (fine (these [] []))
    (cond (keeps_all s)
    (fine everything)
    (cond (header_good s && (labels_good (sheet_labels s) && numbers_good (sheet_numbers s)))
    (fine (these (sheet_labels s) (sheet_numbers s)))
    (refused R.Sheet 0)))

-- how many labels and tag numbers stand on a sheet: none on the one that keeps all
abbrev pub entries_on : Sheet → ℕ
entries_on everything = 0
entries_on (these ls ts) = length ls + length ts

-- the judgement of a sheet alone: the count of its entries, or SHEET
unfoldable pub sheet_checked : List ℕ → Answer
sheet_checked s = answered entries_on (sheet_of s)
