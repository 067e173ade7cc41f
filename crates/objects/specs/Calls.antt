-- Trusted. The calls on the object table of request 2026-06: what each is answered, and the table after it. What is answered is defined over the entry
-- that each element names and over how many slots are free, and over nothing else of the table.
use Rattle.std.specs.Prelude.{◌≡◌, List, [], ◌∷◌, map, Bool, true, false, cond, ℕ, suc, ◌<◌, length, ltb, eqb, Ok, Err}
use Rattle.runs.specs.Those.{those, Each}
use Rattle.runs.specs.Finding.{count, change, distinct}
use Rattle.refusals.specs.declared.Refusal.{Refusal}
use Rattle.refusals.specs.declared.Refusal.TheVariants as R
use Rattle.refusals.specs.Outcomes.{Answer}
use Rattle.refusals.specs.Refusals.{number_of, refused_at}
use Rattle.objects.specs.declared.Object.{Object}
use Rattle.objects.specs.declared.Aod.{Aod}
use Rattle.objects.specs.declared.Xyz.{Xyz}
use Rattle.objects.specs.Entries.{made, moved, blank, free, names, named}
use Rattle.objects.specs.Table.{judged}

-- the records of a value, a clearing, or a value that is refused as PMD reading does
pub data Call : Type 0 where
  aod : List Aod → Call
  xyz : List Xyz → Call
  clear : ℕ → Call
  unread : Refusal → ℕ → Call

-- the new elements of an AOD where the table has these entries, each once, in the order of their first appearance
unfoldable pub fresh : (ℕ → Object) → List Aod → List ℕ
fresh has rs = those (λ (n : ℕ). free (has n)) (distinct (map (λ (r : Aod). r.element) rs))

-- an XYZ's records from the k-th on: UNKNOWN for an element that no used entry has, STATIC for one whose entry is not dynamic; and their count
unfoldable pub movable : (ℕ → Object) → ℕ → List Xyz → Answer
movable has k [] = Ok k
movable has k (m ∷ ms) =
    cond (free (has m.element)) (Err (refused_at R.Unknown k))
    (cond (eqb (has m.element).dynamic 0) (Err (refused_at R.Static k)) (movable has (suc k) ms))

-- the answer where the table has these entries and so many slots are free: an AOD is FULL exactly where its new elements exceed them
unfoldable pub verdict : (ℕ → Object) → ℕ → Call → Answer
verdict has room (aod rs) = cond (ltb room (length (fresh has rs))) (Err (refused_at R.Full 0)) (Ok (length rs))
verdict has room (xyz ms) = movable has 0 ms
verdict has room (clear n) = cond (free (has n)) (Err (refused_at R.Unknown 0)) (Ok 1)
verdict has room (unread why place) = Err (refused_at why place)

-- a record takes its element's entry, or the lowest free slot
unfoldable pub put : Aod → List Object → List Object
put r t = change (cond (free (named t r.element)) free (names r.element)) (λ (_ : Object). made r) t

unfoldable pub put_all : List Aod → List Object → List Object
put_all [] t = t
put_all (r ∷ rs) t = put_all rs (put r t)

unfoldable pub move_all : List Xyz → List Object → List Object
move_all [] t = t
move_all (m ∷ ms) t = move_all ms (change (names m.element) (moved m) t)

-- the table after a call that is not refused
unfoldable pub changed : Call → List Object → List Object
changed (aod rs) t = put_all rs t
changed (xyz ms) t = move_all ms t
changed (clear n) t = change (names n) (λ (_ : Object). blank) t
changed (unread why place) t = t

-- a call changes the table entirely or not at all
abbrev pub kept : Answer → List Object → List Object → List Object
kept (Ok n) before after = after
kept (Err r) before after = before

-- a call is as PMD reading gives it: an AOD's element is not 0 and its fields are good, an XYZ's coordinates are, and a refusal is one of document 01's
abbrev pub Sound : (Object → Bool) → Call → Type 0
Sound good (aod rs) = Each (λ (r : Aod). (eqb r.element 0 ≡ false) × (good (made r) ≡ true)) rs
Sound good (xyz ms) = Each (λ (m : Xyz). (e : Object) → good e ≡ true → good (moved m e) ≡ true) ms
Sound good (clear n) = Unit
Sound good (unread why place) = number_of why < 20

module _ (good : Object → Bool) where
  -- TABLE first, and then by the entries and the room
  unfoldable pub answer : Call → List Object → Answer
  answer c t = cond (judged good t) (verdict (named t) (count free t) c) (Err (refused_at R.Table 0))

  unfoldable pub next : Call → List Object → List Object
  next c t = kept (answer c t) t (changed c t)
