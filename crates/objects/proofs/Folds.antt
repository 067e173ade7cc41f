-- The records of an AOD are put one after the other, those of an XYZ likewise: what each of them keeps, all keep, and what each element names at the end.
use mathlib.Core.Path.{◌≡◌, refl, ap, ◌∙◌}
use mathlib.Core.List.{List, [], ◌∷◌, map}
use mathlib.Core.Bool.{true, false, cond, not}
use Prim.Native.Nat.{ℕ, suc, ◌+◌, ◌≤◌, ◌<◌}
use native.Mathlib.Omega.{arith}
use lib.ListN.{length}
use lib.Dec.{eqb}
use Rattle.std.specs.Prelude.{Ok}
use Rattle.runs.specs.Those.{those, Each}
use Rattle.runs.specs.Finding.{count, change, distinct}
use Rattle.runs.proofs.Cases.{split, absurd_eq}
use Rattle.runs.proofs.Those.{each_map}
use Rattle.runs.proofs.Finding.{bit, those_twice}
use Rattle.objects.specs.declared.Object.{Object}
use Rattle.objects.specs.declared.Aod.{Aod}
use Rattle.objects.specs.declared.Xyz.{Xyz}
use Rattle.objects.specs.Entries.{made, moved, free, names, named}
use Rattle.objects.specs.Calls.{fresh, movable, put, put_all, move_all}
use Rattle.objects.proofs.Keys.{names_key, key_names}
use Rattle.objects.proofs.Edits.{with, put_named, put_free, edit_named, edit_names}

-- a record's element is not 0
abbrev pub Real : Aod → Type 0
Real r = eqb r.element 0 ≡ false

-- the new elements of a run of records: the first record's, if it is new, and those that are new after it
pub fresh_with : (has : ℕ → Object) (r : Aod) (rs : List Aod) (e : Object) → free e ≡ false
    → fresh has (r ∷ rs) ≡ cond (free (has r.element)) (r.element ∷ fresh (with has r.element e) rs) (fresh (with has r.element e) rs)
unfolding fresh distinct those
fresh_with has r rs e h =
    ap (λ (l : List ℕ). cond (free (has r.element)) (r.element ∷ l) l)
    (those_twice (λ (n : ℕ). free (has n)) (λ (n : ℕ). not (eqb n r.element)) (λ (n : ℕ). free (with has r.element e n))
    (λ n. split (eqb n r.element) (λ d. rw d h) (λ d. rw d)) (distinct (map (λ (a : Aod). a.element) rs)))

-- there is a slot for each new element
abbrev pub Room : List Object → List Aod → Type 0
Room t rs = length (fresh (named t) rs) ≤ count free t

-- there is one for the record, if it is new
abbrev pub Slot : List Object → Aod → Type 0
Slot t r = free (named t r.element) ≡ true → 0 < count free t

module _ (r : Aod) (rs : List Aod) (t : List Object) (real : Real r) where
  pub room_slot : Room t (r ∷ rs) → Slot t r
  room_slot h e =
      let l = ap (λ (l : List ℕ). length l) (fresh_with (named t) r rs (made r) real) in
      let k = rw e at l in omega arith

  pub fresh_put : Slot t r → length (fresh (named t) (r ∷ rs)) ≡ bit (free (named t r.element)) + length (fresh (named (put r t)) rs)
  fresh_put s =
      let l = ap (λ (l : List ℕ). length l) (fresh_with (named t) r rs (made r) real) in
      rw (put_named r t real s)
      (split (free (named t r.element)) (λ e. let k = rw e at l in rw e (omega arith)) (λ e. let k = rw e at l in rw e (omega arith)))

  pub room_put : Room t (r ∷ rs) → Room (put r t) rs
  room_put h =
      let s = room_slot h in
      let a = fresh_put s in
      let b = put_free r t real s in omega arith

-- what each record keeps, all of them keep
pub put_all_keeps : (P : List Object → Type 0) (Q : Aod → Type 0) → ((r : Aod) (t : List Object) → Q r → Real r → Slot t r → P t → P (put r t))
    → (rs : List Aod) (t : List Object) → Each Q rs → Each Real rs → Room t rs → P t → P (put_all rs t)
unfolding put_all
put_all_keeps P Q k [] t q a h p = p
put_all_keeps P Q k (r ∷ rs) t q a h p =
    put_all_keeps P Q k rs (put r t) q.1 a.1 (room_put r rs t a.0 h)
    (k r t q.0 a.0 (room_slot r rs t a.0 h) p)

-- an XYZ's elements are known, and stay so
abbrev pub Known : List Object → Xyz → Type 0
Known t m = free (named t m.element) ≡ false

pub moved_keeps : (m : Xyz) (k : ℕ) (x : Object) → names k x ≡ true → names k (moved m x) ≡ true
moved_keeps m k x p = key_names (record { used = (names_key p).used; element = (names_key p).element })

move_named : (m : Xyz) (t : List Object) → Known t m
    → named (change (names m.element) (moved m) t) ≡ with (named t) m.element (moved m (named t m.element))
move_named m t h = edit_named m.element (moved m) (moved_keeps m m.element) t h

known_on : (m o : Xyz) (t : List Object) → Known t m → Known t o → Known (change (names m.element) (moved m) t) o
known_on m o t h k =
    rw (move_named m t h) (split (eqb o.element m.element) (λ e. rw e h) (λ e. rw e k))

pub move_all_keeps : (P : List Object → Type 0) (Q : Xyz → Type 0)
    → ((m : Xyz) (t : List Object) → Q m → Known t m → P t → P (change (names m.element) (moved m) t))
    → (ms : List Xyz) (t : List Object) → Each Q ms → Each (Known t) ms → P t → P (move_all ms t)
unfolding move_all
move_all_keeps P Q k [] t q a p = p
move_all_keeps P Q k (m ∷ ms) t q a p =
    move_all_keeps P Q k ms (change (names m.element) (moved m) t) q.1
    (each_map (λ o. known_on m o t a.0) ms a.1) (k m t q.0 a.0 p)

pub move_all_names : (n : ℕ) (ms : List Xyz) (t : List Object) → count (names n) (move_all ms t) ≡ count (names n) t
unfolding move_all
move_all_names n [] t = refl
move_all_names n (m ∷ ms) t =
    move_all_names n ms (change (names m.element) (moved m) t)
    ∙ edit_names m.element (moved m) (moved_keeps m m.element) t n

-- what is not refused names known elements only
pub movable_known : (t : List Object) (k : ℕ) (ms : List Xyz) {n : ℕ} → movable (named t) k ms ≡ Ok n → Each (Known t) ms
unfolding movable
movable_known t k [] h = search
movable_known t k (m ∷ ms) h =
    split (free (named t m.element))
    (λ e. absurd_eq (cc (rw e at h)))
    (λ e. split (eqb (named t m.element).dynamic 0)
    (λ d. absurd_eq (cc (rw (e, d) at h)))
    (λ d. (e, movable_known t (suc k) ms (rw (e, d) at h))))
