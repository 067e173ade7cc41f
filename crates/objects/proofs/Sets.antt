-- The table after a call that is not refused, said at once: after an AOD, after an XYZ and after a clearing.
use mathlib.Core.Path.{◌≡◌, refl, sym, ap, ap₂, ◌∙◌, fun_ext}
use mathlib.Core.List.{List, [], ◌∷◌, map, map-map}
use mathlib.Core.Bool.{true, false, cond}
use Prim.Native.Nat.{ℕ, ◌≤◌}
use native.Mathlib.Omega.{arith}
use lib.Dec.{eqb}
use borrow.Author.Tests.{eq-eqb}
use Rattle.runs.specs.Those.{those, Each}
use Rattle.runs.specs.Finding.{count, change, fill, distinct}
use Rattle.runs.proofs.Cases.{split, never}
use Rattle.runs.proofs.Those.{each_map, those_pass}
use Rattle.runs.proofs.Finding.{each_none}
use Rattle.runs.proofs.Filling.{map_same, change_map, fill_none, fill_one, fill_map}
use Rattle.objects.specs.declared.Object.{Object}
use Rattle.objects.specs.declared.Aod.{Aod}
use Rattle.objects.specs.declared.Xyz.{Xyz}
use Rattle.objects.specs.Entries.{made, moved, blank, free, mine, names, named}
use Rattle.objects.specs.Calls.{fresh, put, put_all, move_all}
use Rattle.objects.specs.Meanings.{stub, latest, placed, renewed, after_aod, relocated, after_xyz, unmoved, after_clear}
use Rattle.objects.proofs.Keys.{names_key, key_names, key_mine, names_mine, mine_other, named_none}
use Rattle.objects.proofs.Edits.{with, put_named, put_names, edit_names}
use Rattle.objects.proofs.Folds.{Real, Room, Slot, fresh_with, room_slot, room_put, moved_keeps}

-- what one record makes of an entry
abbrev step : Aod → Object → Object
step r e = cond (names r.element e) (made r) e

module _ (r : Aod) (real : Real r) where
  made_own : names r.element (made r) ≡ true
  made_own = key_names (record { used = real; element = refl })

  stub_own : names r.element (stub r.element) ≡ true
  stub_own = key_names (record { used = real; element = refl })

  -- a record before others: its step first
  renewed_step : (rs : List Aod) (e : Object) → renewed (r ∷ rs) e ≡ renewed rs (step r e)
  unfolding renewed latest
  renewed_step rs e =
      split (names r.element e)
      (λ d. let k = names_key d in
      rw (d, names_mine r.element e d, names_mine r.element (made r) made_own, eq-eqb e.element r.element k.element)
      (ap (λ (n : ℕ). latest n (made r) rs) k.element))
      (λ d. split (mine e)
      (λ m. rw (d, m, mine_other r.element e m d)) (λ m. rw (d, m)))

  step_free : (e : Object) → free (step r e) ≡ free e
  step_free e = split (names r.element e) (λ d. rw d (real ∙ sym (names_key d).used)) (λ d. rw d)

  -- in a table that does not have the element, a stub that took a slot becomes the record
  step_none : (t : List Object) → count (names r.element) t ≡ 0 → map (step r) t ≡ t
  step_none t h =
      map_same (step r) t (each_map (λ e k. same e k) t
      (each_none (names r.element) (λ (e : Object). names r.element e ≡ false) t h))
    where
      same : (e : Object) → (names r.element e ≡ true → names r.element e ≡ false) → step r e ≡ e
      same e k = split (names r.element e) (λ d. never d (k d)) (λ d. rw d)

  step_taken : (t : List Object) → count (names r.element) t ≡ 0
      → map (step r) (change free (λ (_ : Object). stub r.element) t) ≡ change free (λ (_ : Object). made r) t
  unfolding change count
  step_taken [] h = refl
  step_taken (e ∷ t) h =
      split (names r.element e) (λ d. let k = rw d at h in absurd (omega arith))
      (λ d. let z : count (names r.element) t ≡ 0 = rw d at h in
      split (free e)
      (λ k. rw (k, stub_own) (ap (λ (l : List Object). made r ∷ l) (step_none t z)))
      (λ k. rw (k, d) (ap (λ (l : List Object). e ∷ l) (step_taken t z))))

-- the stubs of elements that are new after the record are none that it names
stubs_kept : (r : Aod) (ns : List ℕ) → Each (λ (n : ℕ). eqb n r.element ≡ false) ns → map (step r) (map stub ns) ≡ map stub ns
stubs_kept r [] a = refl
stubs_kept r (n ∷ ns) a =
    let d : names r.element (stub n) ≡ false =
    split (names r.element (stub n)) (λ k. never (eq-eqb n r.element (names_key k).element) a.0) (λ k. k) in
    rw d (ap (λ (l : List Object). stub n ∷ l) (stubs_kept r ns a.1))

fresh_apart : (has : ℕ → Object) (r : Aod) (rs : List Aod) → Real r
    → Each (λ (n : ℕ). eqb n r.element ≡ false) (fresh (with has r.element (made r)) rs)
unfolding fresh
fresh_apart has r rs real =
    each_map (λ n h. split (eqb n r.element) (λ d. never (rw d at h) real) (λ d. d))
    (those (λ (n : ℕ). free (with has r.element (made r) n)) (distinct (map (λ (a : Aod). a.element) rs)))
    (those_pass (λ (n : ℕ). free (with has r.element (made r) n)) (distinct (map (λ (a : Aod). a.element) rs)))

-- one record: the table with the stubs of all new elements, the record's own among them, and then its step
module _ (r : Aod) (rs : List Aod) (t : List Object) (real : Real r) where
  others : List Object
  others = map stub (fresh (with (named t) r.element (made r)) rs)

  others_kept : map (step r) others ≡ others
  unfolding others
  others_kept = stubs_kept r (fresh (with (named t) r.element (made r)) rs) (fresh_apart (named t) r rs real)

  under : (l : List Object) → map (step r) (fill free others l) ≡ fill free others (map (step r) l)
  under l =
      fill_map free (step r) (step_free r real) others l
      ∙ ap (λ (es : List Object). fill free es (map (step r) l)) others_kept

  filled : count (names r.element) t ≤ 1
      → map (step r) (fill free (map stub (fresh (named t) (r ∷ rs))) t) ≡ fill free others (put r t)
  unfolding put others
  filled once =
      split (free (named t r.element))
      (λ e. let l = rw e at (fresh_with (named t) r rs (made r) real) in
      rw (l, e) (ap (λ (x : List Object). map (step r) x) (fill_one free (stub r.element) real others t)
      ∙ (under (change free (λ (_ : Object). stub r.element) t)
      ∙ ap (λ (x : List Object). fill free others x) (step_taken r real t (named_none r.element t e)))))
      (λ e. let l = rw e at (fresh_with (named t) r rs (made r) real) in
      rw (l, e) (under t
      ∙ ap (λ (x : List Object). fill free others x) (sym (change_map (names r.element) (λ (_ : Object). made r) t once))))

  after_step : Slot t r → count (names r.element) t ≤ 1 → after_aod (r ∷ rs) t ≡ after_aod rs (put r t)
  unfolding after_aod others
  after_step slot once =
      ap (λ (h : Object → Object). map h (fill free (map stub (fresh (named t) (r ∷ rs))) t)) (fun_ext (λ e. renewed_step r real rs e))
      ∙ (sym (map-map (renewed rs) (step r) (fill free (map stub (fresh (named t) (r ∷ rs))) t))
      ∙ (ap (λ (x : List Object). map (renewed rs) x) (filled once)
      ∙ ap (λ (has : ℕ → Object). map (renewed rs) (fill free (map stub (fresh has rs)) (put r t))) (sym (put_named r t real slot))))

after_none : (t : List Object) → after_aod [] t ≡ t
unfolding after_aod fresh distinct those renewed latest
after_none t = rw (fill_none free t) (map_same (renewed []) t (each_all t))
  where
    each_all : (t : List Object) → Each (λ (e : Object). renewed [] e ≡ e) t
    each_all [] = search
    each_all (e ∷ t) = (split (mine e) (λ d. rw d) (λ d. rw d), each_all t)

pub put_all_sets : (rs : List Aod) (t : List Object) → Each Real rs → Room t rs → ((n : ℕ) → count (names n) t ≤ 1)
    → put_all rs t ≡ after_aod rs t
unfolding put_all
put_all_sets [] t a h u = sym (after_none t)
put_all_sets (r ∷ rs) t a h u =
    let s = room_slot r rs t a.0 h in
    put_all_sets rs (put r t) a.1 (room_put r rs t a.0 h) (λ n. put_names r t a.0 n s (u n))
    ∙ sym (after_step r rs t a.0 s (u r.element))

-- an XYZ likewise, with no stubs
relocated_step : (m : Xyz) (ms : List Xyz) (e : Object) → relocated ms (cond (names m.element e) (moved m e) e) ≡ relocated (m ∷ ms) e
unfolding relocated placed
relocated_step m ms e =
    split (names m.element e)
    (λ d. let k = names_key d in
    rw (d, key_mine (moved m e) e refl, names_mine m.element e d, eq-eqb e.element m.element k.element))
    (λ d. split (mine e) (λ q. rw (d, q, mine_other m.element e q d)) (λ q. rw (d, q)))

relocated_none : (t : List Object) → map (relocated []) t ≡ t
unfolding relocated placed
relocated_none t = map_same (relocated []) t (each_all t)
  where
    each_all : (t : List Object) → Each (λ (e : Object). relocated [] e ≡ e) t
    each_all [] = search
    each_all (e ∷ t) = (split (mine e) (λ d. rw d) (λ d. rw d), each_all t)

pub move_all_moves : (ms : List Xyz) (t : List Object) → ((n : ℕ) → count (names n) t ≤ 1) → move_all ms t ≡ after_xyz ms t
unfolding move_all after_xyz
move_all_moves [] t u = sym (relocated_none t)
move_all_moves (m ∷ ms) t u =
    move_all_moves ms (change (names m.element) (moved m) t)
    (λ n. let k = edit_names m.element (moved m) (moved_keeps m m.element) t n in let l = u n in omega arith)
    ∙ (ap (λ (l : List Object). map (relocated ms) l) (change_map (names m.element) (moved m) t (u m.element))
    ∙ (map-map (relocated ms) (λ (e : Object). cond (names m.element e) (moved m e) e) t
    ∙ ap (λ (h : Object → Object). map h t) (fun_ext (λ e. relocated_step m ms e))))

pub clear_clears : (n : ℕ) (t : List Object) → count (names n) t ≤ 1 → change (names n) (λ (_ : Object). blank) t ≡ after_clear n t
unfolding after_clear
clear_clears n t u = change_map (names n) (λ (_ : Object). blank) t u

-- an XYZ changes no field but x, y and z, of any entry
placed_only : (n : ℕ) (e : Object) (ms : List Xyz) → unmoved (placed n e ms) ≡ unmoved e
unfolding placed
placed_only n e [] = refl
placed_only n e (m ∷ ms) =
    placed_only n (cond (eqb n m.element) (moved m e) e) ms ∙ split (eqb n m.element) (λ p. rw p) (λ p. rw p)

pub moves_only : (ms : List Xyz) (t : List Object) → map unmoved (after_xyz ms t) ≡ map unmoved t
unfolding after_xyz relocated
moves_only ms [] = refl
moves_only ms (e ∷ t) =
    ap₂ (λ (x : List ℕ) (l : List (List ℕ)). x ∷ l) (split (mine e) (λ p. rw p (placed_only e.element e ms)) (λ p. rw p)) (moves_only ms t)
