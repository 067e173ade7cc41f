-- A call that is not refused keeps a table well, and one that is refused keeps the table.
use mathlib.Core.Path.{◌≡◌, refl, ◌∙◌}
use mathlib.Core.List.{List, [], ◌∷◌}
use mathlib.Core.Bool.{Bool, true, false, cond, or-true}
use Prim.Native.Nat.{ℕ, ◌≤◌}
use native.Mathlib.Omega.{arith}
use lib.ListN.{length}
use lib.Dec.{ltb}
use borrow.Author.Tests.{ltb-true, ltb-false}
use Rattle.std.specs.Prelude.{Ok, Err}
use Rattle.runs.specs.Those.{Each}
use Rattle.runs.specs.Finding.{count, change}
use Rattle.runs.proofs.Cases.{split, absurd_eq}
use Rattle.runs.proofs.Those.{each_map}
use Rattle.runs.proofs.Finding.{count_change, change_none, change_length, change_each}
use Rattle.refusals.specs.Refusals.{refused_at}
use Rattle.refusals.specs.declared.Refusal.{Refusal}
use Rattle.refusals.specs.Outcomes.{Answer}
use Rattle.objects.specs.declared.Object.{Object}
use Rattle.objects.specs.declared.Aod.{Aod}
use Rattle.objects.specs.declared.Xyz.{Xyz}
use Rattle.objects.specs.Entries.{made, moved, blank, free, names, named}
use Rattle.objects.specs.Table.{fit, judged}
use Rattle.objects.specs.Calls.{Call, aod, xyz, clear, unread, fresh, verdict, put, put_all, move_all, changed, Sound, kept, answer, next}
use Rattle.objects.proofs.Keys.{names_key, free_apart}
use Rattle.objects.proofs.Edits.{put_names}
use Rattle.objects.proofs.Folds.{Real, Room, Known, put_all_keeps, move_all_keeps, move_all_names, movable_known}
use Rattle.objects.proofs.Well.{Well}

-- the verdict on a call is a count and no refusal
abbrev pub Accepted : List Object → Call → Type 0
Accepted t c = (n : ℕ) × (verdict (named t) (count free t) c ≡ Ok n)

not_done : {P : Type 0} {why : Refusal} {place n : ℕ} → Err (refused_at why place) ≡ Ok n → P
not_done h = absurd_eq (cc)

-- an accepted AOD has its slots, and an accepted XYZ its entries
module _ (t : List Object) where
  pub aod_room : (rs : List Aod) → Accepted t (aod rs) → Room t rs
  unfolding verdict
  aod_room rs h =
      split (ltb (count free t) (length (fresh (named t) rs))) (λ d. not_done (rw d at h.1))
      (λ d. ltb-false (count free t) (length (fresh (named t) rs)) d)

  pub xyz_known : (ms : List Xyz) → Accepted t (xyz ms) → Each (Known t) ms
  unfolding verdict
  xyz_known ms h = movable_known t 0 ms h.1

-- and the elements of an AOD that PMD reading gives are real
pub real : (good : Object → Bool) (rs : List Aod) → Sound good (aod rs) → Each Real rs
real good rs s = each_map (λ r k. k.0) rs s

-- clearing adds to no count
clear_few : (p q : Object → Bool) (t : List Object) → q blank ≡ false → count q (change p (λ (_ : Object). blank) t) ≤ count q t
clear_few p q t h =
    split (ltb 0 (count p t))
    (λ e. let c = count_change p (λ (_ : Object). blank) q blank t (ltb-true 0 (count p t) e) in
    let d = rw h at c in omega arith)
    (λ e. let z : count p t ≡ 0 = omega (arith, ltb-false 0 (count p t) e) in
    rw (change_none p (λ (_ : Object). blank) t z) (omega arith))

-- the length is kept, whatever the call
put_all_length : (rs : List Aod) (t : List Object) → length (put_all rs t) ≡ length t
unfolding put_all put
put_all_length [] t = refl
put_all_length (r ∷ rs) t =
    put_all_length rs (put r t)
    ∙ change_length (cond (free (named t r.element)) free (names r.element)) (λ (_ : Object). made r) t

move_all_length : (ms : List Xyz) (t : List Object) → length (move_all ms t) ≡ length t
unfolding move_all
move_all_length [] t = refl
move_all_length (m ∷ ms) t =
    move_all_length ms (change (names m.element) (moved m) t) ∙ change_length (names m.element) (moved m) t

pub changed_length : (c : Call) (t : List Object) → length (changed c t) ≡ length t
unfolding changed
changed_length (aod rs) t = put_all_length rs t
changed_length (xyz ms) t = move_all_length ms t
changed_length (clear n) t = change_length (names n) (λ (_ : Object). blank) t
changed_length (unread why place) t = refl

module _ (good : Object → Bool) (t : List Object) where
  abbrev Fit : Object → Type 0
  Fit e = fit good e ≡ true

  made_fit : (r : Aod) → good (made r) ≡ true → Fit (made r)
  unfolding fit
  made_fit r g = simp (g, or-true)

  move_fit : (m : Xyz) (n : ℕ) (x : Object) → ((e : Object) → good e ≡ true → good (moved m e) ≡ true) → names n x ≡ true → Fit x → Fit (moved m x)
  unfolding fit
  move_fit m n x g p h =
      let u : free x ≡ false = (names_key p).used in
      let k : good x ≡ true = rw u at h in
      simp (u, g x k)

  blank_fit : Fit blank
  unfolding fit
  blank_fit = refl

  put_fit : (r : Aod) (u : List Object) → good (made r) ≡ true → Each Fit u → Each Fit (put r u)
  unfolding put
  put_fit r u g a =
      change_each (cond (free (named u r.element)) free (names r.element)) (λ (_ : Object). made r) Fit
      (λ x p k. made_fit r g) u a

  sound_kept : (c : Call) → Sound good c → Accepted t c → Each Fit t → Each Fit (changed c t)
  unfolding changed
  sound_kept (aod rs) s h a =
      put_all_keeps (λ (u : List Object). Each Fit u) (λ (r : Aod). good (made r) ≡ true)
      (λ r u g k l b. put_fit r u g b) rs t (each_map (λ r k. k.1) rs s) (real good rs s) (aod_room t rs h) a
  sound_kept (xyz ms) s h a =
      move_all_keeps (λ (u : List Object). Each Fit u) (λ (m : Xyz). (e : Object) → good e ≡ true → good (moved m e) ≡ true)
      (λ m u g k b. change_each (names m.element) (moved m) Fit (λ x p q. move_fit m m.element x g p q) u b)
      ms t s (xyz_known t ms h) a
  sound_kept (clear n) s h a = change_each (names n) (λ (_ : Object). blank) Fit (λ x p k. blank_fit) t a
  sound_kept (unread why place) s h a = a

  single_kept : (c : Call) → Sound good c → Accepted t c → ((n : ℕ) → count (names n) t ≤ 1) → (n : ℕ) → count (names n) (changed c t) ≤ 1
  unfolding changed
  single_kept (aod rs) s h a =
      put_all_keeps (λ (u : List Object). (n : ℕ) → count (names n) u ≤ 1) Real
      (λ r u q k l b. λ n. put_names r u k n l (b n)) rs t (real good rs s) (real good rs s) (aod_room t rs h) a
  single_kept (xyz ms) s h a = λ n. let k = move_all_names n ms t in let l = a n in omega arith
  single_kept (clear m) s h a = λ n.
      let k = clear_few (names m) (names n) t (free_apart n blank refl) in let l = a n in omega arith
  single_kept (unread why place) s h a = a

  pub changed_well : (c : Call) → Sound good c → Accepted t c → Well good t → Well good (changed c t)
  changed_well c s h w = record {
    short = let k = changed_length c t in omega (arith, w.short);
    sound = sound_kept c s h w.sound;
    single = single_kept c s h w.single;
  }

-- what a call that is answered with a count has passed
pub record Passed (good : Object → Bool) (c : Call) (t : List Object) : Type 0 where
  pub table : judged good t ≡ true
  pub accepted : Accepted t c

module _ (good : Object → Bool) (c : Call) (t : List Object) where
  pub passed : {n : ℕ} → answer good c t ≡ Ok n → Passed good c t
  unfolding answer
  passed {n} h =
      split (judged good t) (λ b. record { table = b; accepted = (n, rw b at h) }) (λ b. not_done (rw b at h))

  -- by cases on the answer
  pub next_by : (P : List Object → Type 0) → P t → (Passed good c t → P (changed c t)) → P (next good c t)
  unfolding next
  next_by P p k = go (answer good c t) refl
    where
      go : (a : Answer) → answer good c t ≡ a → P (kept a t (changed c t))
      go (Ok n) e = k (passed e)
      go (Err r) e = p

  -- a call keeps a table well, refused or not
  pub next_well : Sound good c → Well good t → Well good (next good c t)
  next_well s w = next_by (Well good) w (λ q. changed_well good t c s q.accepted w)
