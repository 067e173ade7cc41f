-- What a call on a lent table of objects tells C, and what the table then holds, by what the value and the table say.
use mathlib.Core.Path.{◌≡◌, refl, sym, ap, subst, ◌∙◌}
use mathlib.Core.Logic.{◌↔◌}
use mathlib.Core.List.{List, [], ◌∷◌, map}
use mathlib.Core.Bool.{true, false}
use Prim.Native.Nat.{ℕ, suc, ◌+◌}
use native.Mathlib.Omega.{arith}
use lib.Dec.{eqb, ltb}
use lib.ListN.{length}
use borrow.Author.Tests.{eqb-true, eqb-false}
use Rattle.std.specs.Prelude.{Some, Ok, Err}
use Rattle.runs.specs.Finding.{count}
use Rattle.runs.proofs.Cases.{split, one, absurd_eq}
use Rattle.refusals.specs.declared.Refusal.{Refusal}
use Rattle.refusals.specs.declared.Refusal.TheVariants as R
use Rattle.refusals.specs.Refusals.{number_of, refused_at}
use Rattle.refusals.specs.Outcomes.{Answer, Outcome, fine, refused}
use Rattle.refusals.proofs.Numbers.{numbers_apart}
use Rattle.pmd.specs.declared.Kind.TheVariants as K
use Rattle.pmd.specs.Reading.{read_as, fields_read}
use Rattle.objects.specs.declared.Aod.{Aod}
use Rattle.objects.specs.declared.Xyz.{Xyz}
use Rattle.objects.specs.declared.Object.{Object}
use Rattle.objects.specs.Entries.{free, named}
use Rattle.objects.specs.Table.{judged}
use Rattle.objects.specs.Calls.{Call, aod, xyz, clear, unread, Sound, fresh, movable, verdict, answer}
use Rattle.objects.specs.Meanings.{unmoved}
use Rattle.objects.proofs.Sets.{moves_only}
use Rattle.objects.proofs.Laws as laws
use Rattle.objects_pmd.specs.Values.{good, aods_of, xyzs_of, aod_call, xyz_call, call_of}
use Rattle.objects_pmd.proofs.Values.{aod_small, aod_sound, value_sound}
use Rattle.ballastwren.specs.declared.Told.{Told}
use Rattle.ballastwren.specs.Told.{told_of}
use Rattle.ballastwren.specs.Objects.{BwObjects, BwApply, BwClear, AodSet, XyzMoved, Cleared, Overfull}
use Rattle.ballastwren.proofs.Edge.{done_told, refused_told}

module _ {c : Call} {t after : List Object} {a : Told} (x : BwObjects c t a after) where
  -- a call has one outcome
  pub objects_one : {b : Told} {others : List Object} → BwObjects c t b others → (a ≡ b) × (after ≡ others)
  objects_one y = (one x.told y.told, one x.table y.table)

  -- what C is told is what was answered
  answer_done : a.number ≡ 0 → answer good c t ≡ Ok a.value
  answer_done z =
      done_told (answer good c t) (sym (ap (λ (u : Told). u.number) x.told) ∙ z) ∙ ap Ok (sym (ap (λ (u : Told). u.value) x.told))

  -- a refusal changes no entry
  pub refused_keeps : (a.number ≡ 0 → ⊥) → after ≡ t
  refused_keeps h =
      let r = refused_told (answer good c t) (λ z. h (ap (λ (u : Told). u.number) x.told ∙ z)) in
      x.table ∙ laws.refused_keeps good c t r.0 r.1 r.2

  -- a table that is taken is taken afterwards
  kept : Sound good c → judged good t ≡ true → judged good after ≡ true
  kept s h = ap (judged good) x.table ∙ laws.table_kept good c t s h

-- WHAT WAS APPLIED

-- a value that PMD reading refuses is not applied
unread_never : {P : Type 0} (t : List Object) (why : Refusal) (place n : ℕ) → answer good (unread why place) t ≡ Ok n → P
unfolding answer verdict
unread_never t why place n h = split (judged good t) (λ j. absurd_eq (cc (rw j at h))) (λ j. absurd_eq (cc (rw j at h)))

-- an AOD or an XYZ that was applied has numbers
aod_read : (o : Outcome (List ℕ)) (t : List Object) (n : ℕ) → answer good (aod_call o) t ≡ Ok n → (xs : List ℕ) × (o ≡ fine xs)
unfolding aod_call
aod_read (fine xs) t n h = (xs, refl)
aod_read (refused why place) t n h = unread_never t why place n h

xyz_read : (o : Outcome (List ℕ)) (t : List Object) (n : ℕ) → answer good (xyz_call o) t ≡ Ok n → (xs : List ℕ) × (o ≡ fine xs)
unfolding xyz_call
xyz_read (fine xs) t n h = (xs, refl)
xyz_read (refused why place) t n h = unread_never t why place n h

aod_call_lem : (s xs : List ℕ) → fields_read 3 s ≡ fine xs → call_of 3 s ≡ aod (aods_of xs)
unfolding call_of aod_call
aod_call_lem s xs e = ap aod_call e

xyz_call_lem : (s xs : List ℕ) → fields_read 4 s ≡ fine xs → call_of 4 s ≡ xyz (xyzs_of xs)
unfolding call_of xyz_call
xyz_call_lem s xs e = ap xyz_call e

-- how many records an accepted call counts
done_number : {m n : ℕ} → ◌≡◌ {A = Answer} (Ok m) (Ok n) → m ≡ n
done_number e = ap (λ (a : Answer). (told_of a).value) e

movable_count : (has : ℕ → Object) (k : ℕ) (ms : List Xyz) (n : ℕ) → movable has k ms ≡ Ok n → n ≡ k + length ms
unfolding movable
movable_count has k [] n h = let e : k ≡ n = done_number h in omega arith
movable_count has k (m ∷ ms) n h =
    split (free (has m.element)) (λ f. absurd_eq (cc (rw f at h)))
    (λ f. split (eqb (has m.element).dynamic 0) (λ d. absurd_eq (cc (rw (f, d) at h)))
    (λ d. let i = movable_count has (suc k) ms n (rw (f, d) at h) in omega arith))

module _ (t : List Object) (n : ℕ) where
  aod_count : (rs : List Aod) → answer good (aod rs) t ≡ Ok n → n ≡ length rs
  unfolding answer verdict
  aod_count rs h =
      split (judged good t)
      (λ j. split (ltb (count free t) (length (fresh (named t) rs))) (λ l. absurd_eq (cc (rw (j, l) at h))) (λ l. sym (done_number (rw (j, l) at h))))
      (λ j. absurd_eq (cc (rw j at h)))

  xyz_count : (ms : List Xyz) → answer good (xyz ms) t ≡ Ok n → n ≡ length ms
  unfolding answer verdict
  xyz_count ms h = split (judged good t) (λ j. let i = movable_count (named t) 0 ms n (rw j at h) in omega arith) (λ j. absurd_eq (cc (rw j at h)))

  clear_count : (k : ℕ) → answer good (clear k) t ≡ Ok n → n ≡ 1
  unfolding answer verdict
  clear_count k h =
      split (judged good t)
      (λ j. split (free (named t k)) (λ f. absurd_eq (cc (rw (j, f) at h))) (λ f. sym (done_number (rw (j, f) at h))))
      (λ j. absurd_eq (cc (rw j at h)))

-- the call of a value of either kind is its reading's
aod_is : (s : List ℕ) → call_of 3 s ≡ aod_call (fields_read 3 s)
unfolding call_of
aod_is s = refl

xyz_is : (s : List ℕ) → call_of 4 s ≡ xyz_call (fields_read 4 s)
unfolding call_of
xyz_is s = refl

module _ {t after : List Object} {a : Told} where
  aod_set : (s xs : List ℕ) → fields_read 3 s ≡ fine xs → BwObjects (aod (aods_of xs)) t a after → a.number ≡ 0 → AodSet s t a after
  aod_set s xs e x z =
      let d = answer_done x z in
      record { numbers = xs; read = e; records = aod_count t a.value (aods_of xs) d; table = x.table ∙ laws.aod_sets good (aods_of xs) t a.value (aod_sound s xs e) d }

  -- an AOD that is applied sets the entries of its elements, the k-th new one in the k-th free slot
  pub aod_sets : (s : List ℕ) → BwApply 3 s t a after → a.number ≡ 0 → AodSet s t a after
  aod_sets s x z =
      let d = answer_done x z in
      let r = aod_read (fields_read 3 s) t a.value (sym (ap (λ (c : Call). answer good c t) (aod_is s)) ∙ d) in
      aod_set s r.0 r.1 (subst (λ (c : Call). BwObjects c t a after) (aod_call_lem s r.0 r.1) x) z

  xyz_moved : (s xs : List ℕ) → fields_read 4 s ≡ fine xs → BwObjects (xyz (xyzs_of xs)) t a after → a.number ≡ 0 → XyzMoved s t a after
  xyz_moved s xs e x z =
      let d = answer_done x z in
      let m = x.table ∙ laws.xyz_moves good (xyzs_of xs) t a.value d in
      record { numbers = xs; read = e; records = xyz_count t a.value (xyzs_of xs) d; table = m; only = ap (map unmoved) m ∙ moves_only (xyzs_of xs) t }

  -- an XYZ that is applied changes x, y and z of the entries that it names, and nothing else
  pub xyz_moves : (s : List ℕ) → BwApply 4 s t a after → a.number ≡ 0 → XyzMoved s t a after
  xyz_moves s x z =
      let d = answer_done x z in
      let r = xyz_read (fields_read 4 s) t a.value (sym (ap (λ (c : Call). answer good c t) (xyz_is s)) ∙ d) in
      xyz_moved s r.0 r.1 (subst (λ (c : Call). BwObjects c t a after) (xyz_call_lem s r.0 r.1) x) z

  -- an element that is cleared leaves a blank entry, and nothing else changes
  pub clear_frees : (k : ℕ) → BwClear k t a after → a.number ≡ 0 → Cleared k t a after
  clear_frees k x z =
      let d = answer_done x z in
      record { one = clear_count t a.value k d; table = x.table ∙ laws.clear_frees good k t a.value d }

  -- a table that is taken is taken after whatever is asked
  pub apply_kept : (kind : ℕ) (s : List ℕ) → BwApply kind s t a after → judged good t ≡ true → judged good after ≡ true
  apply_kept kind s x h = kept x (value_sound kind s) h

  pub clear_kept : (k : ℕ) → BwClear k t a after → judged good t ≡ true → judged good after ≡ true
  clear_kept k x h = kept x tt h

-- FULL

refused_place : {why other : Refusal} {p q : ℕ} → ◌≡◌ {A = Answer} (Err (refused_at why p)) (Err (refused_at other q)) → (number_of why ≡ number_of other) × (p ≡ q)
refused_place e = (ap (λ (a : Answer). (told_of a).number) e, ap (λ (a : Answer). (told_of a).value) e)

not_full : {P : Type 0} (why : Refusal) {p q : ℕ} → eqb (number_of why) 24 ≡ false → ◌≡◌ {A = Answer} (Err (refused_at why p)) (Err (refused_at R.Full q)) → P
not_full why d e = absurd (eqb-false (number_of why) 24 d (refused_place e).0)

movable_never : {P : Type 0} (has : ℕ → Object) (k : ℕ) (ms : List Xyz) (place : ℕ) → movable has k ms ≡ Err (refused_at R.Full place) → P
unfolding movable
movable_never has k [] place h = let never : ◌≡◌ {A = Answer} (Ok k) (Err (refused_at R.Full place)) = h in absurd_eq (cc)
movable_never has k (m ∷ ms) place h =
    split (free (has m.element)) (λ f. not_full R.Unknown refl (rw f at h))
    (λ f. split (eqb (has m.element).dynamic 0) (λ d. not_full R.Static refl (rw (f, d) at h))
    (λ d. movable_never has (suc k) ms place (rw (f, d) at h)))

-- only an AOD is FULL
full_call : (c : Call) (t : List Object) (place : ℕ) → Sound good c → answer good c t ≡ Err (refused_at R.Full place) → (rs : List Aod) × (c ≡ aod rs) × (place ≡ 0)
unfolding answer verdict
full_call (aod rs) t place s h =
    split (judged good t)
    (λ j. split (ltb (count free t) (length (fresh (named t) rs))) (λ l. (rs, refl, sym (refused_place (rw (j, l) at h)).1)) (λ l. absurd_eq (cc (rw (j, l) at h))))
    (λ j. not_full R.Table refl (rw j at h))
full_call (xyz ms) t place s h = split (judged good t) (λ j. movable_never (named t) 0 ms place (rw j at h)) (λ j. not_full R.Table refl (rw j at h))
full_call (clear k) t place s h =
    split (judged good t)
    (λ j. split (free (named t k)) (λ f. not_full R.Unknown refl (rw (j, f) at h)) (λ f. absurd_eq (cc (rw (j, f) at h))))
    (λ j. not_full R.Table refl (rw j at h))
full_call (unread why p) t place s h =
    split (judged good t) (λ j. let e = (refused_place (rw j at h)).0 in absurd (omega (arith, s))) (λ j. not_full R.Table refl (rw j at h))

-- an AOD's records are those of a value of kind 3
aod_outcome : (o : Outcome (List ℕ)) (rs : List Aod) → aod_call o ≡ aod rs → (xs : List ℕ) × (o ≡ fine xs) × (aod (aods_of xs) ≡ aod rs)
unfolding aod_call
aod_outcome (fine xs) rs e = (xs, refl, e)
aod_outcome (refused why place) rs e = absurd_eq (cc)

xyz_other : {P : Type 0} (o : Outcome (List ℕ)) (rs : List Aod) → xyz_call o ≡ aod rs → P
unfolding xyz_call
xyz_other (fine xs) rs e = absurd_eq (cc)
xyz_other (refused why place) rs e = absurd_eq (cc)

aod_kind : (kind : ℕ) (s : List ℕ) (rs : List Aod) → call_of kind s ≡ aod rs → (kind ≡ 3) × (aod_call (fields_read 3 s) ≡ aod rs)
unfolding call_of
aod_kind kind s rs e =
    split (eqb kind 3) (λ k. (eqb-true kind 3 k, rw k at e))
    (λ k. split (eqb kind 4) (λ l. xyz_other (read_as (Some K.Xyz) s) rs (rw (k, l) at e)) (λ l. absurd_eq (cc (rw (k, l) at e))))

-- a refusal that is told by its number
refusal_told : (a : Answer) (why : Refusal) → (told_of a).number ≡ number_of why → a ≡ Err (refused_at why (told_of a).value)
refusal_told (Ok n) why e = let never = done_told (Err (refused_at why 0)) (sym e) in absurd_eq (cc)
refusal_told (Err w) why e = ap (λ (r : Refusal). Err (refused_at r w.place)) (numbers_apart w.why why e)

module _ {t after : List Object} {a : Told} (kind : ℕ) (s : List ℕ) (x : BwApply kind s t a after) where
  overfull : (xs : List ℕ) → kind ≡ 3 → fields_read 3 s ≡ fine xs → answer good (aod (aods_of xs)) t ≡ Err (refused_at R.Full 0) → Overfull kind s t
  overfull xs k e h =
      let b = (laws.full_exactly good (aods_of xs) t (aod_small s xs e)).0 h in
      record { aod = k; numbers = xs; read = e; taken = b.0; over = b.1 }

  is_full : a.number ≡ 24 → Overfull kind s t
  is_full z =
      let r = refusal_told (answer good (call_of kind s) t) R.Full (sym (ap (λ (u : Told). u.number) x.told) ∙ z) in
      let f = full_call (call_of kind s) t (told_of (answer good (call_of kind s) t)).value (value_sound kind s) r in
      let k = aod_kind kind s f.0 f.1 in
      let o = aod_outcome (fields_read 3 s) f.0 k.1 in
      overfull o.0 k.0 o.1 (ap (λ (c : Call). answer good c t) (o.2 ∙ sym f.1) ∙ r ∙ ap (λ (p : ℕ). Err (refused_at R.Full p)) f.2)

  told_full : Overfull kind s t → a.number ≡ 24
  told_full v =
      let b = (laws.full_exactly good (aods_of v.numbers) t (aod_small s v.numbers v.read)).1 (v.taken, v.over) in
      let c : call_of kind s ≡ aod (aods_of v.numbers) = ap (λ (k : ℕ). call_of k s) v.aod ∙ aod_call_lem s v.numbers v.read in
      ap (λ (u : Told). u.number) (x.told ∙ ap told_of (ap (λ (d : Call). answer good d t) c ∙ b))

  -- FULL is told exactly where the new elements of an AOD, each counted once, exceed the free slots of a table that is taken
  pub full_exactly : (a.number ≡ 24) ↔ Overfull kind s t
  full_exactly = (is_full, told_full)
