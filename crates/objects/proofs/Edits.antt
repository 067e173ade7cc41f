-- One entry is changed: what each element names after it, and how many entries are free and how many an element's.
use mathlib.Core.Path.{◌≡◌, refl, sym, ◌∙◌, fun_ext}
use mathlib.Core.List.{List, [], ◌∷◌}
use mathlib.Core.Bool.{Bool, true, false, cond}
use Prim.Native.Nat.{ℕ, ◌+◌, ◌≤◌, ◌<◌}
use native.Mathlib.Omega.{arith}
use lib.Dec.{eqb}
use borrow.Author.Tests.{eqb-true}
use Rattle.runs.specs.Those.{Each}
use Rattle.runs.specs.Finding.{count, first, change}
use Rattle.runs.proofs.Cases.{split}
use Rattle.runs.proofs.Finding.{bit, first_passes, each_none, first_missed, first_hit, count_change, count_unseen}
use Rattle.objects.specs.declared.Object.{Object}
use Rattle.objects.specs.declared.Aod.{Aod}
use Rattle.objects.specs.Entries.{made, blank, free, names, named}
use Rattle.objects.specs.Calls.{put}
use Rattle.objects.proofs.Keys.{Key, names_key, key_names, key_same, free_apart, names_apart, named_none, named_some}

-- entries by element, with another for k
abbrev pub with : (ℕ → Object) → ℕ → Object → ℕ → Object
with has k e n = cond (eqb n k) e (has n)

all_own : (k : ℕ) (t : List Object) → Each (λ (x : Object). names k x ≡ true → names k x ≡ true) t
all_own k [] = search
all_own k (x ∷ t) = (λ e. e, all_own k t)

-- a change that leaves the entry its element
module _ (k : ℕ) (g : Object → Object) (keeps : (x : Object) → names k x ≡ true → names k (g x) ≡ true) (t : List Object) where
  pub edit_named : free (named t k) ≡ false → named (change (names k) g t) ≡ with (named t) k (g (named t k))
  unfolding named
  edit_named h = fun_ext λ n.
      split (eqb n k)
      (λ e. let q : n ≡ k = eqb-true n k e in
      rw (e, q) (first_hit (names k) g (names k) blank keeps t (all_own k t) (named_some k t h)))
      (λ e. rw e (first_missed (names k) g (names n) blank (λ x p. names_apart k n x p e)
      (λ x p. names_apart k n (g x) (keeps x p) e) t))

  -- and no count of entries
  pub edit_names : (n : ℕ) → count (names n) (change (names k) g t) ≡ count (names n) t
  edit_names n =
      count_unseen (names k) g (names n) (λ x p. key_same n (g x) x ((names_key (keeps x p)).element ∙ sym (names_key p).element)) t

  pub edit_free : count free (change (names k) g t) ≡ count free t
  edit_free =
      count_unseen (names k) g free (λ x p. (names_key (keeps x p)).used ∙ sym (names_key p).used) t

-- a record of an AOD, of an element other than 0, put where it has its entry or a free slot
module _ (r : Aod) (t : List Object) (real : eqb r.element 0 ≡ false) where
  abbrev new : Bool
  new = free (named t r.element)

  made_key : Key r.element (made r)
  made_key = record { used = real; element = refl }

  keeps_made : (x : Object) → names r.element x ≡ true → names r.element (made r) ≡ true
  keeps_made x p = key_names made_key

  taken_named : new ≡ true → 0 < count free t
      → named (change free (λ (_ : Object). made r) t) ≡ with (named t) r.element (made r)
  unfolding named
  taken_named e h = fun_ext λ n.
      split (eqb n r.element)
      (λ d. let q : n ≡ r.element = eqb-true n r.element d in
      let none : count (names r.element) t ≡ 0 = named_none r.element t e in
      rw (d, q) (first_hit free (λ (_ : Object). made r) (names r.element) blank (λ x p. key_names made_key) t
      (each_none (names r.element) (λ (x : Object). free x ≡ true) t none) h))
      (λ d. rw d (first_missed free (λ (_ : Object). made r) (names n) blank (λ x p. free_apart n x p)
      (λ x p. names_apart r.element n (made r) (key_names made_key) d) t))

  pub put_named : (new ≡ true → 0 < count free t) → named (put r t) ≡ with (named t) r.element (made r)
  unfolding put
  put_named room =
      split new (λ e. rw e (taken_named e (room e)))
      (λ e. rw e (edit_named r.element (λ (_ : Object). made r) keeps_made t e))

  -- a new element takes a free slot, and another takes none
  pub put_free : (new ≡ true → 0 < count free t) → count free (put r t) + bit new ≡ count free t
  unfolding put
  put_free room =
      split new
      (λ e. let c = count_change free (λ (_ : Object). made r) free blank t (room e) in
      let a : free (first free blank t) ≡ true = first_passes free blank t (room e) in
      let d = rw (a, real) at c in rw e (omega arith))
      (λ e. let d = edit_free r.element (λ (_ : Object). made r) keeps_made t in rw e (omega arith))

  taken_count : (q : Object → Bool) → 0 < count free t → ((e : Object) → free e ≡ true → q e ≡ false)
      → count q (change free (λ (_ : Object). made r) t) ≡ count q t + bit (q (made r))
  taken_count q h k =
      let c = count_change free (λ (_ : Object). made r) q blank t h in
      let a : q (first free blank t) ≡ false = k (first free blank t) (first_passes free blank t h) in
      let d = rw a at c in omega arith

  -- and no element comes twice
  pub put_names : (n : ℕ) → (new ≡ true → 0 < count free t) → count (names n) t ≤ 1 → count (names n) (put r t) ≤ 1
  unfolding put
  put_names n room u =
      split new
      (λ e. let d = taken_count (names n) (room e) (λ x p. free_apart n x p) in
      rw e (split (names n (made r))
      (λ p. let v : count (names n) t ≡ 0 = once_none n e p in let w = rw p at d in omega arith)
      (λ p. let w = rw p at d in omega arith)))
      (λ e. let d = edit_names r.element (λ (_ : Object). made r) keeps_made t n in rw e (omega arith))
    where
      once_none : (n : ℕ) → new ≡ true → names n (made r) ≡ true → count (names n) t ≡ 0
      once_none n e p =
          let b : r.element ≡ n = (names_key p).element in
          rw (← b) (named_none r.element t e)
