-- What is promised of the calls on the object table, for any rule `good` of a used entry's fields.
use mathlib.Core.Path.{◌≡◌, sym, ◌∙◌}
use mathlib.Core.Logic.{◌↔◌}
use mathlib.Core.List.{List}
use mathlib.Core.Bool.{Bool, true}
use Prim.Native.Nat.{ℕ, ◌≤◌, ◌<◌}
use Rattle.std.specs.Prelude.{Ok, Err}
use Rattle.runs.specs.Those.{Each}
use Rattle.runs.specs.Finding.{count}
use Rattle.refusals.specs.Refusals.{refused_at}
use Rattle.refusals.specs.declared.Refusal.{Refusal}
use Rattle.refusals.specs.declared.Refusal.TheVariants as R
use Rattle.objects.specs.declared.Object.{Object}
use Rattle.objects.specs.declared.Aod.{Aod}
use Rattle.objects.specs.declared.Xyz.{Xyz}
use Rattle.objects.specs.Entries.{free, names, named}
use Rattle.objects.specs.Table.{judged}
use Rattle.objects.specs.Calls.{Call, aod, xyz, clear, changed, Sound, answer, next}
use Rattle.objects.specs.Meanings.{after_aod, after_xyz, after_clear, newcomers}
use Rattle.objects.proofs.Well.{judged_well, well_judged}
use Rattle.objects.proofs.Kept.{passed, real, aod_room, next_well}
use Rattle.objects.proofs.Sets.{put_all_sets, move_all_moves, clear_clears}
use Rattle.objects.proofs.Exact.{fresh_newcomers, fulls}

module _ (good : Object → Bool) where
  -- a refused call leaves the table as it is
  pub refused_keeps : (c : Call) (t : List Object) (why : Refusal) (place : ℕ) → answer good c t ≡ Err (refused_at why place) → next good c t ≡ t
  unfolding next
  refused_keeps c t why place h = rw h

  module _ (c : Call) (t : List Object) {n : ℕ} (h : answer good c t ≡ Ok n) where
    next_done : next good c t ≡ changed c t
    unfolding next
    next_done = rw h

    single : (m : ℕ) → count (names m) t ≤ 1
    single m = (judged_well good t (passed good c t h).table).single m

  -- an accepted AOD puts its k-th new element into the k-th free slot and renews each entry that it names as the last record that names it has it
  pub aod_sets : (rs : List Aod) (t : List Object) (n : ℕ) → Sound good (aod rs) → answer good (aod rs) t ≡ Ok n → next good (aod rs) t ≡ after_aod rs t
  unfolding changed
  aod_sets rs t n s h =
      next_done (aod rs) t h
      ∙ put_all_sets rs t (real good rs s) (aod_room t rs (passed good (aod rs) t h).accepted) (single (aod rs) t h)

  -- an accepted XYZ changes x, y and z of the entries that it names, as the last record that names one has them, and nothing else
  pub xyz_moves : (ms : List Xyz) (t : List Object) (n : ℕ) → answer good (xyz ms) t ≡ Ok n → next good (xyz ms) t ≡ after_xyz ms t
  unfolding changed
  xyz_moves ms t n h = next_done (xyz ms) t h ∙ move_all_moves ms t (single (xyz ms) t h)

  -- an accepted clearing blanks the entry of that element, and nothing else
  pub clear_frees : (k : ℕ) (t : List Object) (n : ℕ) → answer good (clear k) t ≡ Ok n → next good (clear k) t ≡ after_clear k t
  unfolding changed
  clear_frees k t n h = next_done (clear k) t h ∙ clear_clears k t (single (clear k) t h k)

  -- a table that is taken is taken after any sound call
  pub table_kept : (c : Call) (t : List Object) → Sound good c → judged good t ≡ true → judged good (next good c t) ≡ true
  table_kept c t s h = well_judged good (next good c t) (next_well good c t s (judged_well good t h))

  -- an AOD is told FULL exactly when its new elements, counted with no order, exceed the free slots
  pub full_exactly : (rs : List Aod) (t : List Object) → Each (λ (r : Aod). r.element < 4096) rs
      → (answer good (aod rs) t ≡ Err (refused_at R.Full 0)) ↔ ((judged good t ≡ true) × (count free t < newcomers (named t) rs))
  full_exactly rs t b = rw (sym (fresh_newcomers (named t) rs b)) (fulls good rs t)
