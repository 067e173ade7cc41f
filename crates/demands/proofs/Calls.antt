-- The calls of each function meet the demands, by the page of promises: where all are made, and where the first of two is refused.
use mathlib.Core.Path.{◌≡◌, refl, subst}
use mathlib.Core.List.{List}
use Prim.Native.Nat.{ℕ, ◌-◌}
use native.Mathlib.Omega.{arith}
use lib.ListN.{take}
use Rattle.runs.specs.Digits.{Bytes}
use Rattle.pack.specs.Reading.{checked}
use Rattle.scrub_kept.specs.Sheet.{sheet_checked}
use Rattle.lookup.specs.Lookup.{looked_up}
use Rattle.pmd.specs.Gain.{level_of}
use Rattle.ballastwren.specs.Told.{told_of, told_found_of, told_gain_of, BwRead, BwScrub, BwPmdRead, BwPmdWrite}
use Rattle.ballastwren.specs.declared.Told.{Told}
use Rattle.ballastwren.specs.declared.ToldFound.{ToldFound}
use Rattle.ballastwren.specs.declared.ToldGain.{ToldGain}
use Rattle.promises.proofs.Promises as promises
use Rattle.demands.specs.Demands.{Unchanged, InTurn, ScrubTwo, ScrubAndRead, ReadAndWrite, WriteAndRead, CheckAndRead, CheckSheetAndScrub, CheckAndLookUp, TellGain}

-- TWO CALLS IN TURN

-- the part from 0 on
from_start : (n : ℕ) → n - 0 ≡ n
from_start n = omega arith

module _ (First : Told → List ℕ → Type 0) (Second : List ℕ → Told → List ℕ → Type 0) {before run xs : List ℕ} {a : Told} (x : First a xs) (kept : Unchanged a before xs) where
  -- the first is refused
  stopped : {Demand : Type 0} → (a.number ≡ 0 → ⊥) → Demand → InTurn First Second Demand before run a xs a run
  stopped h d = record { first = x; second = λ z. absurd (h z); omitted = λ g. (refl, refl); unchanged = (kept, λ g. refl); demand = d }

  -- both are made
  both : {Demand : Type 0} {b : Told} {ys : List ℕ} → a.number ≡ 0 → Second (take (a.value - 0) xs) b ys
      → (Second (take a.value xs) b ys → Unchanged b run ys) → (Second (take a.value xs) b ys → Demand) → InTurn First Second Demand before run a xs b ys
  both {b = b} {ys = ys} zero part same meets =
      let y = subst (λ (n : ℕ). Second (take n xs) b ys) (from_start a.value) part in
      record { first = x; second = λ z. y; omitted = λ h. absurd (h zero); unchanged = (kept, same y); demand = meets y }

-- PACKS

pub scrub_two : (sheet s t : List ℕ) {before other us vs : List ℕ} {a b : Told} → BwScrub sheet s before a us → BwScrub sheet t other b vs
    → ScrubTwo sheet s t before other a us b vs
scrub_two sheet s t x y = record {
  first = x;
  second = y;
  unchanged = (promises.refused_unchanged sheet s x, promises.refused_unchanged sheet t y);
  same = λ sh r q named accepted also offsets items lengths. promises.same_kept_same_buffer sheet s sh r named accepted t q also offsets items lengths x y;
}

module _ (sheet s : List ℕ) {before out run : List ℕ} {a : Told} (x : BwScrub sheet s before a out) where
  pub scrub_refused : (a.number ≡ 0 → ⊥) → ScrubAndRead sheet s before run a out a run
  scrub_refused h =
      stopped (BwScrub sheet s before) (λ part. BwRead part run) x (promises.refused_unchanged sheet s x) h (λ sh r named accepted zero. absurd (h zero))

  pub scrub_then_read : {b : Told} {rows : List ℕ} → Bytes s → a.number ≡ 0 → BwRead (take (a.value - 0) out) run b rows
      → ScrubAndRead sheet s before run a out b rows
  scrub_then_read bytes zero part =
      both (BwScrub sheet s before) (λ part. BwRead part run) x (promises.refused_unchanged sheet s x) zero part
      (λ y. promises.read_unchanged (take a.value out) y)
      (λ y sh r named accepted done. promises.read_back sheet s sh r named accepted bytes x done)

pub check_then_read : (pack : List ℕ) {run rows : List ℕ} {a b : Told} → Bytes pack → a ≡ told_of (checked pack) → BwRead pack run b rows
    → CheckAndRead pack run a b rows
check_then_read pack bytes x y =
    let told = promises.check_then_read pack x y in
    record {
      first = x;
      second = y;
      unchanged = promises.read_unchanged pack y;
      exactly = promises.accepted_exactly pack bytes x;
      wrong = promises.told_exactly pack bytes x;
      refused = told.0;
      room = told.1;
      no_room = told.2;
    }

pub check_then_scrub : (sheet s : List ℕ) {before out : List ℕ} {a b : Told} → Bytes s → a ≡ told_of (sheet_checked sheet) → BwScrub sheet s before b out
    → CheckSheetAndScrub sheet s before a b out
check_then_scrub sheet s bytes x y =
    let alike = promises.sheet_check_then_scrub sheet s bytes x y in
    let counts = promises.sheet_entries sheet x in
    record {
      first = x;
      second = y;
      unchanged = promises.refused_unchanged sheet s y;
      refused = alike.0;
      accepted = alike.1;
      entries = counts.0;
      all = counts.1;
    }

pub check_then_look_up : (main backup l : List ℕ) {c d : Told} {a : ToldFound} → Bytes main → Bytes backup
    → c ≡ told_of (checked main) → d ≡ told_of (checked backup) → a ≡ told_found_of (looked_up main backup l) → CheckAndLookUp main backup l c d a
check_then_look_up main backup l m b p q x =
    let order = promises.lookup_refused main backup l x p q in
    record {
      main_checked = p;
      backup_checked = q;
      call = x;
      first = promises.lookup_first main backup l x m b;
      total = promises.lookup_total main backup l x m b;
      main_refused = order.0;
      backup_refused = order.1;
      otherwise = order.2;
      absent = promises.absent_exactly main backup l x m b;
      strange = promises.label_of_sixteen main backup l x p q;
    }

-- PMD VALUES

module _ (kind : ℕ) (value : List ℕ) {before numbers run : List ℕ} {a : Told} (x : BwPmdRead kind value before a numbers) where
  pub read_refused : (a.number ≡ 0 → ⊥) → ReadAndWrite kind value before run a numbers a run
  read_refused h =
      stopped (BwPmdRead kind value before) (λ part. BwPmdWrite kind part run) x (promises.pmd_read_unchanged kind value x) h (λ zero room. absurd (h zero))

  pub read_then_write : {b : Told} {out : List ℕ} → Bytes value → a.number ≡ 0 → BwPmdWrite kind (take (a.value - 0) numbers) run b out
      → ReadAndWrite kind value before run a numbers b out
  read_then_write bytes zero part =
      both (BwPmdRead kind value before) (λ part. BwPmdWrite kind part run) x (promises.pmd_read_unchanged kind value x) zero part
      (λ y. promises.pmd_write_unchanged kind (take a.value numbers) y)
      (λ y done. promises.bw_read_then_write kind value bytes x done y)

module _ (kind : ℕ) (numbers : List ℕ) {before value run : List ℕ} {a : Told} (x : BwPmdWrite kind numbers before a value) where
  pub write_refused : (a.number ≡ 0 → ⊥) → WriteAndRead kind numbers before run a value a run
  write_refused h =
      stopped (BwPmdWrite kind numbers before) (λ part. BwPmdRead kind part run) x (promises.pmd_write_unchanged kind numbers x) h (λ zero room. absurd (h zero))

  pub write_then_read : {b : Told} {fields : List ℕ} → a.number ≡ 0 → BwPmdRead kind (take (a.value - 0) value) run b fields
      → WriteAndRead kind numbers before run a value b fields
  write_then_read zero part =
      both (BwPmdWrite kind numbers before) (λ part. BwPmdRead kind part run) x (promises.pmd_write_unchanged kind numbers x) zero part
      (λ y. promises.pmd_read_unchanged kind (take a.value value) y)
      (λ y done. promises.bw_write_then_read kind numbers x done y)

pub tell_gain : (gain : ℕ) {t : ToldGain} → t ≡ told_gain_of (level_of gain) → TellGain gain t
tell_gain gain x = let told = promises.gain_levels gain x in record { call = x; muted = told.0; level = told.1; refused = told.2 }
