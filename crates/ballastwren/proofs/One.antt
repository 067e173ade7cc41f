-- Two outcomes of an export that meet its contract on the same input coincide, lent runs included.
use Prim.Native.Nat.{ℕ}
use mathlib.Core.Path.{◌≡◌}
use mathlib.Core.List.{List}
use Rattle.runs.proofs.Cases.{one}
use Rattle.refusals.proofs.One.{lends_one}
use Rattle.pack.specs.Reading.{checked}
use Rattle.scrub_kept.specs.Sheet.{sheet_checked}
use Rattle.lookup.specs.Lookup.{looked_up}
use Rattle.pmd.specs.Gain.{level_of}
use Rattle.objects.specs.declared.Object.{Object}
use Rattle.ballastwren.specs.Told.{told_of, told_found_of, told_gain_of, BwRead, BwScrub, BwPmdRead, BwPmdWrite}
use Rattle.ballastwren.specs.Objects.{BwApply, BwClear}
use Rattle.ballastwren.specs.Version.{version}
use Rattle.ballastwren.specs.declared.Told.{Told}
use Rattle.ballastwren.specs.declared.ToldFound.{ToldFound}
use Rattle.ballastwren.specs.declared.ToldGain.{ToldGain}
use Rattle.ballastwren.proofs.Tables.{objects_one}

pub bw_check_one : (pack : List ℕ) (a b : Told) → a ≡ told_of (checked pack) → b ≡ told_of (checked pack) → a ≡ b
bw_check_one pack a b = one

pub bw_read_one : (pack before us vs : List ℕ) (a b : Told)
    → BwRead pack before a us → BwRead pack before b vs → (a ≡ b) × (us ≡ vs)
bw_read_one pack before us vs a b = lends_one

pub bw_scrub_one : (sheet pack before us vs : List ℕ) (a b : Told)
    → BwScrub sheet pack before a us → BwScrub sheet pack before b vs → (a ≡ b) × (us ≡ vs)
bw_scrub_one sheet pack before us vs a b = lends_one

pub bw_sheet_check_one : (sheet : List ℕ) (a b : Told) → a ≡ told_of (sheet_checked sheet) → b ≡ told_of (sheet_checked sheet) → a ≡ b
bw_sheet_check_one sheet a b = one

pub bw_lookup_one : (main backup l : List ℕ) (a b : ToldFound) → a ≡ told_found_of (looked_up main backup l) → b ≡ told_found_of (looked_up main backup l) → a ≡ b
bw_lookup_one main backup l a b = one

pub bw_pmd_read_one : (kind : ℕ) (value before us vs : List ℕ) (a b : Told)
    → BwPmdRead kind value before a us → BwPmdRead kind value before b vs
    → (a ≡ b) × (us ≡ vs)
bw_pmd_read_one kind value before us vs a b = lends_one

pub bw_pmd_write_one : (kind : ℕ) (numbers before us vs : List ℕ) (a b : Told)
    → BwPmdWrite kind numbers before a us → BwPmdWrite kind numbers before b vs
    → (a ≡ b) × (us ≡ vs)
bw_pmd_write_one kind numbers before us vs a b = lends_one

pub bw_gain_one : (gain : ℕ) (a b : ToldGain) → a ≡ told_gain_of (level_of gain) → b ≡ told_gain_of (level_of gain) → a ≡ b
bw_gain_one gain a b = one

pub bw_objects_apply_one : (kind : ℕ) (value : List ℕ) (before us vs : List Object) (a b : Told)
    → BwApply kind value before a us → BwApply kind value before b vs → (a ≡ b) × (us ≡ vs)
bw_objects_apply_one kind value before us vs a b x y = objects_one x y

pub bw_objects_clear_one : (element : ℕ) (before us vs : List Object) (a b : Told)
    → BwClear element before a us → BwClear element before b vs → (a ≡ b) × (us ≡ vs)
bw_objects_clear_one element before us vs a b x y = objects_one x y

pub bw_version_one : (a b : ℕ) → a ≡ version → b ≡ version → a ≡ b
bw_version_one a b = one
