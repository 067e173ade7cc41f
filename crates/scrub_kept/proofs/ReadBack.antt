-- Reading a pack that was written: it says what was to be written, and so the pack of a scrub says what is kept.
use mathlib.Core.Path.{◌≡◌, sym, ap, subst, ◌∙◌}
use mathlib.Core.List.{List}
use Prim.Native.Nat.{ℕ, ◌≤◌}
use native.Mathlib.Omega.{arith}
use lib.ListN.{length}
use Rattle.runs.specs.Digits.{Bytes}
use Rattle.refusals.specs.Outcomes.{fine}
use Rattle.pack.specs.Fixed.{pack_cap}
use Rattle.pack.specs.Said.{Said, names}
use Rattle.pack.specs.Reading.{Read, reading}
use Rattle.pack.specs.Meaning.{meant}
use Rattle.pack_layout.proofs.LaidBytes.{layout_below}
use Rattle.pack_layout.proofs.Complete.{reading_complete}
use Rattle.scrub_kept.specs.Sheet.{Sheet, sheet_of}
use Rattle.scrub_kept.specs.Kept.{kept}
use Rattle.scrub_kept.specs.Written.{described, written}
use Rattle.scrub_kept.specs.Scrubbed.{scrubbed, ReadsAs}
use Rattle.scrub_kept.proofs.Sayable.{Sayable, pack_sayable}
use Rattle.scrub_kept.proofs.Keeping.{kept_sayable}
use Rattle.scrub_kept.proofs.Described.{names_total, described_says, described_well}
use Rattle.scrub_kept.proofs.Scrubbing.{scrub_is, room_is}

written_reads : (ls : List (List ℕ)) (k : Said) → Sayable ls k → length (written k) ≤ pack_cap → ReadsAs (written k) k
unfolding written described
written_reads ls k s h =
    let w = described_well ls k s h in
    let c = reading_complete (described k) w in
    record { bytes = layout_below (described k) w; read = c.read; accepted = c.reads; says = c.means ∙ described_says k; crc = c.marks }

module _ (s : List ℕ) (r : Read) (sh : Sheet) (bytes : Bytes s) (accepted : reading s ≡ fine r) where
  says_kept : (ls : List (List ℕ)) × Sayable ls (kept sh (meant s r))
  says_kept = let p = pack_sayable s r bytes accepted in (p.0, kept_sayable sh p.0 (meant s r) p.1)

  -- of an accepted pack no more than 64 payloads are kept
  pub kept_few : length (names (kept sh (meant s r)).items) ≤ 64
  kept_few = omega (arith, names_total (kept sh (meant s r)).items, says_kept.1.count)

  pub scrub_reads : (sheet b : List ℕ) (room : ℕ) → sheet_of sheet ≡ fine sh → scrubbed sheet s room ≡ fine b → ReadsAs b (kept sh (meant s r))
  scrub_reads sheet b room good h =
      let k = kept sh (meant s r) in
      let i = room_is room (written k) b (sym (scrub_is sheet s sh r room good accepted) ∙ h) in
      subst (λ (x : List ℕ). ReadsAs x k) i.0 (written_reads says_kept.0 k says_kept.1 (omega (arith, ap length i.0)))
