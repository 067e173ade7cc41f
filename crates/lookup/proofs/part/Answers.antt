-- `lookup::part` meets its contract: by what was found, and in which pack.
use mathlib.Core.Path.{◌≡◌, sym, ap, ◌∙◌}
use mathlib.Core.List.{[]}
use Prim.Native.Nat.{ℕ, ◌+◌}
use native.Mathlib.Omega.{arith}
use lib.Dec.{leb}
use lib.ListN.{take, drop_of_length-le}
use lib.Seq.{take_all}
use Rattle.runs.proofs.Cases.{split}
use Rattle.pack.specs.Meaning.{stretch_in}
use Rattle.lookup.specs.Lookup.{pack_of, part_of}
use Rattle.lookup.specs.declared.Mark.{Mark}
use Rattle.lookup.proofs.part.Goals as goal
use Rattle.lookup.proofs.part.Goals.{In-Ok}

-- no bytes of neither pack
none_in : (v l : ℕ) → stretch_in [] v l ≡ []
unfolding stretch_in
none_in v l =
    split (leb (v + l) 0)
    (λ e. simp e (ap (take l) (drop_of_length-le {A = ℕ} [] {i = v} (omega arith)) ∙ take_all {A = ℕ} l [] (omega arith)))
    (λ e. simp e)

pub returns-in_default : goal.returns-in_default
unfolding part_of
returns-in_default c = sym (ap (part_of c.args.main.now c.args.backup.now) c.in_default.is)

pub returns-in-Main : goal.returns-in-Main
unfolding part_of
returns-in-Main c = c.stretch.ensures ∙ sym (ap (λ (m : Mark). stretch_in (pack_of m c.args.main.now c.args.backup.now) c.in-Ok.found.value.start c.in-Ok.found.value.len) c.in-Main.is) ∙ sym (ap (part_of c.args.main.now c.args.backup.now) c.in-Ok.is)

pub returns-in-Backup : goal.returns-in-Backup
unfolding part_of
returns-in-Backup c = c.stretch-in-Backup.ensures ∙ sym (ap (λ (m : Mark). stretch_in (pack_of m c.args.main.now c.args.backup.now) c.in-Ok.found.value.start c.in-Ok.found.value.len) c.in-Backup.is) ∙ sym (ap (part_of c.args.main.now c.args.backup.now) c.in-Ok.is)

pub returns-in-Neither : goal.returns-in-Neither
unfolding part_of
returns-in-Neither c = sym (none_in c.in-Ok.found.value.start c.in-Ok.found.value.len) ∙ sym (ap (λ (m : Mark). stretch_in (pack_of m c.args.main.now c.args.backup.now) c.in-Ok.found.value.start c.in-Ok.found.value.len) c.in-Neither.is) ∙ sym (ap (part_of c.args.main.now c.args.backup.now) c.in-Ok.is)
