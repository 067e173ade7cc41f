-- One more entry, and its mark if it is used.
use mathlib.Core.Path.{◌≡◌, sym, ◌∙◌}
use Prim.Native.Nat.{◌<◌}
use native.Mathlib.Omega.{arith}
use lib.ListN.{length}
use Rattle.objects_apply.specs.declared.table.Table.{Table}
use Rattle.objects_apply.proofs.Judging.{follows_both}
use Rattle.objects_apply.proofs.Good.{good_small}
use Rattle.objects_apply.proofs.Stores.{pushed_free, pushed_used, pushed_sought}
use Rattle.objects_apply.proofs.table.Table.push.Goals as goal

-- there is room behind the entries
room : (t : Table) → t.len < 128 → t.len < length t.entries
room t h = let w = t.wide in omega arith

pub bounds-self-o : goal.bounds-self-o
bounds-self-o c =
    good_small _ (follows_both _ _ (sym c.is_free.ensures ∙ c.if-not-is_free.true) c.requires.next).0

pub invariant_of-self-clause-noted : goal.invariant_of-self-clause-noted
invariant_of-self-clause-noted c =
    let t = c.args.self.now in
    pushed_used _ _ _ (room t c.requires.room) t.noted (sym c.is_free.ensures ∙ c.if-not-is_free.true) c.requires.next

pub invariant_of-self-clause-none_free : goal.invariant_of-self-clause-none_free
invariant_of-self-clause-none_free c =
    let t = c.args.self.now in pushed_sought _ _ _ (room t c.requires.room) t.none_free

pub invariant_of-self-else-not-is_free-clause-noted : goal.invariant_of-self-else-not-is_free-clause-noted
invariant_of-self-else-not-is_free-clause-noted c =
    let t = c.args.self.now in
    pushed_free _ _ _ (room t c.requires.room) t.noted (sym c.is_free.ensures ∙ c.if-not-is_free.false)

pub invariant_of-self-else-not-is_free-clause-none_free : goal.invariant_of-self-else-not-is_free-clause-none_free
invariant_of-self-else-not-is_free-clause-none_free c =
    let t = c.args.self.now in pushed_sought _ _ _ (room t c.requires.room) t.none_free
