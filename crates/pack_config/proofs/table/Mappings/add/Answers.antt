-- `Mappings::add` keeps what is known of mappings: the index tells the new tag, and the others as before.
use Prim.Native.Nat.{◌+◌}
use mathlib.Core.Path.{sym, ◌∙◌, subst}
use native.Mathlib.Omega.{arith}
use lib.ListN.{set, take, length-set}
use lib.Seq.{length-take-le}
use Rattle.std.proofs.lemmas.List.{take_more_set}
use Rattle.pack_config.specs.Index.{Knows}
use Rattle.pack_config.proofs.Tables.{knows_short, knows_long}
use Rattle.pack_config.proofs.table.Mappings.add.Goals as goal

pub invariant_of-self : goal.invariant_of-self
invariant_of-self c =
    let m = c.args.self.now in
    let w = m.wide in
    record {
      few = omega (arith, c.requires.0);
      wide = (length-set m.tags m.count c.args.tag ∙ w.0, length-set m.places m.count c.args.place ∙ w.1, length-set m.known c.args.tag (m.count + 1) ∙ w.2);
      index =
          subst (λ (l : _). Knows l (set m.known c.args.tag (m.count + 1))) (sym (take_more_set m.tags m.count c.args.tag (omega (arith, w.0, c.requires.0))))
          (knows_short (take m.count m.tags) m.known c.args.tag m.count c.requires.2 (length-take-le m.count m.tags (omega (arith, w.0, m.few))) m.index c.if-tag-lt128.true w.2);
    }

pub invariant_of-self-else-tag-lt128 : goal.invariant_of-self-else-tag-lt128
invariant_of-self-else-tag-lt128 c =
    let m = c.args.self.now in
    let w = m.wide in
    record {
      few = omega (arith, c.requires.0);
      wide = (length-set m.tags m.count c.args.tag ∙ w.0, length-set m.places m.count c.args.place ∙ w.1, w.2);
      index =
          subst (λ (l : _). Knows l m.known) (sym (take_more_set m.tags m.count c.args.tag (omega (arith, w.0, c.requires.0))))
          (knows_long (take m.count m.tags) m.known c.args.tag m.count c.requires.2 (length-take-le m.count m.tags (omega (arith, w.0, m.few))) m.index c.if-tag-lt128.false);
    }
