-- `scrub_names::Names::add` meets its contract. By the mark.
use mathlib.Core.Path.{◌≡◌, ap, ◌∙◌}
use Rattle.std.specs.Prelude.{Some}
use mathlib.Core.Logic.{inl, inr}
use Rattle.scrub_names.proofs.Noting.{label_low, note_gone, note_outside, note_inside, note_seen, note_new}
use Rattle.scrub_names.proofs.Names.add.Goals as goal

pub returns-in-None : goal.returns-in-None
returns-in-None c ms here n = note_gone n here c.requires.0 _ c.in-None.is

pub returns-then-t-lt128 : goal.returns-then-t-lt128
returns-then-t-lt128 c ms here n =
    note_inside n here c.requires.0 _ _ (let e : c.args.mark ≡ Some c.in-Some-Number.field-0 = c.in-Some-Number.is in e ∙ ap Some (rw e at c.in-Some-Number.field-0-is)) c.if-t-ge64.true c.if-t-lt128.true

pub returns-else-t-ge64 : goal.returns-else-t-ge64
returns-else-t-ge64 c ms here n =
    note_outside n here c.requires.0 _ _ (let e : c.args.mark ≡ Some c.in-Some-Number.field-0 = c.in-Some-Number.is in e ∙ ap Some (rw e at c.in-Some-Number.field-0-is))
    (elim c.else-t-ge64.either [ inl w ↦ inr w.1 | inr w ↦ inl w ])

pub returns-then-not-self-k : goal.returns-then-not-self-k
returns-then-not-self-k c ms here n =
    let s : c.args.mark ≡ Some c.in-Some-Label.field-0 = c.in-Some-Label.is in
    let e = s ∙ ap Some (rw s at c.in-Some-Label.field-0-is) in
    note_new n here c.requires.0 _ _ e (label_low _ _ e c.requires.2) c.if-not-self-k.true

pub returns-else-not-self-k : goal.returns-else-not-self-k
returns-else-not-self-k c ms here n =
    let s : c.args.mark ≡ Some c.in-Some-Label.field-0 = c.in-Some-Label.is in
    let e = s ∙ ap Some (rw s at c.in-Some-Label.field-0-is) in
    note_seen n here c.requires.0 _ _ e (label_low _ _ e c.requires.2) c.if-not-self-k.false
