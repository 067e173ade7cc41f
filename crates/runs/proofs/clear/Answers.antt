-- `runs::clear` meets its contract: the part of the buffer is as many 0 as it has places.
use Prim.Native.Nat.{ℕ, ◌-◌}
use mathlib.Core.Path.{refl, ap, ◌∙◌}
use mathlib.Core.List.{List}
use lib.ListN.{length, replicate, length-replicate}
use borrow.Author.Rules.{rules}
use Rattle.std.proofs.lemmas.Slice.{put_mid-paste}
use Rattle.runs.proofs.Over.{over_paste}
use Rattle.runs.proofs.clear.Goals as goal

pub returns : goal.returns
returns c =
    let a = c.args in
    let k = length a.out.now - a.at in
    let zeros : List ℕ = replicate k 0 in
    put_mid-paste _ _ _ _ zeros _ (c.fill.ensures.after (λ y e. e) ∙ ap (λ (n : ℕ). replicate n 0) (search rules)) (length-replicate k 0) refl
    ∙ over_paste a.out.now a.at zeros
