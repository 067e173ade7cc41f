-- `labels::digest` meets its contract: the two words are the label's halves.
use native.Mathlib.Nat.{mod-lt}
use native.Mathlib.Omega.{arith}
use Rattle.labels.proofs.Words.{word_digest}
use Rattle.labels.proofs.digest.Goals as goal

pub returns : goal.returns
returns c =
    let a = c.args in
    (word_digest a.s.now a.at (omega arith) _ _ c.word.ensures c.word-2.ensures, mod-lt _ (omega arith))
