-- `scrub_config::config_size` meets its contract. By whether there is a Config.
use mathlib.Core.Path.{◌≡◌}
use Prim.Native.Nat.{◌+◌, ◌*◌, ◌≤◌}
use native.Mathlib.Omega.{arith}
use Rattle.numbers.proofs.Lengths.{length_small}
use Rattle.scrub_config.proofs.Entries.{size_none, size_some}
use Rattle.scrub_config.proofs.config_size.Goals as goal
use Rattle.scrub_config.proofs.config_size.Goals.{After-length_size}

pub returns-then-count-offset-eq0 : goal.returns-then-count-offset-eq0
returns-then-count-offset-eq0 c = (size_none c.args.offset c.args.count (omega arith) (omega arith), omega arith)

few : (c : After-length_size) → c.length_size.result ≤ 5
few c = omega (arith, c.length_size.ensures, length_small (2 + 17 * c.args.count))

pub returns : goal.returns
returns c =
    let l = c.length_size.ensures in
    let s = few c in
    let p = c.requires in
    let some : c.args.count ≡ 0 → c.args.offset ≡ 0 → ⊥ = λ x y. c.if-count-offset-eq0.false (omega arith) in
    let z = size_some c.args.offset c.args.count some in
    (omega arith, omega arith)

pub overflow_add-result : goal.overflow_add-result
overflow_add-result c = let f = few c in let p = c.requires in omega arith

pub overflow_add-result-2 : goal.overflow_add-result-2
overflow_add-result-2 c = let f = few c in let p = c.requires in omega arith
