-- `pack_text::list` meets its contract: the listing of an accepted pack, or the line of a refusal. All of it fits.
use mathlib.Core.Path.{sym}
use native.Mathlib.Omega.{arith}
use lib.ListN.{length}
use Rattle.runs.proofs.Over.{wrote_as}
use Rattle.pack_text.proofs.Within.{listing_fits, wrote_within}
use Rattle.pack_text.proofs.Fields.{line_room}
use Rattle.pack_text.proofs.Whole.{refused_line}
use Rattle.pack_text.proofs.list.Goals as goal

pub put_refused-requires : goal.put_refused-requires
put_refused-requires c = let s = c.args.pack.now in line_room 0 (length c.args.out.now) _ (omega arith) (sym (refused_line s c.in-Err.ensures)) (omega (arith, listing_fits s (λ k. (c.type_inv.pack k).fits), c.told-out))

pub returns-in-Ok-clause-upper_bound : goal.returns-in-Ok-clause-upper_bound
returns-in-Ok-clause-upper_bound c = (wrote_within c.args.pack.now (λ k. (c.type_inv.pack k).fits) (omega (arith, c.told-out)) c.put_reading.ensures).1

pub returns-in-Err-clause-wrote : goal.returns-in-Err-clause-wrote
returns-in-Err-clause-wrote c = wrote_as (refused_line c.args.pack.now c.in-Err.ensures) c.put_refused.ensures

pub returns-in-Err-clause-upper_bound : goal.returns-in-Err-clause-upper_bound
returns-in-Err-clause-upper_bound c =
    (wrote_within c.args.pack.now (λ k. (c.type_inv.pack k).fits) (omega (arith, c.told-out)) (wrote_as (refused_line c.args.pack.now c.in-Err.ensures) c.put_refused.ensures)).1
