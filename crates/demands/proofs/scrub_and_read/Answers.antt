-- `demands::scrub_and_read` meets its contract: what was written says what was kept, and its rows are those that are read.
use lib.ListN.{length}
use Rattle.scrub_kept.specs.Scrubbed.{scrubbed}
use Rattle.demands.proofs.Calls.{scrub_refused, scrub_then_read}
use Rattle.demands.proofs.Parts.{leaves_part}
use Rattle.demands.proofs.scrub_and_read.Goals as goal

pub returns-then-first-ne0 : goal.returns-then-first-ne0
returns-then-first-ne0 c = scrub_refused _ _ c.bw_scrub-first.ensures c.if-first-ne0.true

pub slice_bounds-bw_read-end : goal.slice_bounds-bw_read-end
slice_bounds-bw_read-end c =
    let a = c.args in
    leaves_part (scrubbed a.sheet.now a.pack.now (length a.out.now)) c.bw_scrub-first.ensures c.if-first-ne0.false

pub returns : goal.returns
returns c =
    let a = c.args in
    scrub_then_read a.sheet.now a.pack.now c.bw_scrub-first.ensures (λ k. (c.type_inv.pack k).fits) c.if-first-ne0.false c.bw_read-second.ensures
