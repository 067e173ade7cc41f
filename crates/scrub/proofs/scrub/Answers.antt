-- `scrub::scrub` meets its contract. By the sheet's judgement and the pack's reading.
use mathlib.Core.Path.{◌≡◌, sym}
use native.Mathlib.Omega.{arith}
use lib.ListN.{length}
use lib.Seq.{length-take-le}
use borrow.Author.Rules.{rules}
use Rattle.scrub.proofs.Outcome.{sheet_refused, pack_refused, pack_accepted, kept_scrubs, found_few}
use Rattle.scrub.proofs.scrub.Goals as goal

pub returns-in_err-keeps : goal.returns-in_err-keeps
returns-in_err-keeps c = sheet_refused c.args.sheet.now c.args.pack.now c.args.out.now c.in_err-keeps.ensures (search rules)

pub returns-in_err-found : goal.returns-in_err-found
returns-in_err-found c = pack_refused c.args.sheet.now c.args.pack.now c.args.out.now c.in_ok-keeps.ensures c.in_err-found.ensures (search rules)

pub slice_bounds-items-end : goal.slice_bounds-items-end
slice_bounds-items-end c =
    let few = found_few c.args.pack.now (λ i. (c.type_inv.pack i).fits) c.in_ok-found.ensures in
    let long : length c.read_into.new.items ≡ 64 = search rules in
    omega arith

pub slice_bounds-accepted-end-2 : goal.slice_bounds-accepted-end-2
slice_bounds-accepted-end-2 c =
    let few = found_few c.args.pack.now (λ i. (c.type_inv.pack i).fits) c.in_ok-found.ensures in
    let long : length c.read_into.new.items ≡ 64 = search rules in
    sym (length-take-le _ _ (omega arith))

pub write_kept-requires : goal.write_kept-requires
write_kept-requires c = pack_accepted c.args.pack.now (λ i. (c.type_inv.pack i).fits) c.in_ok-found.ensures

pub returns : goal.returns
returns c = kept_scrubs c.args.sheet.now c.args.pack.now c.args.out.now c.in_ok-keeps.ensures c.write_kept.ensures
