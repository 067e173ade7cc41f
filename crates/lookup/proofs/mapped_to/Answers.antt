-- `lookup::mapped_to` meets its contract. The loop keeps what is left: the mappings from i on have the tag that all of them have.
use mathlib.Core.Path.{◌≡◌, sym, ap, ap₂, ◌∙◌}
use mathlib.Core.List.{List}
use Prim.Native.Nat.{ℕ, ◌<◌, ◌≤◌}
use native.Mathlib.Omega.{arith}
use lib.ListN.{length, take, drop, get_or, length-take}
use lib.Seq.{get_or-take, take_all, length-take-le}
use Rattle.std.specs.Prelude.{Some}
use Rattle.runs.specs.Same.{same}
use Rattle.lookup.proofs.Tags.{tag_here, tag_later, tag_none, tag_wanted, tag_strange}
use Rattle.lookup.proofs.mapped_to.Goals as goal
use Rattle.lookup.proofs.mapped_to.Goals.{After-same_label}

-- the first so many of the tags and the places
tagged : (c : After-same_label)
    → let m = c.args.maps.now in
    let i = c.loop-i.i in
    (m.count ≤ length m.tags) → (m.count ≤ length m.places)
    → (i < length (take m.count m.tags)) × (i < length (take m.count m.places)) × (get_or (take m.count m.tags) i 0 ≡ get_or m.tags i 0)
    × (c.same_label.result ≡ same (take 16 (drop (get_or (take m.count m.places) i 0) c.args.pack.now)) c.args.label.now)
tagged c h g =
    let m = c.args.maps.now in
    let i = c.loop-i.i in
    let below = c.loop-i-test.true in
    let long = c.if-label-ne16.false in (
      omega (arith, length-take-le m.count m.tags h),
      omega (arith, length-take-le m.count m.places g),
      get_or-take m.count m.tags i 0 below,
      c.same_label.ensures
          ∙ ap₂ (λ (p : ℕ) (l : List ℕ). same (take 16 (drop p c.args.pack.now)) l) (sym (get_or-take m.count m.places i 0 below))
          (take_all 16 c.args.label.now (omega (arith, long))),
    )

pub returns-then-same_label : goal.returns-then-same_label
returns-then-same_label c =
    let t = tagged (goal.at.returns-then-same_label c).After-same_label (omega arith) (omega arith) in
    tag_wanted _ _ _ _ c.if-label-ne16.false (ap Some (sym t.2) ∙ tag_here _ _ _ _ c.loop-i.invariant t.0 t.1 (sym t.3 ∙ c.if-same_label.true))

pub loop-i-preserved : goal.loop-i-preserved
loop-i-preserved c =
    let t = tagged (goal.at.loop-i-preserved c).After-same_label (omega arith) (omega arith) in
    tag_later _ _ _ _ c.loop-i.invariant t.0 t.1 (sym t.3 ∙ c.if-same_label.false)

pub returns : goal.returns
returns c =
    let m = c.args.maps.now in
    let past : length (take m.count m.tags) ≤ c.loop-i.i = omega (arith, length-take m.count m.tags) in
    tag_wanted _ _ _ _ c.if-label-ne16.false (tag_none _ _ _ _ c.loop-i.invariant past)

pub returns-then-label-ne16 : goal.returns-then-label-ne16
returns-then-label-ne16 c = tag_strange _ _ _ _ c.if-label-ne16.true
