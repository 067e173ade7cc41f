-- `pmd_read::fill` meets its contract. Its loops keep what those of `count` keep, and that the numbers found stand in the lent run. A value
-- that was counted has each field, and each is good.
use Prim.Native.Nat.{ℕ, ◌+◌, ◌*◌, ◌<◌, ◌≤◌}
use mathlib.Core.Path.{refl, sym, ◌∙◌}
use mathlib.Core.Bool.{Bool}
use mathlib.Core.List.{List}
use native.Mathlib.Omega.{arith}
use lib.ListN.{length, set, get_or, length-set}
use Rattle.pmd.specs.declared.Shape.{Shape}
use Rattle.pmd.specs.Table.{nonzero}
use Rattle.pmd.proofs.Walk.{blank, walkable, fields_begin, fields_on, pieces_on, pieces_over}
use Rattle.pmd.proofs.Frame.{Frame, frame_begins, frame_then, frame_set}
use Rattle.pmd_read.proofs.Kept.{InShape, Numbered, behind, found_none, due_sure, due_stored, partner_due, partner_none, second_sure, second_stored, over_again, over_stored}
use Rattle.pmd_read.proofs.Stored.{Stored, stored_on, stored_ends, moved}
use Rattle.pmd_read.proofs.fill.Given.{Over}
use Rattle.pmd_read.proofs.fill.Goals as goal
use Rattle.pmd_read.proofs.fill.Goals.{At-fields, After-from-v, After-goes_on, Then-has_partner, then-has_partner, else-has_partner}

-- after the number v of the piece i, which stands at n
abbrev Put : Bool → Shape → List ℕ → List ℕ → ℕ → ℕ → ℕ → ℕ → Type 0
Put turns shape s numbers at n i v =
    let p = get_or shape.pieces i blank in Numbered (Stored (set numbers n v) (n + 1)) turns shape s (at + p.width) (n + 1) i p v

-- and after its partner, if it has one
abbrev Next : Bool → Shape → List ℕ → List ℕ → ℕ → ℕ → ℕ → ℕ → List ℕ → ℕ → ℕ → Type 0
Next turns shape s before at₀ n₀ i v numbers at n =
    InShape (Stored numbers n) turns shape s at n (behind turns shape i (get_or shape.pieces i blank) v) × (at₀ < at) × Frame before n₀ numbers n

-- the number of a field has room
room : (g : Over) (c : At-fields g) → c.fields.n < length c.fields.numbers
room g c = omega (arith, due_sure c.fields.invariant.walk c.requires.1, c.fields.invariant.frame.long, c.pieces.invariant.frame.long, c.records.invariant.frame.long)

field : (g : Over) (c : After-from-v g) → c.fields.n < length c.fields.numbers
    → Put (nonzero g.row.TURNAROUNDS) c.args.shape c.args.s.now c.fields.numbers c.fields.at c.fields.n c.pieces.i c.from-v.result
field g c there =
    let f = c.fields in
    due_stored f.invariant.walk c.requires.1 c.fetch.ensures c.value.ensures c.from-v.ensures
    (stored_on f.numbers f.invariant.walk.known.xs f.n c.from-v.result there f.invariant.walk.known.also)

-- where a partner is due, its bits are there, and its number has room
module _ (g : Over) (c : Then-has_partner g) (put : Put (nonzero g.row.TURNAROUNDS) c.args.shape c.args.s.now c.fields.numbers c.fields.at c.fields.n c.pieces.i c.from-v.result) where
  sure : (c.fields.n + 1 ≤ c.fields.at + (get_or c.args.shape.pieces c.pieces.i blank).width)
      × (c.fields.at + (get_or c.args.shape.pieces c.pieces.i blank).width + 8 ≤ 8 * length c.args.s.now)
      × (1 ≤ 8) × (8 ≤ 15) × (c.fields.n + 1 < length c.args.numbers.now)
  sure = second_sure (partner_due put (sym c.has_partner.ensures ∙ c.if-has_partner.true)) c.requires.1

  room_2 : c.fields.n + 1 < length (set c.fields.numbers c.fields.n c.from-v.result)
  room_2 =
      omega (
        arith,
        sure,
        length-set c.fields.numbers c.fields.n c.from-v.result,
        c.fields.invariant.frame.long,
        c.pieces.invariant.frame.long,
        c.records.invariant.frame.long,
      )

next : (g : Over) (c : After-goes_on g) → c.fields.n < length c.fields.numbers
    → Put (nonzero g.row.TURNAROUNDS) c.args.shape c.args.s.now c.fields.numbers c.fields.at c.fields.n c.pieces.i c.from-v.result
    → Next (nonzero g.row.TURNAROUNDS) c.args.shape c.args.s.now c.fields.numbers c.fields.at c.fields.n c.pieces.i c.from-v.result
    c.if-has_partner.numbers c.if-has_partner.at c.if-has_partner.n
next g c there put =
    let some = due_sure c.fields.invariant.walk c.requires.1 in
    let f = c.fields in
    let v = c.from-v.result in
    let M = Next (nonzero g.row.TURNAROUNDS) c.args.shape c.args.s.now f.numbers f.at f.n c.pieces.i v in
    elim c.if-has_partner.branch [
      | then-has_partner w ↦
          let o = partner_due put (sym c.has_partner.ensures ∙ w.if-has_partner.true) in
          let run = set f.numbers f.n v in
          let long : f.n + 1 < length run =
          omega (arith, second_sure o c.requires.1, length-set f.numbers f.n v, f.invariant.frame.long, c.pieces.invariant.frame.long, c.records.invariant.frame.long) in
          moved M w.numbers-is w.at-is w.n-is (
            second_stored o c.requires.1 w.fetch-then-has_partner.ensures w.value-then-has_partner.ensures w.from.ensures
                (stored_on run o.xs (f.n + 1) w.from.result long o.also),
            omega (arith, some),
            frame_then (frame_set f.numbers f.n v) (frame_set run (f.n + 1) w.from.result),
          )
      | else-has_partner w ↦
          moved M w.numbers-is w.at-is w.n-is (partner_none put (sym c.has_partner.ensures ∙ w.if-has_partner.false), omega (arith, some), frame_set f.numbers f.n v)
    ]

pub records-init : goal.records-init
records-init g c = record {
  walk = record { known = found_none refl; there = omega (arith, (walkable c.args.shape).begins) };
  frame = frame_begins _ 0;
}

pub fields-init : goal.fields-init
fields-init g c = record { walk = fields_begin c.pieces.invariant.walk c.pieces-test.true; frame = frame_begins _ _ }

pub fetch-requires : goal.fetch-requires
fetch-requires g c = omega (arith, due_sure c.fields.invariant.walk c.requires.1)

pub bounds-numbers-n : goal.bounds-numbers-n
bounds-numbers-n g c = room g (goal.at.bounds-numbers-n g c).At-fields

pub fetch-requires-then-has_partner : goal.fetch-requires-then-has_partner
fetch-requires-then-has_partner g c =
    let at = goal.at.fetch-requires-then-has_partner g c in
    omega (arith, sure g at.Then-has_partner (field g at.After-from-v (room g at.At-fields)))

pub bounds-numbers-n-then-has_partner : goal.bounds-numbers-n-then-has_partner
bounds-numbers-n-then-has_partner g c =
    let at = goal.at.bounds-numbers-n-then-has_partner g c in room_2 g at.Then-has_partner (field g at.After-from-v (room g at.At-fields))

pub fields-smaller : goal.fields-smaller
fields-smaller g c =
    let at = goal.at.fields-smaller g c in
    let there = room g at.At-fields in
    let k = next g at.After-goes_on there (field g at.After-from-v there) in
    omega (arith, k.1, k.0.inside)

pub fields-preserved : goal.fields-preserved
fields-preserved g c =
    let at = goal.at.fields-preserved g c in
    let there = room g at.At-fields in
    let k = next g at.After-goes_on there (field g at.After-from-v there) in
    record {
      walk =
          fields_on c.fields.invariant.walk {L = InShape (Stored c.if-has_partner.numbers c.if-has_partner.n) (nonzero g.row.TURNAROUNDS) c.args.shape c.args.s.now c.if-has_partner.at c.if-has_partner.n}
          c.from-v.result k.1 (sym c.if-not-goes_on.ensures) k.0;
      frame = frame_then c.fields.invariant.frame k.2;
    }

pub pieces-preserved : goal.pieces-preserved
pieces-preserved g c =
    let at = goal.at.pieces-preserved g c in
    let there = room g at.At-fields in
    let k = next g at.After-goes_on there (field g at.After-from-v there) in
    record {
      walk =
          pieces_on c.pieces.invariant.walk {L = InShape (Stored c.if-has_partner.numbers c.if-has_partner.n) (nonzero g.row.TURNAROUNDS) c.args.shape c.args.s.now c.if-has_partner.at c.if-has_partner.n} (get_or c.args.shape.pieces c.pieces.i blank) c.from-v.result (omega (arith, k.1, c.fields.invariant.walk.since))
          (sym c.if-not-goes_on.ensures) c.passes.ensures.is k.0;
      frame = frame_then c.pieces.invariant.frame (frame_then c.fields.invariant.frame k.2);
    }

pub returns-then-s-at-lt8 : goal.returns-then-s-at-lt8
returns-then-s-at-lt8 g c =
    let o = pieces_over c.pieces.invariant.walk c.pieces-test.false in
    stored_ends (over_stored o c.requires.1 c.if-s-at-lt8.true) o.long o.also (frame_then c.records.invariant.frame c.pieces.invariant.frame)

pub records-preserved : goal.records-preserved
records-preserved g c = record {
  walk = over_again (pieces_over c.pieces.invariant.walk c.pieces-test.false) c.if-s-at-lt8.false;
  frame = frame_then c.records.invariant.frame c.pieces.invariant.frame;
}
