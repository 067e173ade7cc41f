-- `pmd_write::put` meets its contract. Its loops keep what those of `weigh` keep, and that the pen has written the bits so far. Of a list that
-- was weighed each number is there, is taken and has room.
use Prim.Native.Nat.{ℕ, ◌+◌, ◌*◌, ◌<◌, ◌≤◌}
use mathlib.Core.Path.{◌≡◌, refl, sym, subst, ◌∙◌}
use mathlib.Core.Bool.{Bool}
use mathlib.Core.List.{List}
use native.Mathlib.Omega.{arith}
use lib.ListN.{length, get_or}
use Rattle.bits.specs.Pen.{PenFits}
use Rattle.bits.specs.declared.Pen.{Pen}
use Rattle.pmd.specs.declared.Shape.{Shape}
use Rattle.pmd.specs.Table.{nonzero}
use Rattle.pmd.proofs.Next.{next_parameters}
use Rattle.pmd.proofs.Walk.{blank, walkable, fields_begin, fields_on, pieces_on, pieces_over}
use Rattle.pmd.proofs.Frame.{Frame, frame_begins, frame_then}
use Rattle.pmd_write.proofs.Laid.{InShape, Numbered, behind, run_none, due_there, partner_due, partner_none, after_second, number_there, over_ends, over_again}
use Rattle.pmd_write.proofs.Inked.{Inked, inked_begins, number_fits, number_put, due_fits, due_put, inked_ends, frame_put}
use Rattle.pmd_write.proofs.put.Given.{Over}
use Rattle.pmd_write.proofs.put.Goals as goal
use Rattle.pmd_write.proofs.put.Goals.{At-fields, After-from-v, After-put, After-goes_on, Then-has_partner, After-from-second, then-has_partner, else-has_partner}

moved : (M : Pen → List ℕ → ℕ → Type 0) {pen now : Pen} {out held : List ℕ} {n m : ℕ} → now ≡ pen → held ≡ out → m ≡ n → M pen out n → M now held m
moved M {pen} {now} {out} {held} {n} {m} e f g k =
    subst (λ (p : Pen). M p held m) (sym e) (subst (λ (l : List ℕ). M pen l m) (sym f) (subst (λ (j : ℕ). M pen out j) (sym g) k))

-- after the number v of the piece i
abbrev Put : Bool → Shape → List ℕ → Pen → List ℕ → ℕ → ℕ → ℕ → Type 0
Put turns shape vs pen out n i v = Numbered (Inked pen out) turns shape vs n i (get_or shape.pieces i blank) v

-- and after its partner, if it has one
abbrev Next : Bool → Shape → List ℕ → Pen → List ℕ → ℕ → ℕ → ℕ → Pen → List ℕ → ℕ → Type 0
Next turns shape vs pen₀ out₀ n₀ i v pen out n =
    InShape (Inked pen out) turns shape vs n (behind turns shape i (get_or shape.pieces i blank) v) × (n₀ < n) × Frame out₀ pen₀.at out pen.at

-- the bits of a number have room
fits : (g : Over) (c : After-from-v g) → PenFits c.fields.pen (get_or c.args.shape.pieces c.pieces.i blank).width c.from-v.result c.fields.out
fits g c =
    due_fits c.fields.invariant.walk c.requires c.value.ensures c.from-v.ensures
    (omega (arith, c.fields.invariant.frame.long, c.pieces.invariant.frame.long, c.records.invariant.frame.long))

-- the number is put
module _ (g : Over) (c : After-put g) (fit : PenFits c.fields.pen (get_or c.args.shape.pieces c.pieces.i blank).width c.from-v.result c.fields.out) where
  number : Put (nonzero g.row.TURNAROUNDS) c.args.shape c.args.numbers.now c.put.new.self c.put.new.out (c.fields.n + 1) c.pieces.i c.from-v.result
  number = due_put c.fields.invariant.walk c.requires c.value.ensures c.from-v.ensures fit c.put.ensures

  room : 8 * length c.args.out.now ≤ 8 * length c.put.new.out
  room =
      omega (
        arith,
        (frame_put fit c.put.ensures).long,
        c.fields.invariant.frame.long,
        c.pieces.invariant.frame.long,
        c.records.invariant.frame.long,
      )

-- the number of a partner is there
there : (g : Over) (c : Then-has_partner g)
    → Put (nonzero g.row.TURNAROUNDS) c.args.shape c.args.numbers.now c.put.new.self c.put.new.out (c.fields.n + 1) c.pieces.i c.from-v.result
    → c.fields.n + 1 < length c.args.numbers.now
there g c k = number_there (partner_due k (sym c.has_partner.ensures ∙ c.if-has_partner.true)) (next_parameters _) refl c.requires

next : (g : Over) (c : After-goes_on g)
    → PenFits c.fields.pen (get_or c.args.shape.pieces c.pieces.i blank).width c.from-v.result c.fields.out
    → Put (nonzero g.row.TURNAROUNDS) c.args.shape c.args.numbers.now c.put.new.self c.put.new.out (c.fields.n + 1) c.pieces.i c.from-v.result
    → 8 * length c.args.out.now ≤ 8 * length c.put.new.out
    → Next (nonzero g.row.TURNAROUNDS) c.args.shape c.args.numbers.now c.fields.pen c.fields.out c.fields.n c.pieces.i c.from-v.result
    c.if-has_partner.pen c.if-has_partner.out c.if-has_partner.n
next g c fit k room =
    let M = Next (nonzero g.row.TURNAROUNDS) c.args.shape c.args.numbers.now c.fields.pen c.fields.out c.fields.n c.pieces.i c.from-v.result in
    let first = frame_put fit c.put.ensures in
    elim c.if-has_partner.branch [
      | then-has_partner w ↦
          let o = partner_due k (sym c.has_partner.ensures ∙ w.if-has_partner.true) in
          let x = w.value-then-has_partner.ensures in
          let second = number_fits o (next_parameters _) refl c.requires x w.from-second.ensures room in
          let put = w.put-then-has_partner.ensures in
          moved M w.pen-is w.out-is w.n-is (
            after_second w.from-second.result (number_put o (next_parameters _) refl c.requires x w.from-second.ensures second put),
            omega arith,
            frame_then first (frame_put second put),
          )
      | else-has_partner w ↦ moved M w.pen-is w.out-is w.n-is (partner_none k (sym c.has_partner.ensures ∙ w.if-has_partner.false), omega arith, first)
    ]

pub records-init : goal.records-init
records-init g c = record {
  walk = record { known = run_none (inked_begins c.new-pen.ensures _); there = omega (arith, (walkable c.args.shape).begins) };
  frame = frame_begins _ _;
}

pub fields-init : goal.fields-init
fields-init g c = record { walk = fields_begin c.pieces.invariant.walk c.pieces-test.true; frame = frame_begins _ _ }

pub offset_bounds-numbers-n : goal.offset_bounds-numbers-n
offset_bounds-numbers-n g c = omega (arith, due_there c.fields.invariant.walk c.requires)

pub bounds-numbers-n : goal.bounds-numbers-n
bounds-numbers-n g c = due_there c.fields.invariant.walk c.requires

pub put-requires : goal.put-requires
put-requires g c = fits g (goal.at.put-requires g c).After-from-v

pub overflow_add-n : goal.overflow_add-n
overflow_add-n g c = omega (arith, due_there c.fields.invariant.walk c.requires)

pub offset_bounds-numbers-n-then-has_partner : goal.offset_bounds-numbers-n-then-has_partner
offset_bounds-numbers-n-then-has_partner g c =
    let at = goal.at.offset_bounds-numbers-n-then-has_partner g c in
    omega (arith, there g at.Then-has_partner (number g at.After-put (fits g at.After-from-v)))

pub bounds-numbers-n-then-has_partner : goal.bounds-numbers-n-then-has_partner
bounds-numbers-n-then-has_partner g c =
    let at = goal.at.bounds-numbers-n-then-has_partner g c in there g at.Then-has_partner (number g at.After-put (fits g at.After-from-v))

pub put-requires-then-has_partner : goal.put-requires-then-has_partner
put-requires-then-has_partner g c =
    let at = goal.at.put-requires-then-has_partner g c in
    let fit = fits g at.After-from-v in
    number_fits (partner_due (number g at.After-put fit) (sym c.has_partner.ensures ∙ c.if-has_partner.true)) (next_parameters _) refl c.requires
    c.value-then-has_partner.ensures c.from-second.ensures (room g at.After-put fit)

pub overflow_add-n-then-has_partner : goal.overflow_add-n-then-has_partner
overflow_add-n-then-has_partner g c =
    let at = goal.at.overflow_add-n-then-has_partner g c in
    omega (arith, there g at.Then-has_partner (number g at.After-put (fits g at.After-from-v)))

pub fields-smaller : goal.fields-smaller
fields-smaller g c =
    let at = goal.at.fields-smaller g c in
    let fit = fits g at.After-from-v in
    let k = next g at.After-goes_on fit (number g at.After-put fit) (room g at.After-put fit) in
    omega (arith, k.1, due_there c.fields.invariant.walk c.requires)

pub fields-preserved : goal.fields-preserved
fields-preserved g c =
    let at = goal.at.fields-preserved g c in
    let fit = fits g at.After-from-v in
    let k = next g at.After-goes_on fit (number g at.After-put fit) (room g at.After-put fit) in
    record {
      walk =
          fields_on c.fields.invariant.walk {L = InShape (Inked c.if-has_partner.pen c.if-has_partner.out) (nonzero g.row.TURNAROUNDS) c.args.shape c.args.numbers.now c.if-has_partner.n}
          c.from-v.result k.1 (sym c.if-not-goes_on.ensures) k.0;
      frame = frame_then c.fields.invariant.frame k.2;
    }

pub pieces-preserved : goal.pieces-preserved
pieces-preserved g c =
    let at = goal.at.pieces-preserved g c in
    let fit = fits g at.After-from-v in
    let k = next g at.After-goes_on fit (number g at.After-put fit) (room g at.After-put fit) in
    record {
      walk =
          pieces_on c.pieces.invariant.walk {L = InShape (Inked c.if-has_partner.pen c.if-has_partner.out) (nonzero g.row.TURNAROUNDS) c.args.shape c.args.numbers.now c.if-has_partner.n}
          (get_or c.args.shape.pieces c.pieces.i blank) c.from-v.result (omega (arith, k.1, c.fields.invariant.walk.since)) (sym c.if-not-goes_on.ensures) c.passes.ensures.is k.0;
      frame = frame_then c.pieces.invariant.frame (frame_then c.fields.invariant.frame k.2);
    }

pub returns-then-numbers-n : goal.returns-then-numbers-n
returns-then-numbers-n g c =
    let o = pieces_over c.pieces.invariant.walk c.pieces-test.false in
    inked_ends (over_ends o c.if-numbers-n.true) o.also (frame_then c.records.invariant.frame c.pieces.invariant.frame) c.close.ensures (λ k. omega (arith, c.type_inv.out k))

pub records-preserved : goal.records-preserved
records-preserved g c = record {
  walk = over_again (pieces_over c.pieces.invariant.walk c.pieces-test.false) c.if-numbers-n.false;
  frame = frame_then c.records.invariant.frame c.pieces.invariant.frame;
}
