-- What the pen has written: the bits so far. A field goes on them, and closing the pen leaves the bytes that they are packed to.
use Prim.Native.Nat.{ℕ, ◌+◌, ◌*◌, ◌^◌, ◌<◌, ◌≤◌}
use mathlib.Core.Path.{◌≡◌, sym, ap, subst, ◌∙◌}
use mathlib.Core.Bool.{Bool}
use mathlib.Core.List.{List, [], ◌++◌}
use native.Mathlib.Omega.{arith}
use lib.ListN.{length, take, replicate, get_or}
use lib.Seq.{length-take-le}
use Rattle.runs.specs.Digits.{digits, Bytes}
use Rattle.runs.specs.Over.{Wrote}
use Rattle.runs.proofs.Below.{below_take}
use Rattle.bits.specs.Pen.{penned, last_byte, lacking, PenNew, PenOk, PenFits, PutField}
use Rattle.bits.specs.declared.Pen.{Pen}
use Rattle.bits.proofs.Penned.{pen_start, pen_new_ok, length_penned, pen_on, pen_moved, pen_length, pen_rest, pen_ok, pen_closed, closed_size, closed_length, closed_rest}
use Rattle.refusals.specs.Outcomes.{Outcome, fine, and_then}
use Rattle.std.specs.Prelude.{Ok}
use Rattle.refusals.specs.Lent.{Delivered}
use Rattle.pmd.specs.declared.Field.{Field}
use Rattle.pmd.specs.declared.Piece.{Piece}
use Rattle.pmd.specs.declared.Shape.{Shape}
use Rattle.pmd.specs.declared.Value.{Value}
use Rattle.pmd.specs.Table.{width_of, typed, Part}
use Rattle.pmd.specs.Records.{fits, after}
use Rattle.pmd.specs.Writing.{packed, packing}
use Rattle.pmd.specs.Pieces.{as_number}
use Rattle.pmd.specs.Shapes.{Roomy}
use Rattle.refusals.proofs.Lent.{delivered_fine}
use Rattle.pmd.proofs.Fields.{number_value}
use Rattle.pmd.proofs.Records.{fits_lt}
use Rattle.pmd.proofs.Next.{Next}
use Rattle.pmd.proofs.Packed.{packed_one}
use Rattle.pmd.proofs.Walk.{Fields}
use Rattle.pmd.proofs.Frame.{Frame, frame_then, frame_over}
use Rattle.pmd_write.specs.ByShape.{write_by, write_shape}
use Rattle.pmd_write.proofs.Laid.{Run, number_narrow, number_on, number_there, number_good, number_room, InShape, Numbered, due_next, due_after}

pub record Inked (pen : Pen) (out bs : List ℕ) : Type 0 where
  pub ok : PenOk pen out
  pub wrote : penned pen out ≡ bs

pub inked_begins : {pen : Pen} → PenNew pen → (out : List ℕ) → Inked pen out []
inked_begins new out = record { ok = pen_new_ok new out; wrote = pen_start new out }

pub inked_long : {pen : Pen} {out bs : List ℕ} → Inked pen out bs → length bs ≡ 8 * pen.at + pen.count
inked_long k = ap length (sym k.wrote) ∙ length_penned k.ok

-- where the number of a field of w bits is next, in a list whose bits have room: r, which went through its value, is put
module _ {pen : Pen} {out : List ℕ} {again first : List Part} {vs : List ℕ} {n w room : ℕ} {left : List Part} {f : Field} (o : Run (Inked pen out) again first vs n left) (next : Next f left) (wide : w ≡ width_of f) (roomy : Roomy (write_by again first vs) room) {x : Value} {r : ℕ} (ex : x ≡ typed f (get_or vs n 0)) (er : r ≡ as_number x) where
  is : r ≡ get_or vs n 0
  is = er ∙ ap as_number ex ∙ number_value f (get_or vs n 0)

  pub number_fits : room ≤ 8 * length out → PenFits pen w r out
  number_fits l = record {
    pen = o.also.ok;
    width = number_narrow o next wide;
    value = subst (λ (m : ℕ). r < 2 ^ m) (sym wide) (fits_lt f r (ap (fits f) is ∙ number_good o next wide roomy));
    room = omega (arith, number_room o next wide roomy, inked_long o.also);
  }

  pub number_put : {q : Pen} {inked : List ℕ} → PenFits pen w r out → PutField pen w r out q inked → Run (Inked q inked) again first vs (n + 1) (after left r)
  number_put {q} {inked} fit put =
      let on : Inked q inked (o.bs ++ digits 2 w r) = record { ok = pen_ok fit put; wrote = pen_on fit put ∙ ap (λ (l : List ℕ). l ++ digits 2 w r) o.also.wrote } in
      subst (λ (v : ℕ). Run (Inked q inked) again first vs (n + 1) (after left v)) (sym is)
      (number_on o next wide (number_there o next wide roomy) (number_good o next wide roomy) (subst (λ (v : ℕ). Inked q inked (o.bs ++ digits 2 w v)) is on))

-- a number of a piece is due
module _ {pen : Pen} {out : List ℕ} {turns : Bool} {shape : Shape} {vs : List ℕ} {n₀ n i room : ℕ} {p : Piece} (f : Fields (InShape (Inked pen out) turns shape vs n) turns shape i p n₀ n) (roomy : Roomy (write_shape turns shape vs) room) {x : Value} {r : ℕ} (ex : x ≡ typed p.field (get_or vs n 0)) (er : r ≡ as_number x) where
  pub due_fits : room ≤ 8 * length out → PenFits pen p.width r out
  due_fits = number_fits f.known (due_next f) f.wide roomy ex er

  pub due_put : {q : Pen} {inked : List ℕ} → PenFits pen p.width r out → PutField pen p.width r out q inked → Numbered (Inked q inked) turns shape vs (n + 1) i p r
  due_put fit put = due_after f r (number_put f.known (due_next f) f.wide roomy ex er fit put)

pub frame_put : {pen q : Pen} {w v : ℕ} {out after : List ℕ} → PenFits pen w v out → PutField pen w v out q after → Frame out pen.at after q.at
frame_put {q = q} fits put = record { since = omega (arith, pen_moved fits put, q.few); long = pen_length fits put; rest = pen_rest fits put }

-- the pen is closed
pub inked_ends : {before : List ℕ} {n₀ : ℕ} {pen : Pen} {out bs closed : List ℕ} {r : ℕ} {o : Outcome (List ℕ)} → o ≡ fine bs → Inked pen out bs
    → Frame before n₀ out pen.at → Wrote out pen.at (last_byte pen) r closed → Bytes closed → Delivered (packing o) before (Ok r) closed
unfolding and_then
inked_ends {before} {n₀} {pen} {out} {bs} {closed} {r} {o} e k f done bytes =
    let size = closed_size k.ok done in
    let short = (pen_closed k.ok done).1 in
    let same = closed_length k.ok done in
    let last : Frame out pen.at closed r = record { since = omega arith; long = same; rest = closed_rest k.ok done } in
    let whole : packed bs ≡ take r closed =
    packed_one (take r closed) bs (lacking pen) (below_take 256 r closed bytes) ((pen_closed k.ok done).0 ∙ ap (λ (l : List ℕ). l ++ replicate (lacking pen) 0) k.wrote) short in
    let long : length (packed bs) ≡ r = ap length whole ∙ length-take-le r closed (omega (arith, k.ok.inside)) in
    delivered_fine (ap packing e) (ap (λ (m : ℕ). Ok m) (sym long)) (frame_over (packed bs) (frame_then f last) (sym whole) long)
