-- What the loops over a value keep: the numbers found, before what is read from here on, are the whole reading. The laws say what a field, a
-- refusal, the end of a record and the end of the value make of it.
use Prim.Native.Nat.{ℕ, suc, ◌+◌, ◌-◌, ◌*◌, ◌<◌, ◌≤◌}
use mathlib.Core.Path.{◌≡◌, refl, sym, ap, ap₂, subst, ◌∙◌}
use mathlib.Core.List.{List, [], ◌∷◌, ◌++◌}
use mathlib.Core.Bool.{Bool, true, false, cond}
use native.Mathlib.Omega.{arith}
use lib.ListN.{length, take, drop, length-drop, length-append}
use lib.Seq.{drop-drop, take_all}
use lib.Dec.{ltb, eqb}
use borrow.Author.Tests.{ltb-true, ltb-false, lt-ltb, le-ltb, eqb-true, eqb-false, eq-eqb, ne_eqb}
use Rattle.runs.proofs.Cases.{split}
use Rattle.bits.specs.Bits.{bits, field_at}
use Rattle.bits.proofs.Bits.{length_bits}
use Rattle.bits.proofs.Fields.{field_lt}
use Rattle.refusals.specs.Outcomes.{Outcome, fine, refused, answered}
use Rattle.refusals.specs.Lent.{prepend}
use Rattle.refusals.specs.declared.Refusal.TheVariants as R
use Rattle.refusals.specs.Outcomes.{Answer}
use Rattle.refusals.specs.Refusals.{refused_at}
use Rattle.std.specs.Prelude.{Ok, Err}
use Rattle.refusals.proofs.Lent.{answers, counts}
use Rattle.pmd.specs.declared.Field.{Field}
use Rattle.pmd.specs.declared.Field.TheVariants as F
use Rattle.pmd.specs.declared.Piece.{Piece}
use Rattle.pmd.specs.declared.Shape.{Shape}
use Rattle.pmd.specs.declared.Value.{Value}
use Rattle.pmd.specs.Table.{width_of, typed, may_hold, Part, once}
use Rattle.pmd.specs.Records.{field_of, width, takes, after, closed, opened}
use Rattle.pmd.specs.Reading.{padding, read_from}
use Rattle.pmd.specs.Pieces.{as_number, has_partner}
use Rattle.pmd.specs.Shapes.{part_of, left_of, Roomy}
use Rattle.pmd.proofs.Fields.{narrow, number_value}
use Rattle.pmd.proofs.Next.{Next, next_piece, next_parameters, after_parameters, after_piece, onward, with_partner}
use Rattle.pmd.proofs.Walk.{Records, Fields, walkable, left_next}
use Rattle.pmd.proofs.Begun.{Begun, begun_none, begun_on, begun_as, begun_refused, begun_ends, begun_fits, roomy_never}
use Rattle.pmd_read.specs.ByShape.{read_by, read_shape}

-- of the numbers themselves nothing is kept
abbrev pub Any : List ℕ → Type 0
Any xs = xs ≡ xs

-- how many bits are left
length_left : (s : List ℕ) (at : ℕ) → length (drop at (bits s)) ≡ 8 * length s - at
length_left s at = length-drop at (bits s) ∙ ap (λ (n : ℕ). n - at) (length_bits s)

-- the reader where a field f of w bits, which hold v, is next
module _ (steps : ℕ) (again : List Part) (s : List ℕ) (at : ℕ) where
  abbrev met : List Part → Field → ℕ → ℕ → Outcome (List ℕ)
  met left f w v =
      cond (ltb (8 * length s - at) w) (refused R.Bits at)
      (cond (may_hold (typed f v))
      (prepend (v ∷ []) (read_from steps again (after left v) (drop (at + w) (bits s)) (at + w)))
      (refused R.Field at))

  abbrev Meets : List Part → Field → Type 0
  Meets left f = read_from (suc steps) again left (drop at (bits s)) at ≡ met left f (width_of f) (field_at s at (width_of f))

  at_part : (p : Part) (left : List Part) → Meets (p ∷ left) (field_of p)
  unfolding read_from closed opened width takes field_at
  at_part p left = simp (length_left s at, lt-ltb _ _ (field_lt s at (width_of (field_of p))), drop-drop)

  at_next : {f : Field} {left : List Part} → Next f left → Meets left f
  at_next {f} n = subst (λ (l : List Part). Meets l f) (sym n.is) (subst (λ (g : Field). Meets (n.part ∷ n.rest) g) n.field (at_part n.part n.rest))

-- the reader where a record is closed
module _ (steps : ℕ) (again : List Part) (s : List ℕ) (at : ℕ) where
  read_over : 8 * length s - at < 8
      → read_from (suc steps) again [] (drop at (bits s)) at ≡ cond (eqb (field_at s at (8 * length s - at)) 0) (fine []) (refused R.Pad at)
  unfolding read_from closed padding field_at
  read_over h =
      let bs = drop at (bits s) in
      let all : take (8 * length s - at) bs ≡ bs = take_all (8 * length s - at) bs (omega (arith, length_left s at)) in
      simp (length_left s at, lt-ltb _ _ h, all)

  read_again : (p : Part) (left : List Part) → again ≡ p ∷ left → 8 ≤ 8 * length s - at
      → read_from (suc steps) again [] (drop at (bits s)) at ≡ read_from (suc steps) again again (drop at (bits s)) at
  unfolding read_from closed opened
  read_again p left e h =
      subst (λ (g : List Part). read_from (suc steps) g [] (drop at (bits s)) at ≡ read_from (suc steps) g g (drop at (bits s)) at) (sym e)
      (simp (length_left s at, le-ltb _ _ h))

-- what a loop knows: the numbers xs, n of them and this of them, were found before bit `at`, and this is left of the record
pub record Found (P : List ℕ → Type 0) (again first : List Part) (s : List ℕ) (at n : ℕ) (left : List Part) : Type 0 where
  pub xs : List ℕ
  pub also : P xs
  pub steps : ℕ
  pub long : length xs ≡ n
  pub few : n ≤ at
  pub inside : at ≤ 8 * length s
  pub enough : 8 * length s ≤ at + steps
  pub begun : Begun (read_by again first s) xs (read_from (suc steps) again left (drop at (bits s)) at)

pub found_none : {P : List ℕ → Type 0} {again first : List Part} {s : List ℕ} → P [] → Found P again first s 0 0 first
found_none {s = s} also = record
    { xs = []; also = also; steps = 8 * length s; long = refl; few = omega arith; inside = omega arith; enough = omega arith; begun = begun_none _ }

pub found_at : {P : List ℕ → Type 0} {again first : List Part} {s : List ℕ} {at there n m : ℕ} {left : List Part} → there ≡ at → m ≡ n
    → Found P again first s at n left → Found P again first s there m left
found_at {P} {again} {first} {s} {at} {there} {n} {m} {left} e f o =
    subst (λ (a : ℕ). Found P again first s a m left) (sym e) (subst (λ (k : ℕ). Found P again first s at k left) (sym f) o)

-- where a field of w bits is next
module _ {P : List ℕ → Type 0} {again first : List Part} {s : List ℕ} {at n w : ℕ} {left : List Part} {f : Field} (o : Found P again first s at n left) (next : Next f left) (wide : w ≡ width_of f) where
  pub field_fits : (n ≤ at) × (at ≤ 8 * length s) × (1 ≤ w) × (w ≤ 15)
  field_fits = let bounds = narrow f wide in (o.few, o.inside, bounds.0, bounds.1)

  here : {v : ℕ} → v ≡ field_at s at w → read_from (suc o.steps) again left (drop at (bits s)) at ≡ met o.steps again s at left f w v
  here e = at_next o.steps again s at next ∙ sym (ap₂ (met o.steps again s at left f) wide (e ∙ ap (field_at s at) wide))

  pub field_short : 8 * length s - at < w → read_by again first s ≡ refused R.Bits at
  field_short h = begun_refused o.begun (here refl ∙ simp (lt-ltb _ _ h))

  -- it is there, and its number stands for the value x
  module _ (h : w ≤ 8 * length s - at) {v : ℕ} (ev : v ≡ field_at s at w) {x : Value} (ex : x ≡ typed f v) where
    pub field_bad : may_hold x ≡ false → read_by again first s ≡ refused R.Field at
    field_bad b = begun_refused o.begun (here ev ∙ simp (le-ltb _ _ h, ap may_hold (sym ex) ∙ b))

    module _ (b : may_hold x ≡ true) where
      begins : Begun (read_by again first s) (o.xs ++ (v ∷ [])) (read_from o.steps again (after left v) (drop (at + w) (bits s)) (at + w))
      begins = begun_on o.begun (v ∷ []) (here ev ∙ simp (le-ltb _ _ h, ap may_hold (sym ex) ∙ b))

      pub field_on : {Q : List ℕ → Type 0} → Q (o.xs ++ (v ∷ [])) → Found Q again first s (at + w) (n + 1) (after left v)
      field_on also =
          let fits = field_fits in
          let steps : o.steps ≡ suc (o.steps - 1) = omega (arith, o.enough) in
          record {
            xs = _;
            also = also;
            steps = o.steps - 1;
            long = length-append o.xs (v ∷ []) ∙ ap (λ (m : ℕ). m + 1) o.long;
            few = omega arith;
            inside = omega arith;
            enough = omega (arith, o.enough);
            begun = begun_as begins (ap (λ (m : ℕ). read_from m again (after left v) (drop (at + w) (bits s)) (at + w)) steps);
          }

  -- of a value whose reading has room the field is there and is good, and its number has room
  module _ {room : ℕ} (roomy : Roomy (read_by again first s) room) where
    there : w ≤ 8 * length s - at
    there = split (ltb (8 * length s - at) w) (λ l. roomy_never roomy (field_short (ltb-true _ _ l))) (λ l. ltb-false _ _ l)

    good : {v : ℕ} → v ≡ field_at s at w → may_hold (typed f v) ≡ true
    good {v} ev = split (may_hold (typed f v)) (λ b. b) (λ b. roomy_never roomy (field_bad there ev refl b))

    pub field_sure : (n ≤ at) × (at + w ≤ 8 * length s) × (1 ≤ w) × (w ≤ 15) × (n < room)
    field_sure =
        let fits = field_fits in
        let is : field_at s at w ≡ field_at s at w = refl in
        let most = begun_fits (begins there is refl (good is)) roomy in
        (fits.0, omega (arith, there), fits.2, fits.3, omega (arith, most, length-append o.xs (field_at s at w ∷ []), o.long))

    -- the number r that is stored went through its value
    pub field_stored : {v r : ℕ} {x : Value} {Q : List ℕ → Type 0} → v ≡ field_at s at w → x ≡ typed f v → r ≡ as_number x → Q (o.xs ++ (r ∷ []))
        → Found Q again first s (at + w) (n + 1) (after left r)
    field_stored {v} {r} ev ex er also = let is : r ≡ field_at s at w = er ∙ ap as_number ex ∙ number_value f v ∙ ev in field_on there is refl (good is) also

-- where a record is closed
module _ {P : List ℕ → Type 0} {again first : List Part} {s : List ℕ} {at n : ℕ} (o : Found P again first s at n []) where
  module _ (h : 8 * length s - at < 8) {v : ℕ} (ev : v ≡ field_at s at (8 * length s - at)) where
    closing : read_from (suc o.steps) again [] (drop at (bits s)) at ≡ cond (eqb v 0) (fine []) (refused R.Pad at)
    closing =
        read_over o.steps again s at h
        ∙ ap {A = ℕ} (λ (x : ℕ). cond {A = Outcome (List ℕ)} (eqb x 0) (fine []) (refused R.Pad at)) (sym ev)

    over_ends : v ≡ 0 → read_by again first s ≡ fine o.xs
    over_ends z = begun_ends o.begun (closing ∙ simp (eq-eqb v 0 z))

    over_pad : (v ≡ 0 → ⊥) → read_by again first s ≡ refused R.Pad at
    over_pad z = begun_refused o.begun (closing ∙ simp (ne_eqb v 0 z))

  -- the answer by those bits
  pub over_answers : {r : Answer} → 8 * length s - at < 8 → r ≡ cond (eqb (field_at s at (8 * length s - at)) 0) (Ok n) (Err (refused_at R.Pad at))
      → r ≡ answered length (read_by again first s)
  over_answers h e =
      let v = field_at s at (8 * length s - at) in
      let is : v ≡ v = refl in
      split (eqb v 0)
      (λ z. counts length (over_ends h is (eqb-true _ _ z)) (e ∙ simp z (ap (λ (m : ℕ). Ok m) (sym o.long))))
      (λ z. answers length (over_pad h is (eqb-false _ _ z)) (e ∙ simp z))

  over_on : {p : Part} {left : List Part} → again ≡ p ∷ left → 8 ≤ 8 * length s - at → Found P again first s at n again
  over_on some h = record {
    xs = o.xs;
    also = o.also;
    steps = o.steps;
    long = o.long;
    few = o.few;
    inside = o.inside;
    enough = o.enough;
    begun = begun_as o.begun (read_again o.steps again s at _ _ some h);
  }

  pub over_stored : {room : ℕ} → Roomy (read_by again first s) room → 8 * length s - at < 8 → read_by again first s ≡ fine o.xs
  over_stored roomy h =
      let v = field_at s at (8 * length s - at) in
      let is : v ≡ v = refl in
      split (eqb v 0) (λ z. over_ends h is (eqb-true _ _ z)) (λ z. roomy_never roomy (over_pad h is (eqb-false _ _ z)))

-- THE FIELDS OF A PIECE

abbrev pub InShape : (List ℕ → Type 0) → Bool → Shape → List ℕ → ℕ → ℕ → List Part → Type 0
InShape P turns shape s at n = Found P (left_of turns shape shape.again) (left_of turns shape 0) s at n

-- what is left behind the piece i
abbrev pub behind : Bool → Shape → ℕ → Piece → ℕ → List Part
behind turns shape i p v = onward turns p (left_of turns shape (i + 1)) v

-- the piece i had the number v; its partner is due, if it has one
abbrev pub Numbered : (List ℕ → Type 0) → Bool → Shape → List ℕ → ℕ → ℕ → ℕ → Piece → ℕ → Type 0
Numbered P turns shape s at n i p v = InShape P turns shape s at n (with_partner (has_partner turns p.stands) (behind turns shape i p v))

-- a field of the piece is due
module _ {P : List ℕ → Type 0} {turns : Bool} {shape : Shape} {s : List ℕ} {at₀ at n i : ℕ} {p : Piece} (f : Fields (InShape P turns shape s at n) turns shape i p at₀ at) where
  next : Next p.field (part_of turns p ∷ left_of turns shape (i + 1))
  next = next_piece turns p (left_of turns shape (i + 1))

  -- after its number there is its partner, if it has one
  on : {Q : List ℕ → Type 0} (v : ℕ) → InShape Q turns shape s (at + p.width) (n + 1) (after (part_of turns p ∷ left_of turns shape (i + 1)) v)
      → Numbered Q turns shape s (at + p.width) (n + 1) i p v
  on {Q} v k = subst (InShape Q turns shape s (at + p.width) (n + 1)) (after_piece turns p (left_of turns shape (i + 1)) v) k

  pub due_fits : (n ≤ at) × (at ≤ 8 * length s) × (1 ≤ p.width) × (p.width ≤ 15)
  due_fits = field_fits f.known next f.wide

  pub due_short : 8 * length s - at < p.width → read_shape turns shape s ≡ refused R.Bits at
  due_short = field_short f.known next f.wide

  module _ (h : p.width ≤ 8 * length s - at) {v : ℕ} (ev : v ≡ field_at s at p.width) {x : Value} (ex : x ≡ typed p.field v) where
    pub due_bad : may_hold x ≡ false → read_shape turns shape s ≡ refused R.Field at
    due_bad = field_bad f.known next f.wide h ev ex

    pub due_on : {Q : List ℕ → Type 0} {end : ℕ} → end ≡ at + p.width → may_hold x ≡ true → Q (f.known.xs ++ (v ∷ []))
        → Numbered Q turns shape s end (n + 1) i p v
    due_on e b also = found_at e refl (on v (field_on f.known next f.wide h ev ex b also))

  module _ {room : ℕ} (roomy : Roomy (read_shape turns shape s) room) where
    pub due_sure : (n ≤ at) × (at + p.width ≤ 8 * length s) × (1 ≤ p.width) × (p.width ≤ 15) × (n < room)
    due_sure = field_sure f.known next f.wide roomy

    pub due_stored : {v r : ℕ} {x : Value} {Q : List ℕ → Type 0} → v ≡ field_at s at p.width → x ≡ typed p.field v → r ≡ as_number x → Q (f.known.xs ++ (r ∷ []))
        → Numbered Q turns shape s (at + p.width) (n + 1) i p r
    due_stored {r = r} ev ex er also = on r (field_stored f.known next f.wide roomy ev ex er also)

-- a partner is due, or is not
module _ {P : List ℕ → Type 0} {again first : List Part} {s : List ℕ} {at n : ℕ} {has : Bool} {left : List Part} (o : Found P again first s at n (with_partner has left)) where
  pub partner_due : has ≡ true → Found P again first s at n (once F.Parameters ∷ left)
  partner_due e = subst (λ (b : Bool). Found P again first s at n (with_partner b left)) e o

  pub partner_none : has ≡ false → Found P again first s at n left
  partner_none e = subst (λ (b : Bool). Found P again first s at n (with_partner b left)) e o

-- the parameter set of a pair is due, of which every number is good; then `left` is left
module _ {P : List ℕ → Type 0} {again first : List Part} {s : List ℕ} {at n : ℕ} {left : List Part} (o : Found P again first s at n (once F.Parameters ∷ left)) where
  done : {Q : List ℕ → Type 0} (v : ℕ) → Found Q again first s (at + 8) (n + 1) (after (once F.Parameters ∷ left) v) → Found Q again first s (at + 8) (n + 1) left
  done {Q} v k = subst (Found Q again first s (at + 8) (n + 1)) (after_parameters left v) k

  pub second_short : 8 * length s - at < 8 → read_by again first s ≡ refused R.Bits at
  second_short = field_short o (next_parameters left) refl

  pub second_on : {Q : List ℕ → Type 0} {end : ℕ} → end ≡ at + 8 → 8 ≤ 8 * length s - at → Q (o.xs ++ (field_at s at 8 ∷ [])) → Found Q again first s end (n + 1) left
  second_on e h also = found_at e refl (done _ (field_on o (next_parameters left) refl h refl refl refl also))

  module _ {room : ℕ} (roomy : Roomy (read_by again first s) room) where
    pub second_sure : (n ≤ at) × (at + 8 ≤ 8 * length s) × (1 ≤ 8) × (8 ≤ 15) × (n < room)
    second_sure = field_sure o (next_parameters left) refl roomy

    pub second_stored : {v r : ℕ} {x : Value} {Q : List ℕ → Type 0} → v ≡ field_at s at 8 → x ≡ typed F.Parameters v → r ≡ as_number x → Q (o.xs ++ (r ∷ []))
        → Found Q again first s (at + 8) (n + 1) left
    second_stored ev ex er also = done _ (field_stored o (next_parameters left) refl roomy ev ex er also)

pub over_again : {P : List ℕ → Type 0} {turns : Bool} {shape : Shape} {s : List ℕ} {at n : ℕ} → InShape P turns shape s at n [] → 8 ≤ 8 * length s - at
    → Records (InShape P turns shape s at n) turns shape shape.again
over_again {turns = turns} {shape} o h =
    let begins = (walkable shape).begins in record { known = over_on o (left_next turns shape shape.again begins) h; there = begins }
