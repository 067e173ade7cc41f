-- What the loops over a list keep: the bits so far, before those that are written from here on, are all. The laws say what a number, a refusal,
-- the end of a record and the end of the list make of it.
use Prim.Native.Nat.{ℕ, ◌+◌, ◌*◌, ◌<◌, ◌≤◌}
use mathlib.Core.Path.{◌≡◌, refl, sym, ap, ap₂, subst, ◌∙◌}
use mathlib.Core.List.{List, [], ◌∷◌, ◌++◌}
use mathlib.Core.Bool.{Bool, true, false, cond}
use native.Mathlib.Omega.{arith}
use lib.Dec.{leb}
use lib.ListN.{length, drop, get_or, length-append, drop_of_length-le}
use borrow.Author.Tests.{leb-true, leb-false}
use Rattle.runs.specs.Digits.{digits}
use Rattle.runs.proofs.Cases.{split, absurd_eq}
use Rattle.runs.proofs.Digits.{length_digits}
use Rattle.runs.proofs.Stands.{here}
use Rattle.std.specs.Prelude.{Ok, Err}
use Rattle.refusals.specs.Outcomes.{Outcome, fine, refused, Answer}
use Rattle.refusals.specs.Refusals.{refused_at}
use Rattle.refusals.specs.declared.Refused.{Refused}
use Rattle.refusals.specs.Lent.{prepend}
use Rattle.refusals.specs.declared.Refusal.TheVariants as R
use Rattle.pmd.specs.declared.Field.{Field}
use Rattle.pmd.specs.declared.Field.TheVariants as F
use Rattle.pmd.specs.declared.Piece.{Piece}
use Rattle.pmd.specs.declared.Shape.{Shape}
use Rattle.pmd.specs.Table.{width_of, Part, once}
use Rattle.pmd.specs.Records.{field_of, fits, width, takes, after, closed, opened}
use Rattle.pmd.specs.Writing.{write_from}
use Rattle.pmd.specs.Pieces.{has_partner}
use Rattle.pmd.specs.Shapes.{part_of, left_of, Roomy}
use Rattle.pmd.proofs.Fields.{narrow}
use Rattle.pmd.proofs.Next.{Next, next_piece, after_parameters, after_piece, onward, with_partner}
use Rattle.pmd.proofs.Walk.{Records, Fields, walkable, left_next}
use Rattle.pmd.proofs.Begun.{Begun, begun_none, begun_on, begun_as, begun_refused, begun_ends, begun_fits, roomy_never}
use Rattle.pmd_write.specs.ByShape.{write_by, write_shape, weight}

-- the writer where a field f of w bits is next: no number, and a number, which is taken or is not
module _ (again : List Part) (vs : List ℕ) (n : ℕ) where
  abbrev Lacks : List Part → Type 0
  Lacks left = write_from again left (drop n vs) n ≡ refused R.Bits n

  write_short : {f : Field} {left : List Part} → Next f left → length vs ≤ n → Lacks left
  unfolding write_from closed
  write_short next h =
      subst Lacks (sym next.is) (ap (λ (l : List ℕ). write_from again (next.part ∷ next.rest) l n) (drop_of_length-le vs {i = n} h))

  abbrev met : List Part → Field → ℕ → Outcome (List ℕ)
  met left f w =
      cond (fits f (get_or vs n 0))
      (prepend (digits 2 w (get_or vs n 0)) (write_from again (after left (get_or vs n 0)) (drop (n + 1) vs) (n + 1)))
      (refused R.Field n)

  abbrev Meets : List Part → Field → Type 0
  Meets left f = write_from again left (drop n vs) n ≡ met left f (width_of f)

  at_part : (p : Part) (left : List Part) → n < length vs → Meets (p ∷ left) (field_of p)
  unfolding write_from opened width takes
  at_part p left h = ap (λ (l : List ℕ). write_from again (p ∷ left) l n) (here vs n h)

  at_next : {f : Field} {left : List Part} → Next f left → n < length vs → Meets left f
  at_next {f} next h =
      subst (λ (l : List Part). Meets l f) (sym next.is)
      (subst (λ (g : Field). Meets (next.part ∷ next.rest) g) next.field (at_part next.part next.rest h))

-- and where a record is closed: no number, and numbers that begin another record
write_over : (again : List Part) (vs : List ℕ) (n : ℕ) → length vs ≤ n → write_from again [] (drop n vs) n ≡ fine []
unfolding write_from closed
write_over again vs n h = ap (λ (l : List ℕ). write_from again [] l n) (drop_of_length-le vs {i = n} h)

write_again : (again : List Part) (p : Part) (left : List Part) (v : ℕ) (vs : List ℕ) (n : ℕ) → again ≡ p ∷ left
    → write_from again [] (v ∷ vs) n ≡ write_from again again (v ∷ vs) n
unfolding write_from opened
write_again again p left v vs n e =
    subst (λ (g : List Part). write_from g [] (v ∷ vs) n ≡ write_from g g (v ∷ vs) n) (sym e) refl

-- what a loop knows: the bits bs are those of the first n numbers, this of them, and this is left of the record
pub record Run (P : List ℕ → Type 0) (again first : List Part) (vs : List ℕ) (n : ℕ) (left : List Part) : Type 0 where
  pub bs : List ℕ
  pub also : P bs
  pub begun : Begun (write_by again first vs) bs (write_from again left (drop n vs) n)

pub run_none : {P : List ℕ → Type 0} {again first : List Part} {vs : List ℕ} → P [] → Run P again first vs 0 first
run_none also = record { bs = []; also = also; begun = begun_none _ }

-- the number n of a list, which a field takes, or what is wrong with it
abbrev pub taken_of : List ℕ → ℕ → Field → Answer
taken_of vs n f =
    cond (leb (length vs) n) (Err (refused_at R.Bits n)) (cond (fits f (get_or vs n 0)) (Ok (get_or vs n 0)) (Err (refused_at R.Field n)))

pub taken_was : (vs : List ℕ) (n : ℕ) (f : Field) {v : ℕ} → Ok v ≡ taken_of vs n f → (n < length vs) × (v ≡ get_or vs n 0) × (fits f v ≡ true)
taken_was vs n f {v} e =
    split (leb (length vs) n)
    (λ l. let no : ◌≡◌ {A = Answer} (Ok v) (Err (refused_at R.Bits n)) = simp l at e in absurd_eq (cc))
    (λ l.
    split (fits f (get_or vs n 0))
    (λ b.
    let is : ◌≡◌ {A = Answer} (Ok v) (Ok (get_or vs n 0)) = simp (l, b) at e in
    let same : v ≡ get_or vs n 0 = cc in
    (leb-false _ _ l, same, ap (fits f) same ∙ b))
    (λ b. let no : ◌≡◌ {A = Answer} (Ok v) (Err (refused_at R.Field n)) = simp (l, b) at e in absurd_eq (cc)))

-- where the number of a field of w bits is next
module _ {P : List ℕ → Type 0} {again first : List Part} {vs : List ℕ} {n w : ℕ} {left : List Part} {f : Field} (o : Run P again first vs n left) (next : Next f left) (wide : w ≡ width_of f) where
  pub number_narrow : w ≤ 15
  number_narrow = (narrow f wide).1

  pub number_short : length vs ≤ n → write_by again first vs ≡ refused R.Bits n
  number_short h = begun_refused o.begun (write_short again vs n next h)

  -- it is there
  module _ (h : n < length vs) where
    meets : write_from again left (drop n vs) n ≡ met again vs n left f w
    meets = at_next again vs n next h ∙ ap (met again vs n left f) (sym wide)

    pub number_bad : fits f (get_or vs n 0) ≡ false → write_by again first vs ≡ refused R.Field n
    number_bad b = begun_refused o.begun (meets ∙ simp b)

    module _ (b : fits f (get_or vs n 0) ≡ true) where
      begins : Begun (write_by again first vs) (o.bs ++ digits 2 w (get_or vs n 0)) (write_from again (after left (get_or vs n 0)) (drop (n + 1) vs) (n + 1))
      begins = begun_on o.begun (digits 2 w (get_or vs n 0)) (meets ∙ simp b)

      pub number_on : {Q : List ℕ → Type 0} → Q (o.bs ++ digits 2 w (get_or vs n 0)) → Run Q again first vs (n + 1) (after left (get_or vs n 0))
      number_on also = record { bs = _; also = also; begun = begins }

  -- it is refused, or is taken
  pub number_refused : {r : Refused} → Err r ≡ taken_of vs n f → write_by again first vs ≡ refused r.why r.place
  number_refused {r} e =
      let as_is : Refused → Outcome (List ℕ) = λ (q : Refused). refused q.why q.place in
      split (leb (length vs) n)
      (λ l.
      let is : ◌≡◌ {A = Answer} (Err r) (Err (refused_at R.Bits n)) = simp l at e in
      let same : refused_at R.Bits n ≡ r = cc in
      number_short (leb-true _ _ l) ∙ ap as_is same)
      (λ l.
      split (fits f (get_or vs n 0))
      (λ b. let no : ◌≡◌ {A = Answer} (Err r) (Ok (get_or vs n 0)) = simp (l, b) at e in absurd_eq (cc))
      (λ b.
      let is : ◌≡◌ {A = Answer} (Err r) (Err (refused_at R.Field n)) = simp (l, b) at e in
      let same : refused_at R.Field n ≡ r = cc in
      number_bad (leb-false _ _ l) b ∙ ap as_is same))

  pub number_taken : {v : ℕ} → Ok v ≡ taken_of vs n f → {Q : List ℕ → Type 0} → Q (o.bs ++ digits 2 w v) → Run Q again first vs (n + 1) (after left v)
  number_taken {v} e {Q} also =
      let t = taken_was vs n f e in
      let is = t.1 in
      subst (λ (m : ℕ). Run Q again first vs (n + 1) (after left m)) (sym is)
      (number_on t.0 (ap (fits f) (sym is) ∙ t.2) (subst (λ (m : ℕ). Q (o.bs ++ digits 2 w m)) is also))

  -- in a list whose bits have room the number is there and is taken, and its bits have room
  module _ {room : ℕ} (roomy : Roomy (write_by again first vs) room) where
    pub number_there : n < length vs
    number_there = split (leb (length vs) n) (λ l. roomy_never roomy (number_short (leb-true _ _ l))) (λ l. leb-false _ _ l)

    pub number_good : fits f (get_or vs n 0) ≡ true
    number_good = split (fits f (get_or vs n 0)) (λ b. b) (λ b. roomy_never roomy (number_bad number_there b))

    pub number_room : length o.bs + w ≤ room
    number_room =
        let ds = digits 2 w (get_or vs n 0) in
        omega (arith, begun_fits (begins number_there number_good) roomy, length-append o.bs ds, length_digits 2 w (get_or vs n 0))

-- where a record is closed
module _ {P : List ℕ → Type 0} {again first : List Part} {vs : List ℕ} {n : ℕ} (o : Run P again first vs n []) where
  pub over_ends : length vs ≤ n → write_by again first vs ≡ fine o.bs
  over_ends h = begun_ends o.begun (write_over again vs n h)

  over_on : {p : Part} {left : List Part} → again ≡ p ∷ left → n < length vs → Run P again first vs n again
  over_on some h =
      let l = here vs n h in
      let next = write_again again _ _ (get_or vs n 0) (drop (n + 1) vs) n some in
      record {
        bs = o.bs;
        also = o.also;
        begun = begun_as o.begun (ap (λ (l : List ℕ). write_from again [] l n) l ∙ next ∙ sym (ap (λ (l : List ℕ). write_from again again l n) l));
      }

-- THE FIELDS OF A PIECE

abbrev pub InShape : (List ℕ → Type 0) → Bool → Shape → List ℕ → ℕ → List Part → Type 0
InShape P turns shape vs n = Run P (left_of turns shape shape.again) (left_of turns shape 0) vs n

-- what is left behind the piece i
abbrev pub behind : Bool → Shape → ℕ → Piece → ℕ → List Part
behind turns shape i p v = onward turns p (left_of turns shape (i + 1)) v

-- the piece i had the number v; its partner is due, if it has one
abbrev pub Numbered : (List ℕ → Type 0) → Bool → Shape → List ℕ → ℕ → ℕ → Piece → ℕ → Type 0
Numbered P turns shape vs n i p v = InShape P turns shape vs n (with_partner (has_partner turns p.stands) (behind turns shape i p v))

-- a number of the piece is due
module _ {P : List ℕ → Type 0} {turns : Bool} {shape : Shape} {vs : List ℕ} {n₀ n i : ℕ} {p : Piece} (f : Fields (InShape P turns shape vs n) turns shape i p n₀ n) where
  pub due_next : Next p.field (part_of turns p ∷ left_of turns shape (i + 1))
  due_next = next_piece turns p (left_of turns shape (i + 1))

  -- after the number v there is its partner, if it has one
  pub due_after : {Q : List ℕ → Type 0} (v : ℕ) → InShape Q turns shape vs (n + 1) (after (part_of turns p ∷ left_of turns shape (i + 1)) v)
      → Numbered Q turns shape vs (n + 1) i p v
  due_after {Q} v k = subst (InShape Q turns shape vs (n + 1)) (after_piece turns p (left_of turns shape (i + 1)) v) k

  pub due_narrow : p.width ≤ 15
  due_narrow = number_narrow f.known due_next f.wide

  pub due_refused : {r : Refused} → Err r ≡ taken_of vs n p.field → write_shape turns shape vs ≡ refused r.why r.place
  due_refused e = number_refused f.known due_next f.wide e

  pub due_taken : {v : ℕ} → Ok v ≡ taken_of vs n p.field → {Q : List ℕ → Type 0} → Q (f.known.bs ++ digits 2 p.width v) → Numbered Q turns shape vs (n + 1) i p v
  due_taken {v} e also = due_after v (number_taken f.known due_next f.wide e also)

  pub due_there : {room : ℕ} → Roomy (write_shape turns shape vs) room → n < length vs
  due_there = number_there f.known due_next f.wide

-- a partner is due, or is not
module _ {P : List ℕ → Type 0} {again first : List Part} {vs : List ℕ} {n : ℕ} {has : Bool} {left : List Part} (o : Run P again first vs n (with_partner has left)) where
  pub partner_due : has ≡ true → Run P again first vs n (once F.Parameters ∷ left)
  partner_due e = subst (λ (b : Bool). Run P again first vs n (with_partner b left)) e o

  pub partner_none : has ≡ false → Run P again first vs n left
  partner_none e = subst (λ (b : Bool). Run P again first vs n (with_partner b left)) e o

-- after the parameter set of a pair
pub after_second : {P : List ℕ → Type 0} {again first : List Part} {vs : List ℕ} {n : ℕ} {left : List Part} (v : ℕ) → Run P again first vs n (after (once F.Parameters ∷ left) v)
    → Run P again first vs n left
after_second {P} {again} {first} {vs} {n} {left} v k = subst (Run P again first vs n) (after_parameters left v) k

pub over_again : {P : List ℕ → Type 0} {turns : Bool} {shape : Shape} {vs : List ℕ} {n : ℕ} → InShape P turns shape vs n [] → n < length vs
    → Records (InShape P turns shape vs n) turns shape shape.again
over_again {turns = turns} {shape} o h =
    let begins = (walkable shape).begins in record { known = over_on o (left_next turns shape shape.again begins) h; there = begins }

-- WEIGHING

-- what a loop that weighs knows of the bits: their weight, and that no number has more than 15
pub record Weighs (vs : List ℕ) (total n : ℕ) (bs : List ℕ) : Type 0 where
  pub is : total ≡ weight vs bs
  pub low : length bs ≤ 15 * n

module _ {vs bs : List ℕ} {total n w step : ℕ} (k : Weighs vs total n bs) (slim : w ≤ 15) (s : step ≡ cond (leb (length vs) 32768) w 0) where
  pub weighs_on : (v : ℕ) → Weighs vs (total + step) (n + 1) (bs ++ digits 2 w v)
  weighs_on v =
      let long : length (bs ++ digits 2 w v) ≡ length bs + w = length-append bs (digits 2 w v) ∙ ap (λ (m : ℕ). length bs + m) (length_digits 2 w v) in
      record {
        is =
            ap₂ (λ (a b : ℕ). a + b) k.is s
            ∙ split (leb (length vs) 32768) (λ e. simp e (sym long)) (λ e. simp e);
        low = omega (arith, k.low);
      }
