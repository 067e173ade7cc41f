-- Items in the slots of a reading: one part more is so many stores more.
use Prim.Native.Nat.{ℕ, suc, ◌+◌, ◌<◌, ◌≤◌}
use mathlib.Core.Path.{◌≡◌, refl, sym, ap, ◌∙◌}
use mathlib.Core.List.{List, [], ◌∷◌, ◌++◌, map, append_assoc, append-nil}
use native.Mathlib.Omega.{arith}
use lib.ListN.{length, set, length-append}
use lib.Seq.{sets, set_comm}
use Rattle.pack.specs.Items.{Part, one, many}
use Rattle.pack.specs.Slots.{slots, padded}
use Rattle.pack.specs.declared.Payload.{Payload}
use Rattle.pack.specs.declared.Item.{Item}
use Rattle.pack.specs.declared.Item.TheVariants as I
use Rattle.pack.proofs.Padded.{set_padded}

abbrev pub inner_slot : Payload → Item
inner_slot x = I.Inner x

-- one part more
pub slots_more : (ps : List Part) (x : Part) → slots (ps ++ (x ∷ [])) ≡ slots ps ++ slots (x ∷ [])
unfolding slots
slots_more [] x = refl
slots_more (one y ∷ ps) x = ap (λ (l : List Item). I.Single y ∷ l) (slots_more ps x)
slots_more (many h ys ∷ ps) x =
    ap (λ (l : List Item). I.Sync h ∷ l)
    (ap (λ (l : List Item). map inner_slot ys ++ l) (slots_more ps x) ∙ sym (append_assoc (map inner_slot ys) (slots ps) (slots (x ∷ []))))

-- a run of stores: the array is the padding of so many more
pub sets_padded : {A : Type 0} (cap : ℕ) (z : A) (xs : List A) (n : ℕ) (ys : List A) → length xs ≡ n → n + length ys ≤ cap
    → sets (padded cap z xs) n ys ≡ padded cap z (xs ++ ys)
sets_padded cap z xs n [] e h = ap (padded cap z) (sym (append-nil xs))
sets_padded cap z xs n (y ∷ ys) e h =
    let l = length-append xs (y ∷ []) in
    ap (λ (a : List _). sets a (suc n) ys) (set_padded cap z xs n e y (omega arith))
    ∙ sets_padded cap z (xs ++ (y ∷ [])) (suc n) ys (omega arith) (omega arith)
    ∙ ap (padded cap z) (append_assoc xs (y ∷ []) ys)

-- one more at its end, and one before it
pub sets_snoc : {A : Type 0} (l : List A) (i : ℕ) (vs : List A) (k : ℕ) (x : A) → i + length vs ≡ k → set (sets l i vs) k x ≡ sets l i (vs ++ (x ∷ []))
sets_snoc l i [] k x e = ap (λ (n : ℕ). set l n x) (let q : k ≡ i = omega arith in q)
sets_snoc l i (v ∷ vs) k x e = sets_snoc (set l i v) (suc i) vs k x (omega arith)

pub sets_before : {A : Type 0} (l : List A) (i n : ℕ) (vs : List A) (x : A) → n < i → set (sets l i vs) n x ≡ sets (set l n x) i vs
sets_before l i n [] x h = refl
sets_before l i n (v ∷ vs) x h =
    let d : i ≡ n → ⊥ = λ e. absurd (omega arith) in
    sets_before (set l i v) (suc i) n vs x (omega arith) ∙ ap (λ (m : List _). sets m (suc i) vs) (set_comm l i n v x d)
