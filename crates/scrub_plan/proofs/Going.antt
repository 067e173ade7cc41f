-- What the plan loop keeps: the plan of the items from some item on.
use mathlib.Core.Path.{◌≡◌, refl, sym, ap, ap₂, ◌∙◌}
use mathlib.Core.List.{List, [], ◌∷◌, ◌++◌, append_assoc}
use Rattle.std.specs.Prelude.{Option, None}
use Prim.Native.Nat.{ℕ, suc, ◌+◌, ◌-◌, ◌*◌, ◌<◌, ◌≤◌}
use native.Mathlib.Omega.{arith}
use lib.ListN.{length, drop, get_or, set, replicate, length-replicate, replicate-append-replicate, drop_of_length-le}
use lib.Seq.{drop-cons, set_at}
use Rattle.pack.specs.declared.Name.{Name}
use Rattle.pack.specs.declared.Item.{Item}
use Rattle.scrub_ops.specs.declared.Op.{Op}
use Rattle.scrub_plan.specs.declared.ItemPlan.{ItemPlan}
use Rattle.scrub_plan.specs.Planned.{tag_of, item_plan, Planned, joined, planned, Plans}

set_last : (s x : Option Op) (xs : List (Option Op)) (i : ℕ) → set (replicate (i + 1) s ++ xs) i x ≡ replicate i s ++ (x ∷ xs)
set_last s x xs i =
    ap (λ (l : List (Option Op)). set (l ++ xs) i x) (sym (replicate-append-replicate i 1 s))
    ∙ ap (λ (l : List (Option Op)). set l i x) (append_assoc (replicate i s) (s ∷ []) xs)
    ∙ set_at (replicate i s) s xs x i (length-replicate i s)

-- the items from i on are planned
pub record Going (index : List ℕ) (xs : List Item) (ms : List (Option Name)) (ops : List (Option Op)) (inner size i : ℕ) : Type 0 where
  pub full : ops ≡ replicate i None ++ ((planned index (drop i xs) (drop i ms)).ops ++ replicate (64 - length xs) None)
  pub ins : inner ≡ (planned index (drop i xs) (drop i ms)).inner
  pub tot : size ≡ (planned index (drop i xs) (drop i ms)).total
  pub bound : size + i * 40000 ≤ length xs * 40000
  pub small : inner ≤ size

pub going_begins : (index : List ℕ) (xs : List Item) (ms : List (Option Name)) → length xs ≤ 64 → Going index xs ms (replicate 64 None) 0 0 (length xs)
unfolding planned
going_begins index xs ms f =
    let e : drop (length xs) xs ≡ [] = drop_of_length-le xs {i = length xs} (omega arith) in
    let z : length xs + (64 - length xs) ≡ 64 = omega arith in
    record {
      full = rw e (ap (λ (k : ℕ). replicate k None) (sym z) ∙ sym (replicate-append-replicate (length xs) (64 - length xs) None));
      ins = rw e;
      tot = rw e;
      bound = omega arith;
      small = omega arith;
    }

planned_count : (index : List ℕ) (xs : List Item) (ms : List (Option Name)) → length xs ≤ length ms → length (planned index xs ms).ops ≡ length xs
unfolding planned
planned_count index [] ms h = refl
planned_count index (x ∷ xs) [] h = absurd (let z : suc (length xs) ≤ 0 = h in omega arith)
planned_count index (x ∷ xs) (m ∷ ms) h = ap suc (planned_count index xs ms (let z : suc (length xs) ≤ suc (length ms) = h in omega arith))

module _ {index : List ℕ} {xs : List Item} {ms : List (Option Name)} {ops : List (Option Op)} {inner size : ℕ} (few : length xs ≤ 64) (long : length ms ≡ 64) where
  pub going_ends : {i : ℕ} → Going index xs ms ops inner size i → i ≤ 0 → Plans index xs ms (record { ops = ops; size = size })
  going_ends {i} g h =
      let b = g.bound in
      let z : i ≡ 0 = omega arith in
      let n = planned_count index xs ms (omega arith) in
      record {
        ops =
            g.full ∙ ap (λ (k : ℕ). replicate k None ++ ((planned index (drop k xs) (drop k ms)).ops ++ replicate (64 - length xs) None)) z
            ∙ ap (λ (k : ℕ). (planned index xs ms).ops ++ replicate (64 - k) None) (sym n);
        size = g.tot ∙ ap (λ (k : ℕ). (planned index (drop k xs) (drop k ms)).total) z;
        small = omega arith;
      }

  -- the item before them
  pub going_on : {i : ℕ} (d : Item) → Going index xs ms ops inner size i → 0 < i → i ≤ length xs → (t : Option ℕ) → t ≡ tag_of index (get_or ms (i - 1) None)
      → (r : ItemPlan) → r ≡ item_plan (get_or xs (i - 1) d) t inner → r.size ≤ 40000 → r.inner ≤ inner + r.size
      → Going index xs ms (set ops (i - 1) r.op) r.inner (size + r.size) (i - 1)
  unfolding planned
  going_on {i} d g some most t f r e small within =
      let j = i - 1 in
      let s : suc j ≡ i = omega arith in
      let n : i ≡ j + 1 = omega arith in
      let a : drop j xs ≡ get_or xs j d ∷ drop i xs = drop-cons xs j d (omega arith) ∙ ap (λ (n : ℕ). get_or xs j d ∷ drop n xs) s in
      let b : drop j ms ≡ get_or ms j None ∷ drop i ms = drop-cons ms j None (omega arith) ∙ ap (λ (n : ℕ). get_or ms j None ∷ drop n ms) s in
      let rest = planned index (drop i xs) (drop i ms) in
      let tail = rest.ops ++ replicate (64 - length xs) None in
      let p : planned index (drop j xs) (drop j ms) ≡ joined r rest =
      ap₂ (planned index) a b
      ∙ ap (λ (n : ℕ). joined (item_plan (get_or xs j d) (tag_of index (get_or ms j None)) n) rest) (sym g.ins)
      ∙ ap (λ (x : ItemPlan). joined x rest) (sym (e ∙ ap (λ (u : Option ℕ). item_plan (get_or xs j d) u inner) f)) in
      record {
        full =
            ap (λ (y : List (Option Op)). set y j r.op) (g.full ∙ ap (λ (k : ℕ). replicate k None ++ tail) n)
            ∙ set_last None r.op tail j
            ∙ ap (λ (x : Planned). replicate j None ++ (x.ops ++ replicate (64 - length xs) None)) (sym p);
        ins = sym (ap (λ (x : Planned). x.inner) p);
        tot = let y = ap (λ (x : Planned). x.total) p in let w = g.tot in omega arith;
        bound = let y = g.bound in omega arith;
        small = let y = g.small in omega arith;
      }
