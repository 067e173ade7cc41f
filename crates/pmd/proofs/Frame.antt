-- What a loop may say of a lent run that it writes from its start on: since the loop began, nothing changed from the place n on.
-- Loops inside loops are joined by `frame_then`.
use Prim.Native.Nat.{ℕ, ◌+◌, ◌-◌, ◌≤◌}
use mathlib.Core.Path.{◌≡◌, refl, sym, ap, ap₂, ◌∙◌}
use mathlib.Core.List.{List, ◌++◌}
use native.Mathlib.Omega.{arith}
use lib.ListN.{length, take, drop, set, length-set, take-append-drop}
use lib.Seq.{drop-drop, drop-set-lt}
use Rattle.runs.specs.Over.{over}

pub record Frame (before : List ℕ) (n₀ : ℕ) (now : List ℕ) (n : ℕ) : Type 0 where
  pub since : n₀ ≤ n
  pub long : length now ≡ length before
  pub rest : drop n now ≡ drop n before

pub frame_begins : (l : List ℕ) (n : ℕ) → Frame l n l n
frame_begins l n = record { since = omega arith; long = refl; rest = refl }

-- further on nothing changed either
further : (k n : ℕ) (xs ys : List ℕ) → n ≤ k → drop n xs ≡ drop n ys → drop k xs ≡ drop k ys
further k n xs ys h e =
    let q : n + (k - n) ≡ k = omega arith in
    ap (λ (m : ℕ). drop m xs) (sym q) ∙ sym (drop-drop (k - n) n xs) ∙ ap (drop (k - n)) e ∙ drop-drop (k - n) n ys ∙ ap (λ (m : ℕ). drop m ys) q

pub frame_then : {before mid now : List ℕ} {n₀ m n : ℕ} → Frame before n₀ mid m → Frame mid m now n → Frame before n₀ now n
frame_then {before} {mid} {now} {n₀} {m} {n} f g = record {
  since = omega (arith, f.since, g.since);
  long = g.long ∙ f.long;
  rest = g.rest ∙ further n m mid before g.since f.rest;
}

pub frame_set : (l : List ℕ) (n v : ℕ) → Frame l n (set l n v) (n + 1)
frame_set l n v = record { since = omega arith; long = length-set l n v; rest = drop-set-lt (n + 1) l n v (omega arith) }

-- a run that was written from its start up to n
pub frame_over : {before now : List ℕ} {n₀ n : ℕ} (xs : List ℕ) → Frame before n₀ now n → take n now ≡ xs → length xs ≡ n → now ≡ over before 0 xs
unfolding over
frame_over {before} {now} {n₀} {n} xs f e h =
    sym (take-append-drop n now) ∙ ap₂ (λ (a b : List ℕ). a ++ b) e f.rest
    ∙ ap (λ (m : ℕ). xs ++ drop m before) (let q : n ≡ 0 + length xs = omega arith in q)
