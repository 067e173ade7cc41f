-- The smallest number from 64 up that is not taken. It is found among as many as are taken and one more (pigeonhole: each number that is
-- passed over is a taken one less above).
use mathlib.Core.Path.{◌≡◌}
use mathlib.Core.List.{List}
use mathlib.Core.Bool.{true, false}
use Prim.Native.Nat.{ℕ, zero, suc, ◌+◌, ◌<◌, ◌≤◌}
use native.Mathlib.Omega.{arith}
use lib.ListN.{length}
use lib.Dec.{leb, eqb}
use borrow.Author.Tests.{leb-true, le-leb, lt-leb, eqb-true, eqb-false}
use Rattle.runs.specs.Same.{among}
use Rattle.runs.specs.Those.{those}
use Rattle.runs.proofs.Cases.{split}
use Rattle.runs.proofs.Those.{those_few}
use Rattle.scrub_kept.specs.Written.{free_from, free}
use Rattle.scrub_kept.proofs.Listed.{among_mem, those_fewer}

-- how many of a list are at least n; one number up they are fewer, if the number is among them
abbrev above : ℕ → List ℕ → ℕ
above n xs = length (those (leb n) xs)

above_one : (n : ℕ) (xs : List ℕ) → among n xs ≡ true → above (suc n) xs < above n xs
above_one n xs h =
    those_fewer (leb n) (leb (suc n)) (λ x e. le-leb n x (omega (arith, leb-true))) xs (among_mem n xs h) (le-leb n n (omega arith)) (lt-leb (suc n) n (omega arith))

from_new : (k n : ℕ) (xs : List ℕ) → above n xs ≤ k → among (free_from k n xs) xs ≡ false
unfolding free_from
from_new zero n xs h = split (among n xs) (λ e. let i = above_one n xs e in absurd (omega arith)) (λ e. e)
from_new (suc k) n xs h =
    split (among n xs) (λ e. let i = above_one n xs e in rw e (from_new k (suc n) xs (omega arith))) (λ e. rw e e)

from_range : (k n : ℕ) (xs : List ℕ) → (n ≤ free_from k n xs) × (free_from k n xs ≤ n + k)
unfolding free_from
from_range zero n xs = (omega arith, omega arith)
from_range (suc k) n xs =
    split (among n xs) (λ e. let i = from_range k (suc n) xs in rw e (omega arith, omega arith)) (λ e. rw e (omega arith, omega arith))

from_least : (k n : ℕ) (xs : List ℕ) (m : ℕ) → n ≤ m → m < free_from k n xs → among m xs ≡ true
unfolding free_from
from_least zero n xs m h g = absurd (omega arith)
from_least (suc k) n xs m h g =
    split (among n xs)
    (λ e. split (eqb n m)
    (λ f. rw (← eqb-true n m f) e)
    (λ f. let d = eqb-false n m f in from_least k (suc n) xs m (omega arith) (simp e at g)))
    (λ e. let i : m < n = simp e at g in absurd (omega arith))

-- it is not taken
pub free_new : (taken : List ℕ) → among (free taken) taken ≡ false
free_new taken = from_new (length taken) _ taken (those_few (leb 64) taken)

pub free_range : (taken : List ℕ) → (64 ≤ free taken) × (free taken ≤ 64 + length taken)
free_range taken = from_range (length taken) _ taken

-- every smaller number from 64 up is taken
pub free_smallest : (taken : List ℕ) (m : ℕ) → 64 ≤ m → m < free taken → among m taken ≡ true
free_smallest taken m h g = from_least (length taken) _ taken m h g
