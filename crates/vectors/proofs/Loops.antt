-- What the loops of the vector programs keep, each by its turns and its ends.
use mathlib.Core.Path.{◌≡◌, refl, sym, ap, subst, ◌∙◌}
use mathlib.Core.List.{List, ◌∷◌, ◌++◌, map}
use Prim.Native.Nat.{ℕ, ◌+◌, ◌-◌, ◌<◌, ◌≤◌}
use native.Mathlib.Omega.{arith}
use lib.ListN.{length, take, drop, get_or, set, replicate, length-set, drop_of_length-le}
use Rattle.runs.specs.Digits.{digits}
use Rattle.runs.specs.Over.{Wrote}
use Rattle.runs.proofs.Writing.{Writing, writing_begins, writing_as, writing_byte, writing_done}
use Rattle.numbers.specs.Big.{big_at}
use Rattle.vectors.specs.Blocks.{fitting, fours, parts_from, blocks_in}
use Rattle.vectors.proofs.Blocks.{repeat_next, repeat_none, big_next, big_none, fitting_append, fours_few, fours_next, fours_cut, parts_over, parts_cut, parts_next}
use Rattle.vectors.proofs.Filling.{Filling, filling_begins, filling_on, filling_ends}

-- NUMBERS THAT ARE LAID OUT

-- the numbers from i on are still to be laid
pub record Laying (numbers before now : List ℕ) (i at : ℕ) : Type 0 where
  pub filling : Filling before 0 (fitting (length before) (map (digits 256 4) numbers)) now at (map (digits 256 4) (drop i numbers))

pub laying_begins : (numbers before : List ℕ) → Laying numbers before before 0 0
laying_begins numbers before = record { filling = filling_begins before 0 (length before) (map (digits 256 4) numbers) (omega arith) (omega arith) }

module _ {numbers before now : List ℕ} {i at : ℕ} (l : Laying numbers before now i at) where
  pub laying_on : {after : List ℕ} {next : ℕ} → i < length numbers → 4 ≤ length now - at → Wrote now at (digits 256 4 (get_or numbers i 0)) next after
      → Laying numbers before after (i + 1) next
  laying_on h fits w = record { filling = filling_on l.filling (digits 256 4 (get_or numbers i 0)) _ (big_next (length now - at) numbers i h fits) w }

  pub laying_full : length now - at < 4 → (at ≤ length now) × Wrote before 0 (fitting (length before) (map (digits 256 4) numbers)) at now
  laying_full h = filling_ends l.filling (big_none (length now - at) (drop i numbers) h)

  pub laying_ends : length numbers ≤ i → (at ≤ length now) × Wrote before 0 (fitting (length before) (map (digits 256 4) numbers)) at now
  unfolding fitting
  laying_ends h =
      filling_ends l.filling (ap (λ (xs : List ℕ). fitting (length now - at) (map (digits 256 4) xs)) (drop_of_length-le numbers {i = i} h))

-- A BLOCK AGAIN AND AGAIN

-- it was put t times
pub record Repeating (block : List ℕ) (times : ℕ) (before : List ℕ) (from : ℕ) (now : List ℕ) (n t : ℕ) : Type 0 where
  pub filling : Filling before from (fitting (length before - from) (replicate times block)) now n (replicate (times - t) block)

pub repeating_begins : (block : List ℕ) (times : ℕ) (before : List ℕ) (from : ℕ) → from ≤ length before → Repeating block times before from before from 0
repeating_begins block times before from h =
    let e : times ≡ times - 0 = omega arith in
    record {
      filling =
          subst (λ (k : ℕ). Filling before from (fitting (length before - from) (replicate times block)) before from (replicate k block)) e
          (filling_begins before from (length before - from) (replicate times block) h refl);
    }

module _ {block before now : List ℕ} {times from n t : ℕ} (r : Repeating block times before from now n t) where
  pub repeating_on : {after : List ℕ} {next : ℕ} → t < times → length block ≤ length now - n → Wrote now n block next after → Repeating block times before from after next (t + 1)
  repeating_on h fits w = record { filling = filling_on r.filling block _ (repeat_next (length now - n) times t block h fits) w }

  pub repeating_full : length now - n < length block → (n ≤ length now) × Wrote before from (fitting (length before - from) (replicate times block)) n now
  repeating_full h = filling_ends r.filling (repeat_none (length now - n) (times - t) block h)

  pub repeating_ends : times ≤ t → (n ≤ length now) × Wrote before from (fitting (length before - from) (replicate times block)) n now
  unfolding fitting
  repeating_ends h = filling_ends r.filling (ap (λ (k : ℕ). fitting (length now - n) (replicate k block)) (let e : times - t ≡ 0 = omega arith in e))

-- NUMBERS THAT ARE TAKEN

-- those from `at` on are still to be taken
pub record Taking (s before now : List ℕ) (n at : ℕ) : Type 0 where
  pub inside : n ≤ length now
  pub writing : Writing before 0 (fours (length before) s 0) now n (fours (length now - n) s at)

pub taking_begins : (s before : List ℕ) → Taking s before before 0 0
taking_begins s before =
    let few = fours_few (length before) s 0 in
    let e : length before ≡ length before - 0 = omega arith in
    record { inside = omega arith; writing = writing_as (ap (λ (k : ℕ). fours k s 0) e) (writing_begins before 0 (fours (length before) s 0) (omega arith)) }

module _ {s before now : List ℕ} {n at : ℕ} (t : Taking s before now n at) where
  pub taking_on : (v : ℕ) → n < length now → 4 ≤ length s - at → v ≡ big_at s at 4 → Taking s before (set now n v) (n + 1) (at + 4)
  taking_on v h there e =
      let l = length-set now n v in
      let k : length now - n - 1 ≡ length (set now n v) - (n + 1) = omega arith in
      let next = fours_next (length now - n) s at (omega arith) there ∙ ap (λ (x : ℕ). x ∷ fours (length now - n - 1) s (at + 4)) (sym e) in
      record {
        inside = omega arith;
        writing = writing_as (ap (λ (j : ℕ). fours j s (at + 4)) k) (writing_byte v (fours (length now - n - 1) s (at + 4)) (writing_as next t.writing));
      }

  pub taking_cut : length s - at < 4 → (n ≤ length now) × Wrote before 0 (fours (length before) s 0) n now
  taking_cut h = (t.inside, writing_done (writing_as (fours_cut (length now - n) s at h) t.writing))

  pub taking_ends : length now ≤ n → (length now ≤ length now) × Wrote before 0 (fours (length before) s 0) (length now) now
  unfolding fours
  taking_ends h =
      let i = t.inside in
      let all : n ≡ length now = omega arith in
      let none : length now - n ≡ 0 = omega arith in
      let whole = writing_done (writing_as (ap (λ (k : ℕ). fours k s at) none) t.writing) in
      (omega arith, subst (λ (k : ℕ). Wrote before 0 (fours (length before) s 0) k now) all whole)

-- PARTS THAT ARE JOINED

-- those from `at` on are still to be put, and at most `most` are
pub record Joining (parts before now : List ℕ) (n at : ℕ) : Type 0 where
  pub most : ℕ
  pub enough : length parts ≤ most + at
  pub filling : Filling before 0 (fitting (length before) (blocks_in parts)) now n (parts_from most parts at)

pub joining_begins : (parts before : List ℕ) → Joining parts before before 0 0
joining_begins parts before = record {
  most = length parts;
  enough = omega arith;
  filling = filling_begins before 0 (length before) (blocks_in parts) (omega arith) (omega arith);
}

module _ {parts before now : List ℕ} {n at : ℕ} (j : Joining parts before now n at) where
  -- the slice of a block ends where the next part begins
  pub joining_on : {after : List ℕ} {next times size : ℕ} → 4 ≤ length parts - at → times ≡ big_at parts at 2 → size ≡ big_at parts (at + 2) 2 → size ≤ length parts - (at + 4)
      → Wrote now n (fitting (length now - n) (replicate times (take (at + 4 + size - (at + 4)) (drop (at + 4) parts)))) next after
      → Joining parts before after next (at + 4 + size)
  joining_on {times = times} {size = size} there e f h w =
      let room = length now - n in
      let slice = take (at + 4 + size - (at + 4)) (drop (at + 4) parts) in
      let rest = parts_from (j.most - 1) parts (at + 4 + size) in
      let k : size ≡ at + 4 + size - (at + 4) = omega arith in
      let same = ap (λ (k : ℕ). replicate times (take k (drop (at + 4) parts)) ++ rest) k in
      record {
        most = j.most - 1;
        enough = omega (arith, j.enough);
        filling =
            filling_on j.filling (fitting room (replicate times slice)) rest
            (ap (fitting room) (parts_next j.most parts at times size e f there j.enough h ∙ same) ∙ fitting_append room (replicate times slice) rest) w;
      }

  pub joining_cut : 4 ≤ length parts - at → length parts - (at + 4) < big_at parts (at + 2) 2
      → (n ≤ length now) × Wrote before 0 (fitting (length before) (blocks_in parts)) n now
  unfolding fitting
  joining_cut there h = filling_ends j.filling (ap (fitting (length now - n)) (parts_cut j.most parts at there h))

  pub joining_ends : length parts - at < 4 → (n ≤ length now) × Wrote before 0 (fitting (length before) (blocks_in parts)) n now
  unfolding fitting
  joining_ends h = filling_ends j.filling (ap (fitting (length now - n)) (parts_over j.most parts at h))
