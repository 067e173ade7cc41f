-- Inner. What the buffers of the vector programs are filled with: blocks of bytes, and numbers of four bytes each.
use Rattle.std.specs.Prelude.{List, [], ◌∷◌, ◌++◌, cond, ℕ, zero, suc, ◌+◌, ◌-◌, ltb, length, take, drop, replicate}
use Rattle.numbers.specs.Big.{big_at}

-- the blocks one after the other, but for those that there is no room for
unfoldable pub fitting : ℕ → List (List ℕ) → List ℕ
fitting room [] = []
fitting room (b ∷ bs) = cond (ltb room (length b)) (fitting room bs) (b ++ fitting (room - length b) bs)

-- the numbers of four bytes each that stand from `at` on, as many as there is room for
unfoldable pub fours : ℕ → List ℕ → ℕ → List ℕ
fours zero s at = []
fours (suc room) s at = cond (ltb (length s - at) 4) [] (big_at s at 4 ∷ fours room s (at + 4))

-- the blocks that parts from `at` on make up: two bytes say how often a block stands there, two how long it is, and then it stands itself
unfoldable pub parts_from : ℕ → List ℕ → ℕ → List (List ℕ)
parts_from zero s at = []
parts_from (suc most) s at =
    let times = big_at s at 2 in
    let size = big_at s (at + 2) 2 in
    let begin = at + 4 in
    cond (ltb (length s - at) 4)
    []
    (cond (ltb (length s - begin) size) [] (replicate times (take size (drop begin s)) ++ parts_from most s (begin + size)))

-- those of all parts, which are no more than their bytes
abbrev pub blocks_in : List ℕ → List (List ℕ)
blocks_in s = parts_from (length s) s 0
