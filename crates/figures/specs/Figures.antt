-- Trusted. Numbers and bytes as text, in ASCII.
use Rattle.std.specs.Prelude.{List, [], ◌∷◌, map, cond, ℕ, zero, suc, ◌+◌, ◌/◌, ◌%◌, ◌^◌, ltb, ℤ, pos, negsuc}
use Rattle.runs.specs.Digits.{digits}

-- k decimal digits if they hold n, else one more, and so on, but at most `more` more
unfoldable pub size_from : ℕ → ℕ → ℕ → ℕ
size_from k zero n = k
size_from k (suc more) n = cond (ltb n (10 ^ k)) k (size_from (suc k) more n)

-- a number in its fewest decimal digits; twenty hold every number of 64 bits
unfoldable pub decimal : ℕ → List ℕ
decimal n = map (λ (d : ℕ). 48 + d) (digits 10 (size_from 1 19 n) n)

-- an integer: a number below 0 has a minus before its digits
unfoldable pub integer : ℤ → List ℕ
integer (pos n) = decimal n
integer (negsuc n) = 45 ∷ decimal (suc n)

-- 0 to 9, then A to F
abbrev pub hex_digit : ℕ → ℕ
hex_digit d = cond (ltb d 10) (48 + d) (55 + d)

-- two capital hex digits for each byte
unfoldable pub hex : List ℕ → List ℕ
hex [] = []
hex (b ∷ bs) = hex_digit (b / 16) ∷ (hex_digit (b % 16) ∷ hex bs)
