-- Trusted. A number as a run of digits in a base, most significant first. Bits are base 2, tag groups base 128, bytes base 256.
use Rattle.std.specs.Prelude.{List, [], ◌∷◌, ℕ, zero, suc, ◌+◌, ◌*◌, ◌/◌, ◌%◌, ◌^◌, ◌<◌, get_or}

-- the k low digits of n in base b
unfoldable pub digits : ℕ → ℕ → ℕ → List ℕ
digits b zero n = []
digits b (suc k) n = n / b ^ k % b ∷ digits b k n

-- the number of a run of digits in base b that stands after the number n
unfoldable pub number_from : ℕ → ℕ → List ℕ → ℕ
number_from b n [] = n
number_from b n (d ∷ ds) = number_from b (n * b + d) ds

-- the number of a run of digits in base b
abbrev pub number : ℕ → List ℕ → ℕ
number b ds = number_from b 0 ds

-- each element of the list is below b
abbrev pub Below : ℕ → List ℕ → Type 0
Below b xs = (k : ℕ) → get_or xs k 0 < b

-- a list of bytes
abbrev pub Bytes : List ℕ → Type 0
Bytes s = Below 256 s
