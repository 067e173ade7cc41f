-- The bytes that are written for what is kept, and how many they are.
use mathlib.Core.Path.{◌≡◌, ap, ap₂, ◌∙◌}
use mathlib.Core.List.{List, [], ◌∷◌, ◌++◌, append_assoc}
use Prim.Native.Nat.{ℕ, ◌+◌, ◌≤◌}
use native.Mathlib.Omega.{arith}
use lib.ListN.{length, length-append}
use Rattle.runs.specs.Digits.{digits}
use Rattle.runs.proofs.Digits.{length_digits}
use Rattle.numbers.specs.Tags.{tag_bytes}
use Rattle.numbers.specs.Lengths.{form_bytes, shortest, length_bytes}
use Rattle.numbers.proofs.Tags.{tag_short}
use Rattle.crc.specs.Crc.{crc_of}
use Rattle.pack.specs.Fixed.{key}
use Rattle.pack.specs.Said.{Said}
use Rattle.pack_layout.specs.Layout.{element, before_crc, laid}
use Rattle.scrub_kept.specs.Written.{content_of, value_size, described, written}

-- the CRC payload up to its value
crc_begins : tag_bytes 3 ++ form_bytes 0 4 ≡ 3 ∷ 4 ∷ []
unfolding form_bytes
crc_begins = ap (λ (l : List ℕ). l ++ form_bytes 0 4) (tag_short 3 (omega arith))

-- up to and including the CRC's length
abbrev pub checked_bytes : Said → List ℕ
checked_bytes k = key ++ (length_bytes (value_size k) ++ (content_of k ++ (3 ∷ 4 ∷ [])))

before_is : (k : Said) → before_crc (described k) 0 ≡ checked_bytes k
unfolding before_crc described length_bytes
before_is k =
    let c = tag_bytes 3 ++ form_bytes 0 4 in
    let n : length c + 4 ≡ 6 = omega (arith, ap length crc_begins) in
    ap₂ (λ (m : ℕ) (l : List ℕ). (key ++ form_bytes (shortest (value_size k)) (length (content_of k) + m)) ++ (content_of k ++ l)) n crc_begins
    ∙ append_assoc key (form_bytes (shortest (value_size k)) (value_size k)) (content_of k ++ (3 ∷ 4 ∷ []))

pub written_bytes : (k : Said) → written k ≡ checked_bytes k ++ digits 256 4 (crc_of (checked_bytes k))
unfolding written laid described
written_bytes k = ap (λ (l : List ℕ). l ++ digits 256 4 (crc_of l)) (before_is k)

pub written_length : (k : Said) → length (written k) ≡ 16 + length (length_bytes (value_size k)) + value_size k
unfolding key
written_length k =
    let c = content_of k ++ (3 ∷ 4 ∷ []) in
    let n = length_bytes (value_size k) in
    let crc = digits 256 4 (crc_of (checked_bytes k)) in
    omega (
      arith,
      ap length (written_bytes k),
      length-append (checked_bytes k) crc,
      length_digits 256 4 (crc_of (checked_bytes k)),
      length-append key (n ++ c),
      length-append n c,
      length-append (content_of k) (3 ∷ 4 ∷ []),
    )

-- the value of an element, and what follows it, are no longer than both
pub element_fits : (t form : ℕ) (v r : List ℕ) (n : ℕ) → length (element t form v ++ r) ≤ n → (length v ≤ n) × (length r ≤ n)
element_fits t form v r n h =
    let a = length-append (element t form v) r in
    let b = length-append (tag_bytes t) (form_bytes form (length v) ++ v) in
    let c = length-append (form_bytes form (length v)) v in
    (omega arith, omega arith)
