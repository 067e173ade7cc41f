-- A whole pack: start, Config and writes one after the other, then the end.
use mathlib.Core.Path.{◌≡◌, refl, ap, ap₂, ◌∙◌}
use mathlib.Core.List.{List, [], ◌∷◌, ◌++◌, append_assoc}
use Prim.Native.Nat.{ℕ, ◌+◌, ◌-◌, ◌≤◌}
use native.Mathlib.Omega.{arith}
use lib.ListN.{length, take, replicate, length-append}
use Rattle.runs.specs.Over.{Wrote}
use Rattle.runs.proofs.Over.{take_over, wrote_length}
use Rattle.runs.proofs.Writing.{Writing, writing_begins}
use Rattle.numbers.specs.Lengths.{length_bytes}
use Rattle.pack.specs.Fixed.{key}
use Rattle.scrub_kept.specs.Scrubbed.{leaves}
use Rattle.scrub_write.specs.Packed.{framed, sealed, Packed}

-- key and length
abbrev pub starts : ℕ → List ℕ
starts size = key ++ length_bytes size

key_length : length key ≡ 16
unfolding key
key_length = refl

pub starts_length : (size : ℕ) → length (starts size) ≡ 16 + length (length_bytes size)
starts_length size = length-append key (length_bytes size) ∙ ap (λ (n : ℕ). n + length (length_bytes size)) key_length

pub whole_begins : (xs : List ℕ) (size : ℕ) (config ops : List ℕ) → size ≡ length (config ++ ops) + 6 → 16 + length (length_bytes size) + size ≤ length xs
    → Writing xs 0 (starts size ++ (config ++ ops)) xs 0 (starts size ++ (config ++ ops))
whole_begins xs size config ops e h =
    let l = starts_length size in
    let a = length-append (starts size) (config ++ ops) in
    writing_begins xs 0 (starts size ++ (config ++ ops)) (omega arith)

-- what stands before the end
before_end : {xs us : List ℕ} {n : ℕ} (ys : List ℕ) → Wrote xs 0 ys n us → take n us ≡ ys
before_end {xs} {us} {n} ys w =
    ap₂ take w.next w.buffer ∙ take_over xs 0 ys (omega arith)

framed_is : (size : ℕ) (content : List ℕ) → size ≡ length content + 6 → (starts size ++ content) ++ (3 ∷ 4 ∷ []) ≡ framed content
framed_is size content e = ap (λ (n : ℕ). (starts n ++ content) ++ (3 ∷ 4 ∷ [])) e ∙ simp append_assoc

pub whole_ends : {xs us vs : List ℕ} {n r : ℕ} (size : ℕ) (content : List ℕ) → size ≡ length content + 6 → 16 + length (length_bytes size) + size ≤ length xs
    → Wrote xs 0 (starts size ++ content) n us → Packed us (sealed (take n us ++ (3 ∷ 4 ∷ []))) r vs → Packed xs (sealed (framed content)) r vs
unfolding leaves
whole_ends {xs} {us} {vs} {n} {r} size content e h w p =
    let l = starts_length size in
    let a = length-append (starts size) content in
    let same : length us ≡ length xs = wrote_length {at = 0} (omega arith) w in
    let q : take n us ++ (3 ∷ 4 ∷ []) ≡ framed content = ap (λ (x : List ℕ). x ++ (3 ∷ 4 ∷ [])) (before_end (starts size ++ content) w) ∙ framed_is size content e in
    record {
      size = p.size ∙ ap (λ (x : List ℕ). length (sealed x)) q;
      buffer = p.buffer ∙ ap₂ (λ (m : ℕ) (x : List ℕ). sealed x ++ replicate (m - length (sealed x)) 0) same q;
    }
