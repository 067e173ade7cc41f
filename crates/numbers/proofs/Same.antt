-- What was read of a number and the place after it is one thing.
use Rattle.std.proofs.Common.{◌≡◌, ap, ℕ}
use Rattle.numbers.specs.Reads.{Reads, read}

pub same_read : {r : Reads} {v w n m : ℕ} → r ≡ read v n → r ≡ read w m → (v ≡ w) × (n ≡ m)
same_read {v = v} {w = w} {n = n} {m = m} e f =
    let i : (v, n) ≡ (w, m) = cc in
    (ap (λ (x : ℕ × ℕ). x.0) i, ap (λ (x : ℕ × ℕ). x.1) i)
