-- What stands at a place is one thing.
use Rattle.std.proofs.Common.{◌≡◌, ap, ℕ}
use Rattle.pack.specs.Payloads.{Found, whole}
use Rattle.pack.specs.Items.{Steps, plain, opens}
use Rattle.pack.specs.declared.Element.{Element}
use Rattle.pack.specs.declared.Stretch.{Stretch}

abbrev value : ℕ → ℕ → Stretch
value v l = record { start = v; len = l }

abbrev element : ℕ → ℕ → ℕ → Element
element t v l = record { tag = t; value = value v l }

same_element : {t v l u w m : ℕ} → element t v l ≡ element u w m → (t ≡ u) × (v ≡ w) × (l ≡ m)
same_element e = (ap (λ (x : Element). x.tag) e, ap (λ (x : Element). x.value.start) e, ap (λ (x : Element). x.value.len) e)

pub same_whole : {r : Found} {t v l u w m : ℕ} → r ≡ whole t v l → r ≡ whole u w m → (t ≡ u) × (v ≡ w) × (l ≡ m)
same_whole {t = t} {v = v} {l = l} {u = u} {w = w} {m = m} e f = same_element (let i : element t v l ≡ element u w m = cc in i)

pub same_plain : {r : Steps} {t v l u w m : ℕ} → r ≡ plain t v l → r ≡ plain u w m → (t ≡ u) × (v ≡ w) × (l ≡ m)
same_plain {t = t} {v = v} {l = l} {u = u} {w = w} {m = m} e f = same_element (let i : element t v l ≡ element u w m = cc in i)

pub same_open : {r : Steps} {v l w m : ℕ} → r ≡ opens v l → r ≡ opens w m → (v ≡ w) × (l ≡ m)
same_open {v = v} {l = l} {w = w} {m = m} e f =
    let i : value v l ≡ value w m = cc in
    (ap (λ (x : Stretch). x.start) i, ap (λ (x : Stretch). x.len) i)
