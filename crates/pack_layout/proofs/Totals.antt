-- The number that each payload of an accepted reading carries is the exact sum of the pack's offset and, inside a Sync, the Sync's.
use mathlib.Core.Path.{◌≡◌, refl, ap, ap₂, ◌∙◌}
use mathlib.Core.List.{List, ◌∷◌, ◌++◌, map, flatten}
use mathlib.Core.Bool.{Bool}
use Prim.Native.Nat.{ℕ, ◌+◌, ◌<◌}
use lib.IntN.{ℤ}
use Rattle.runs.specs.Digits.{Bytes}
use Rattle.refusals.specs.Outcomes.{fine}
use Rattle.numbers.specs.Big.{big_at, signed32, extended, sum32}
use Rattle.numbers.proofs.Big.{big_lt}
use Rattle.numbers.proofs.Signs.{extended_exact, sum_exact}
use Rattle.pack.specs.Said.{SaidPayload}
use Rattle.pack.specs.Payloads.{Ground, payload}
use Rattle.pack.specs.Config.{labels_of}
use Rattle.pack.specs.Items.{Part}
use Rattle.pack.specs.Reading.{Read, reading}
use Rattle.pack.specs.Meaning.{meant_payload, meant_part, meant}
use Rattle.pack.specs.Totals.{Totalled, item_totals, totals, carries, part_carries, carried_totals}
use Rattle.pack.specs.declared.Payload.{Payload}
use Rattle.pack_layout.proofs.Accepts.{InnersRead, none_inside, next_inside, ItemsRead, ended, closed, next_plain, next_sync}
use Rattle.pack_layout.proofs.Opens.{reading_of}
use Rattle.pack_layout.proofs.Bounds.{reading_bounds}

module _ (s : List ℕ) (labels : List (List ℕ)) where
  -- a payload that carries z
  abbrev with : ℤ → SaidPayload → Totalled
  with z x = record { payload = x; total = z }

  inners_carry : {q : List ℕ} {grounds : Ground} {base at used : ℕ} {xs : List Payload} {z : ℤ} → signed32 grounds.total ≡ z → InnersRead q grounds base at used xs
      → map (carries s labels) xs ≡ map (with z) (map (meant_payload s labels) xs)
  inners_carry e (none_inside h) = refl
  inners_carry {grounds = grounds} {base = base} e (next_inside {at = at} t v l f h u r) =
      ap₂ (λ (z : ℤ) (xs : List Totalled). with z (meant_payload s labels (payload grounds (base + at) t (base + v) l)) ∷ xs) e (inners_carry e r)

  items_carry : {grounds : Ground} {at used : ℕ} {parts : List Part} {mark : Bool} (o : ℕ) → Bytes s → o < 65536 → grounds.total ≡ extended o → ItemsRead s grounds at used parts mark
      → flatten (map (part_carries s labels) parts) ≡ flatten (map (item_totals o) (map (meant_part s labels) parts))
  unfolding flatten
  items_carry o b h e (ended z) = refl
  items_carry o b h e (closed v f z c) = refl
  items_carry {grounds} o b h e (next_plain {at = at} t v l f g u r) =
      ap₂ (λ (z : ℤ) (xs : List Totalled). with z (meant_payload s labels (payload grounds at t v l)) ∷ xs) (ap signed32 e ∙ extended_exact o h) (items_carry o b h e r)
  items_carry o b h e (next_sync v l xs f g u n inner r) =
      let own = big_at s v 2 in
      let sum = ap (λ (m : ℕ). signed32 (sum32 m (extended own))) e ∙ sum_exact o own h (big_lt s v 2 b) in
      ap₂ (λ (us vs : List Totalled). us ++ vs) (inners_carry sum inner) (items_carry o b h e r)

pub totals_exact : (s : List ℕ) → Bytes s → (r : Read) → reading s ≡ fine r → carried_totals s r ≡ totals (meant s r)
unfolding meant
totals_exact s b r h = items_carry s (labels_of r.mappings) r.offset b (reading_bounds s b r h).offset refl (reading_of s r b h).items
