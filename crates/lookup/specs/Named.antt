-- Trusted. The payloads that a pack says, in byte order, and which of them is the first with a label: of what packs say, wherever their bytes stand.
use Rattle.std.specs.Prelude.{◌≡◌, List, [], ◌∷◌, ◌++◌, ℕ, ℤ}
use Rattle.runs.specs.Those.{Each}
use Rattle.refusals.specs.Outcomes.{fine}
use Rattle.pack.specs.Said.{label, SaidPayload, SaidItem, single, sync}
use Rattle.pack.specs.Reading.{Read, reading}
use Rattle.pack.specs.Meaning.{meant}
use Rattle.pack.specs.Totals.{Totalled, totals}

-- all payloads in byte order, those inside Syncs included
unfoldable pub payloads_in : List SaidItem → List SaidPayload
payloads_in [] = []
payloads_in (single x ∷ r) = x ∷ payloads_in r
payloads_in (sync o d xs ∷ r) = xs ++ payloads_in r

-- no payload has the label l
abbrev pub Without : List ℕ → List SaidPayload → Type 0
Without l xs = Each (λ (x : SaidPayload). x.name ≡ label l → ⊥) xs

-- the first payload that has the label l has the value v
pub record First (l v : List ℕ) (xs : List SaidPayload) : Type 0 where
  pub before : List SaidPayload
  pub after : List SaidPayload
  pub stands : xs ≡ before ++ (record { name = label l; value = v } ∷ after)
  pub without : Without l before

-- and has the total offset n
pub record FirstTotal (l v : List ℕ) (n : ℤ) (xs : List Totalled) : Type 0 where
  pub before : List Totalled
  pub after : List Totalled
  pub stands : xs ≡ before ++ (record { payload = record { name = label l; value = v }; total = n } ∷ after)
  pub without : Each (λ (x : Totalled). x.payload.name ≡ label l → ⊥) before

-- the pack s is accepted, and the rule holds of the payloads that it says
pub record Says (s : List ℕ) (Rule : List SaidPayload → Type 0) : Type 0 where
  pub read : Read
  pub accepted : reading s ≡ fine read
  pub holds : Rule (payloads_in (meant s read).items)

-- or of them with their total offsets
pub record SaysTotals (s : List ℕ) (Rule : List Totalled → Type 0) : Type 0 where
  pub read : Read
  pub accepted : reading s ≡ fine read
  pub holds : Rule (totals (meant s read))
